use Rattle.std.proofs.Common.{◌≡◌, true, false, Vec, Global}
use Rattle.std.proofs.lemmas.Result.{err_from_is_err_and}
use Rattle.depot_base.specs.Format.{last_of}
use Rattle.depot_base.proofs.Writing.{goes_further}
use Rattle.depot_base.proofs.Loop.{goes_on, refused, failed}
use Rattle.depot_base.proofs.entry.entries_in.Goals as goal

pub returns-in_err-item-clause-reads : goal.returns-in_err-item-clause-reads
returns-in_err-item-clause-reads g c =
    let p = err_from_is_err_and c.from_residual-in_err-item.result c.from_residual-in_err-item.ensures.1 in
    rw (p.1, p.2) (failed (λ (v : Vec g.row.E.Denot Global). v.items) g.E.Entry.read (g.E.Entry.may_follow c.args.own) c.args.count c.loop.counter c.loop.list.items c.loop.fields c.in_err-item.field-0.0 _ c.read.new.fields c.loop-test.true c.in_err-item.ensures.reads c.loop.invariant.1)

pub returns-then-not-may_follow-clause-reads : goal.returns-then-not-may_follow-clause-reads
returns-then-not-may_follow-clause-reads g c =
    let may : g.E.Entry.may_follow c.args.own (last_of c.loop.list.items) c.in_ok-item.item ≡ false = cc (c.may_follow.ensures, c.if-not-may_follow.true, c.last.ensures.value, c.as_slice.ensures.value) in
    rw c.at-at.ensures (refused g.E.Entry.read (g.E.Entry.may_follow c.args.own) c.args.count c.loop.counter c.loop.list.items c.loop.fields c.in_ok-item.item c.read.new.fields _ c.loop-test.true c.in_ok-item.ensures.reads may c.loop.invariant.1)

pub loop-preserved : goal.loop-preserved
loop-preserved g c =
    let may : g.E.Entry.may_follow c.args.own (last_of c.loop.list.items) c.in_ok-item.item ≡ true = cc (c.may_follow.ensures, c.if-not-may_follow.false, c.last.ensures.value, c.as_slice.ensures.value) in (
      goes_further c.args.fields.now c.loop.fields c.read.new.fields c.loop.invariant.0 c.in_ok-item.ensures.stays,
      rw c.in_ok-push.ensures.items (goes_on g.E.Entry.read (g.E.Entry.may_follow c.args.own) c.args.count c.loop.counter c.loop.list.items c.loop.fields c.in_ok-item.item c.read.new.fields _ c.loop-test.true c.in_ok-item.ensures.reads may c.loop.invariant.1),
    )
