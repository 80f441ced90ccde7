use Rattle.std.proofs.Common.{◌≡◌, true, false, List}
use Rattle.std.proofs.lemmas.Result.{err_from_is_err_and}
use Rattle.depot_base.specs.Format.{last_of, list_of}
use Rattle.depot_base.specs.declared.write.Change.{Change}
use Rattle.depot_base.proofs.Loop.{goes_on, refused, failed}
use Rattle.depot_requests.specs.ChangeTexts.{change_follows, change_text}
use Rattle.depot_requests.proofs.ReadChanges.{fault_told}
use Rattle.depot_requests.proofs.changes.changes_in.Goals as goal

pub returns-in_err-item : goal.returns-in_err-item
unfolding list_of
returns-in_err-item c =
    let p = err_from_is_err_and c.from_residual-in_err-item.result c.from_residual-in_err-item.ensures.1 in
    rw (p.1, p.2) (fault_told (λ (cs : List Change). cs) c.in_err-item.field-0.0 _ _ (failed (λ (cs : List Change). cs) change_text.read change_follows c.args.count c.loop.counter c.loop.list.items c.loop.fields c.in_err-item.field-0.0 _ c.change_in.new.fields c.loop-test.true c.in_err-item.ensures.reads c.loop.invariant))

pub returns-then-not-may_follow : goal.returns-then-not-may_follow
unfolding list_of
returns-then-not-may_follow c =
    let may : change_follows (last_of c.loop.list.items) c.in_ok-item.item ≡ false = cc (c.may_follow.ensures, c.if-not-may_follow.true, c.last.ensures.value, c.as_slice.ensures.value) in
    rw c.at-at.ensures (refused change_text.read change_follows c.args.count c.loop.counter c.loop.list.items c.loop.fields c.in_ok-item.item c.change_in.new.fields _ c.loop-test.true c.in_ok-item.ensures.reads may c.loop.invariant)

pub loop-preserved : goal.loop-preserved
loop-preserved c =
    let may : change_follows (last_of c.loop.list.items) c.in_ok-item.item ≡ true = cc (c.may_follow.ensures, c.if-not-may_follow.false, c.last.ensures.value, c.as_slice.ensures.value) in
    rw c.in_ok-push.ensures.items (goes_on change_text.read change_follows c.args.count c.loop.counter c.loop.list.items c.loop.fields c.in_ok-item.item c.change_in.new.fields _ c.loop-test.true c.in_ok-item.ensures.reads may c.loop.invariant)
