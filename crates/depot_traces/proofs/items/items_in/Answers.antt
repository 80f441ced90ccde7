use Rattle.std.proofs.Common.{refl, Vec, Global}
use Rattle.std.proofs.lemmas.Result.{err_from_is_err_and}
use Rattle.depot_base.proofs.Writing.{goes_further}
use Rattle.depot_base.proofs.Loop.{goes_on, failed}
use Rattle.depot_traces.specs.TraceTexts.{any_follows}
use Rattle.depot_traces.proofs.items.items_in.Goals as goal

pub returns-in_err-item-clause-reads : goal.returns-in_err-item-clause-reads
returns-in_err-item-clause-reads g c =
    let p = err_from_is_err_and c.from_residual.result c.from_residual.ensures.1 in
    rw (p.1, p.2) (failed (λ (v : Vec g.row.I.Denot Global). v.items) g.I.Item.read any_follows c.args.count c.loop.counter c.loop.list.items c.loop.fields c.in_err-item.field-0.0 _ c.read.new.fields c.loop-test.true c.in_err-item.ensures.reads c.loop.invariant.1)

pub loop-preserved : goal.loop-preserved
loop-preserved g c = (
  goes_further c.args.fields.now c.loop.fields c.read.new.fields c.loop.invariant.0 c.in_ok-item.ensures.stays,
  rw c.in_ok-push.ensures.items (goes_on g.I.Item.read any_follows c.args.count c.loop.counter c.loop.list.items c.loop.fields c.in_ok-item.item c.read.new.fields _ c.loop-test.true c.in_ok-item.ensures.reads refl c.loop.invariant.1),
)
