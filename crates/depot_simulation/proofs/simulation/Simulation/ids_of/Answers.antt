use Rattle.std.proofs.Common.{sym, ◌∙◌}
use Rattle.depot_simulation.proofs.LabelledUpdates.{all_ids, no_id, no_ids, one_id}
use Rattle.depot_simulation.proofs.simulation.Simulation.ids_of.Goals as goal

pub loop-r-init : goal.loop-r-init
loop-r-init g c = λ setup run at. no_ids run c.args.refs.now c.new-ids.result c.new-ids.ensures

pub returns-in_default : goal.returns-in_default
returns-in_default g c = λ setup run at. no_id run c.args.refs.now c.loop-r.r-index c.r-item.result c.loop-r-test.true c.r-item.is (sym c.in_default.is ∙ c.in_ok-id.ensures setup run at)

pub loop-r-preserved : goal.loop-r-preserved
loop-r-preserved g c = λ setup run at.
    one_id run c.args.refs.now c.loop-r.r-index c.r-item.result c.in-Some.id c.loop-r.ids c.push.new.self c.loop-r-test.true c.r-item.is (sym c.in-Some.is ∙ c.in_ok-id.ensures setup run at) c.in_ok-push.ensures.ok (c.loop-r.invariant setup run at)

pub returns : goal.returns
returns g c = λ setup run at. all_ids run c.args.refs.now c.loop-r.r-index c.loop-r.ids c.loop-r-test.false (c.loop-r.invariant setup run at)
