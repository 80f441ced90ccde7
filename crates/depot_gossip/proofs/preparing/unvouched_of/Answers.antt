use Rattle.std.proofs.Common.{List, ℕ, not, ap, ◌∙◌, arith}
use Rattle.std.specs.List.{filter}
use Rattle.std.proofs.lemmas.List.{take_all}
use Rattle.depot_model.specs.checks.Vouching.{is_mine_vouched}
use Rattle.depot_gossip.proofs.LeftIds.{left_push}
use Rattle.depot_gossip.proofs.preparing.unvouched_of.Goals as goal

pub returns : goal.returns
returns g c = c.loop-id.invariant ∙ ap (filter (λ (i : List ℕ). not (is_mine_vouched (g.R.NodeState.records c.args.node.now) i))) (take_all c.loop-id.id-index c.as_slice-id-items.result.now (omega arith) ∙ c.as_slice-id-items.ensures)

pub loop-id-preserved : goal.loop-id-preserved
loop-id-preserved g c = left_push (g.R.NodeState.records c.args.node.now) c.as_slice-id-items.result.now c.loop-id.left c.add_unvouched.new.left c.loop-id.id-index c.id-item.result c.loop-id-test.true c.id-item.is c.loop-id.invariant c.in_ok-add_unvouched.ensures
