use Rattle.std.proofs.Common.{◌≡◌, not, take}
use Rattle.std.specs.List.{filter}
use Rattle.depot_model.specs.checks.Vouching.{is_mine_vouched}
use Rattle.depot_gossip.proofs.preparing.unvouched_of.Given as goal

abbrev pub invariant-loop-id : goal.invariant-loop-id
invariant-loop-id g l = l.left ≡ filter (λ id. not (is_mine_vouched (g.R.NodeState.records l.node) id)) (take l.id-index l.id-items)
