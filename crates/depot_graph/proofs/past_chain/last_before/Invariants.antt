use Rattle.depot_graph.specs.Kept.{updates_in}
use Rattle.depot_graph.proofs.ChainLeaves.{IsReached}
use Rattle.depot_graph.proofs.past_chain.last_before.Given as goal

abbrev pub invariant-loop-item : goal.invariant-loop-item
invariant-loop-item l = IsReached (updates_in l.graph.items.entries) l.chain l.place l.item

abbrev pub decreases-loop-item : goal.decreases-loop-item
decreases-loop-item l = l.item
