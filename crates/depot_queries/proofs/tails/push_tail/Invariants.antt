use Rattle.depot_graph.specs.Kept.{updates_in}
use Rattle.depot_queries.proofs.TailLaws.{IsPassed}
use Rattle.depot_queries.proofs.tails.push_tail.Given as goal

abbrev pub invariant-loop-found : goal.invariant-loop-found
invariant-loop-found l = IsPassed (updates_in l.graph.items.entries) l.chain l.from l.initial.found.items l.found.items l.item

abbrev pub decreases-loop-found : goal.decreases-loop-found
decreases-loop-found l = l.item
