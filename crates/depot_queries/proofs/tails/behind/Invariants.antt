use Rattle.depot_graph.specs.Kept.{updates_in}
use Rattle.depot_queries.proofs.TailLaws.{AreBehind}
use Rattle.depot_queries.proofs.tails.behind.Given as goal

abbrev pub invariant-loop-chain : goal.invariant-loop-chain
invariant-loop-chain l = AreBehind (updates_in l.graph.items.entries) l.row l.chain l.found.items
