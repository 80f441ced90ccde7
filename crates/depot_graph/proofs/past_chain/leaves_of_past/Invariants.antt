use Rattle.std.proofs.Common.{◌<◌, ℕ, List, length}
use Rattle.std.specs.List.{AllByRecursion}
use Rattle.depot_graph.specs.Kept.{updates_in}
use Rattle.depot_graph.specs.UpdateRows.{IsJoinedRow}
use Rattle.depot_graph.proofs.ChainLeaves.{AreFound}
use Rattle.depot_graph.proofs.past_chain.leaves_of_past.Given as goal

abbrev pub invariant-loop-chain : goal.invariant-loop-chain
invariant-loop-chain l = record {
  inside : AllByRecursion (λ n. n < length (updates_in l.graph.items.entries)) l.found.items;
  found : (items : List ℕ) → IsJoinedRow (updates_in l.graph.items.entries) items l.row → AreFound (updates_in l.graph.items.entries) items l.found.items l.chain;
}
