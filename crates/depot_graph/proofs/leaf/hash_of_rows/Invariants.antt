use Rattle.std.proofs.Common.{◌≡◌, List, ℕ, ◌++◌}
use Rattle.std.specs.List.{flat_map}
use Rattle.sha2.specs.Hashers.{Holds256}
use Rattle.depot_graph.specs.PastLeaves.{row_of}
use Rattle.depot_graph.proofs.leaf.hash_of_rows.Given as goal

abbrev pub invariant-loop-leaf : goal.invariant-loop-leaf
invariant-loop-leaf l = (m : List ℕ) × (Holds256 l.hasher m × (m ++ flat_map row_of l.leaf-iterator ≡ flat_map row_of l.leaves.keys))
