use Rattle.std.proofs.Common.{◌<◌, ℕ, List, get_or}
use Rattle.depot_model.specs.lists.Items.{children_of}
use Rattle.depot_graph.specs.Kept.{updates_in}
use Rattle.depot_graph.specs.UpdateRows.{IsJoinedRow}
use Rattle.depot_graph.specs.PastChains.{IsCovered}
use Rattle.depot_graph.proofs.covered.has_covered_child.Given as goal

abbrev pub invariant-loop-child : goal.invariant-loop-child
invariant-loop-child l = (items : List ℕ) → IsJoinedRow (updates_in l.graph.items.entries) items l.row → (j : ℕ) → j < l.child-index → IsCovered (updates_in l.graph.items.entries) items (get_or (children_of (updates_in l.graph.items.entries) l.item) j 0) → ⊥
