use Rattle.std.proofs.Common.{◌≡◌, ◌<◌, length, take}
use Rattle.std.specs.List.{AllByRecursion}
use Rattle.depot_model.specs.lists.Items.{places_of}
use Rattle.depot_graph.specs.Kept.{updates_in}
use Rattle.depot_trim.specs.Trimmings.{ids_in}
use Rattle.depot_trim.proofs.leaf_items.leaf_items.Given as goal

abbrev pub invariant-loop-leaf : goal.invariant-loop-leaf
invariant-loop-leaf l = record {
  items : l.items.items ≡ places_of (updates_in l.graph.items.entries) (take l.leaf-index (ids_in l.leaves));
  inside : AllByRecursion (λ item. item < length (updates_in l.graph.items.entries)) l.items.items;
}
