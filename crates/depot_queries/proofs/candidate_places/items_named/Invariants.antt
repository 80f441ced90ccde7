use Rattle.std.proofs.Common.{◌≡◌, ◌<◌, length, take}
use Rattle.std.specs.List.{AllByRecursion}
use Rattle.depot_model.specs.lists.Items.{places_of}
use Rattle.depot_graph.specs.Kept.{updates_in}
use Rattle.depot_queries.proofs.candidate_places.items_named.Given as goal

abbrev pub invariant-loop-id : goal.invariant-loop-id
invariant-loop-id l = record {
  items : l.items.items ≡ places_of (updates_in l.graph.items.entries) (take l.id-index l.ids);
  inside : AllByRecursion (λ item. item < length (updates_in l.graph.items.entries)) l.items.items;
}
