use Rattle.std.proofs.Common.{◌≡◌, map, take}
use Rattle.depot_graph.specs.Kept.{updates_in}
use Rattle.depot_graph.specs.PastLeaves.{updates_at_places}
use Rattle.depot_model.specs.updates.History.{by_id}
use Rattle.depot_queries.specs.ItemPlaces.{leaf_with_place}
use Rattle.depot_queries.proofs.leaf_order.leaves_in_order.Given as goal

abbrev pub invariant-loop-item : goal.invariant-loop-item
invariant-loop-item g l = l.leaves.keys ≡ map (leaf_with_place l.readings.records) (by_id (updates_at_places (updates_in l.graph.items.entries) (take l.item-index l.items)))
