use Rattle.std.proofs.Common.{◌≡◌, map, take}
use Rattle.depot_model.specs.updates.History.{by_id}
use Rattle.depot_graph.specs.Kept.{updates_in}
use Rattle.depot_graph.specs.PastLeaves.{leaf_in, updates_at_places}
use Rattle.depot_graph.proofs.history.sorted.Given as goal

abbrev pub invariant-loop-item : goal.invariant-loop-item
invariant-loop-item l = l.leaves.keys ≡ map (leaf_in (updates_in l.graph.items.entries)) (by_id (updates_at_places (updates_in l.graph.items.entries) (take l.item-index l.items)))
