use Rattle.std.proofs.Common.{◌≡◌, take}
use Rattle.std.specs.List.{filter}
use Rattle.depot_model.specs.exchange.Bundle.{is_covered}
use Rattle.depot_graph.specs.Kept.{updates_in}
use Rattle.depot_trim.specs.Trimmings.{ids_in}
use Rattle.depot_trim.proofs.below.graph_below.Given as goal

abbrev pub invariant-loop-item : goal.invariant-loop-item
invariant-loop-item l = updates_in l.below.items.entries ≡ filter (is_covered (updates_in l.graph.items.entries) (ids_in l.leaves)) (take l.item (updates_in l.graph.items.entries))
