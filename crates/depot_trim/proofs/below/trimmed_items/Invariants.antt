use Rattle.std.proofs.Common.{◌≡◌, map, take}
use Rattle.depot_graph.specs.Kept.{updates_in}
use Rattle.depot_trim.specs.Trimmings.{is_given_up_below}
use Rattle.depot_trim.proofs.below.trimmed_items.Given as goal

abbrev pub invariant-loop-item : goal.invariant-loop-item
invariant-loop-item l = l.trimmed.items ≡ map (is_given_up_below (updates_in l.below.items.entries)) (take l.item (updates_in l.graph.items.entries))
