use Rattle.std.proofs.Common.{◌≡◌, false, take}
use Rattle.std.specs.List.{list_any}
use Rattle.depot_graph.specs.Kept.{updates_in}
use Rattle.depot_trim.specs.Trimmings.{ids_in, signs_as}
use Rattle.depot_trim.proofs.unsigned.is_unsigned.Given as goal

abbrev pub invariant-loop-item : goal.invariant-loop-item
invariant-loop-item l = list_any (signs_as (updates_in l.graph.items.entries) l.sought.text.now (ids_in l.sought.leaves.now) l.entry.node) (take l.item (updates_in l.graph.items.entries)) ≡ false
