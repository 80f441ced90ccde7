use Rattle.std.proofs.Common.{◌≡◌, Some, true, take}
use Rattle.std.specs.Prelude.{slice_get}
use Rattle.depot_base.specs.declared.update.Update.{Update}
use Rattle.depot_graph.specs.Kept.{updates_in}
use Rattle.depot_trim.specs.Trimmings.{ids_in, has_all_in_past}
use Rattle.depot_trim.proofs.unsigned.follows_all.Given as goal

abbrev pub invariant-loop-leaf : goal.invariant-loop-leaf
invariant-loop-leaf l = (u : Update) → slice_get (updates_in l.graph.items.entries) l.item ≡ Some u → has_all_in_past (updates_in l.graph.items.entries) (take l.leaf-index (ids_in l.leaves)) u ≡ true
