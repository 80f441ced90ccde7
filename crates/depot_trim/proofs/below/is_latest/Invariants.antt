use Rattle.std.proofs.Common.{◌≡◌, Some, false, map, take}
use Rattle.std.specs.Prelude.{slice_get}
use Rattle.std.specs.List.{list_any}
use Rattle.depot_base.specs.declared.update.Update.{Update}
use Rattle.depot_model.specs.journals.Journal.{has_id}
use Rattle.depot_model.specs.updates.LatestList.{latest_in}
use Rattle.depot_model.specs.texts.Texts.{id_of_update}
use Rattle.depot_graph.specs.Kept.{updates_in}
use Rattle.depot_trim.proofs.below.is_latest.Given as goal

abbrev pub invariant-loop-write : goal.invariant-loop-write
invariant-loop-write l = (u : Update) → slice_get (updates_in l.graph.items.entries) l.item ≡ Some u → list_any (λ key. has_id (latest_in key (updates_in l.graph.items.entries)) (id_of_update u)) (take l.write-index (map (λ w. w.key) l.writes)) ≡ false
