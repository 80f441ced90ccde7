use Rattle.std.proofs.Common.{◌≡◌, map, take}
use Rattle.depot_model.specs.worlds.Audit.{is_parent}
use Rattle.depot_search.proofs.table.parent_table.Given as goal

abbrev pub invariant-loop-write : goal.invariant-loop-write
invariant-loop-write l = map (λ r. r.items) l.table.items ≡ map (λ t. map (λ u. is_parent t u) l.writes) (take l.write-index l.writes)
