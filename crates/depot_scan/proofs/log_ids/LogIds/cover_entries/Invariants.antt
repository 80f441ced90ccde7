use Rattle.std.proofs.Common.{map, take}
use Rattle.depot_scan.specs.Ids.{HasMore, is_id_covered}
use Rattle.depot_scan.proofs.log_ids.LogIds.cover_entries.Given as goal

abbrev pub invariant-loop-dep : goal.invariant-loop-dep
invariant-loop-dep l = HasMore (map (λ d. d.id) (take l.dep-index l.deps)) (is_id_covered l.fn.self) (is_id_covered l.self)
