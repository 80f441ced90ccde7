use Rattle.std.proofs.Common.{◌≡◌, map, take}
use Rattle.depot_search.specs.Read.{is_answered}
use Rattle.depot_search.proofs.exact.answered.Given as goal

abbrev pub invariant-loop-write : goal.invariant-loop-write
invariant-loop-write l = l.row.items ≡ map (is_answered l.answer) (take l.write-index l.writes)
