use Rattle.std.proofs.Common.{◌≡◌, map, take}
use Rattle.depot_search.specs.Read.{is_unput}
use Rattle.depot_search.proofs.exact.unput.Given as goal

abbrev pub invariant-loop-write : goal.invariant-loop-write
invariant-loop-write l = l.row.items ≡ map (is_unput l.journals l.key l.answer) (take l.write-index l.writes)
