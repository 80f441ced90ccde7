use Rattle.std.proofs.Common.{drop}
use Rattle.depot_decide.proofs.PutValues.{AreLeft}
use Rattle.depot_decide.proofs.record_check.are_values_of.Given as goal

abbrev pub invariant-loop-write : goal.invariant-loop-write
invariant-loop-write l = AreLeft l.writes l.values (drop l.write-index l.writes) (drop l.place l.values)
