use Rattle.std.proofs.Common.{◌≡◌, take}
use Rattle.depot_base.specs.Writes.{values_in}
use Rattle.depot_readings.proofs.named.names_in_update.Given as goal

abbrev pub invariant-loop-write : goal.invariant-loop-write
invariant-loop-write l = l.list.items ≡ values_in (take l.write-index l.update.writes)
