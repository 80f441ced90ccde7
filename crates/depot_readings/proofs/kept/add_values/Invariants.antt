use Rattle.std.proofs.Common.{◌≡◌, length}
use Rattle.std.specs.Vec.Iter.{into_iter_items, into_iter_len}
use Rattle.depot_readings.specs.AddedValues.{HasRoomForAll}
use Rattle.depot_readings.proofs.AddingLaws.{AreIn}
use Rattle.depot_readings.proofs.kept.add_values.Given as goal

abbrev pub invariant-loop-value : goal.invariant-loop-value
invariant-loop-value l = record {
  count : into_iter_len l.value-iterator ≡ length (into_iter_items l.value-iterator);
  added : AreIn l.fn.values.items (into_iter_items l.value-iterator) l.place l.initial.kept l.kept;
  room : HasRoomForAll l.names l.kept;
}
