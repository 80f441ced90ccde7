use Rattle.std.proofs.Common.{◌≡◌, ℕ, List, take}
use Rattle.depot_kept.specs.Values.{held_in}
use Rattle.depot_readings.specs.AddedValues.{HasRoomForAll}
use Rattle.depot_readings.proofs.kept.reserve_values.Given as goal

abbrev pub invariant-loop-name : goal.invariant-loop-name
invariant-loop-name l = record {
  room : HasRoomForAll (take l.name-index l.names) l.kept;
  same : (hash : List ℕ) → held_in l.kept hash ≡ held_in l.initial.kept hash;
}
