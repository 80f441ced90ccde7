use Rattle.std.proofs.Common.{◌≡◌, ℕ, List, take}
use Rattle.depot_readings.specs.Named.{has_named_value, HasRooms}
use Rattle.depot_readings.proofs.named.NamedValues.reserve.Given as goal

abbrev pub invariant-loop-name : goal.invariant-loop-name
invariant-loop-name l = record {
  room : HasRooms l.self (take l.name-index l.given);
  same : (hash : List ℕ) (size : ℕ) → has_named_value l.self hash size ≡ has_named_value l.initial.self hash size;
}
