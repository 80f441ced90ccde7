-- What is seen of the values: which are held, and for which hashes there is room.
use Rattle.std.specs.Prelude.{ℕ, Bool, List, Option}
use Rattle.depot_kept.specs.ValueSlots.{value_in_slot, has_slot}
use Rattle.depot_kept.specs.declared.values.Values.{Values}

-- the value with this hash
unfoldable pub held_in : Values → List ℕ → Option (List ℕ)
held_in values hash = value_in_slot values.slots hash

-- whether a value with this hash can be added without more memory
unfoldable pub has_value_room : Values → List ℕ → Bool
has_value_room values hash = has_slot values.slots hash
