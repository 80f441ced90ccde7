-- Slots by hash, each with a value or with room for one.
use Rattle.std.specs.Prelude.{◌≡◌, ℕ, Bool, List, Option, Some, is_some, option_and_then, if◌then◌else◌}
use Rattle.std.specs.HashMap.{HashMap, get}
use Rattle.std.specs.Str.{bytes_eq}
use Rattle.std.specs.declared.hash.FoldHasher.{FoldHasher}
use Rattle.std.specs.declared.hash.BuildHasherDefault.{BuildHasherDefault}
use Rattle.sha2.specs.Sha256.{sha256}

abbrev pub Slots : Type 0
Slots = HashMap (List ℕ) (Option (List ℕ)) (BuildHasherDefault FoldHasher)

-- whether the hash has a slot
abbrev pub has_slot : Slots → List ℕ → Bool
has_slot slots hash = is_some (get bytes_eq slots hash)

-- the value in the slot of this hash
abbrev pub value_in_slot : Slots → List ℕ → Option (List ℕ)
value_in_slot slots hash = option_and_then (λ slot. slot) (get bytes_eq slots hash)

-- each value has the hash of its slot
abbrev pub AreSlotsHashed : Slots → Type 0
AreSlotsHashed slots = (hash value : List ℕ) → value_in_slot slots hash ≡ Some value → sha256 value ≡ hash

-- the slot of this hash is this one, and the others stay
pub record PutsSlot (old new : Slots) (hash : List ℕ) (slot : Option (List ℕ)) : Type 0 where
  pub slots : (other : List ℕ) → get bytes_eq new other ≡ (if bytes_eq hash other then Some slot else get bytes_eq old other)
