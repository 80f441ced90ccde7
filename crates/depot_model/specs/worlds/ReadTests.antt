-- Tests of what an update writes and of what a read shows.
use Rattle.std.specs.Prelude.{ℕ, List, length, Bool, true, false, ◌&&◌, ◌==◌, Option, Some, None, option_and_then}
use Rattle.std.specs.Option.{option_map_or}
use Rattle.std.specs.Str.{bytes_eq}
use Rattle.sha2.specs.Sha256.{sha256}
use Rattle.depot_base.specs.declared.write.Wrote.{Wrote}
use Rattle.depot_base.specs.declared.write.Wrote.TheVariants.{Put, Gone}
use Rattle.depot_base.specs.declared.update.Update.{Update}
use Rattle.depot_base.specs.declared.record.Record.{Record}
use Rattle.depot_base.specs.declared.record.Record.TheVariants.{OwnPut}
use Rattle.depot_model.specs.texts.Contents.{NamedValue, wrote_under, value_for, Sighting, held_value, not_held, gone}
use Rattle.depot_model.specs.texts.Texts.{text_of_update}

-- ---- the writes of an update

-- the value that a write names; none of a deletion
abbrev pub value_named : Wrote → Option NamedValue
value_named (Put hash size) = Some (record { hash = hash; size = size })
value_named Gone = None

-- the value that an update's write of a key names; none where it doesn't write the key, or deletes it
abbrev pub value_written : List ℕ → Update → Option NamedValue
value_written key u = option_and_then value_named (wrote_under key u.writes)

-- ---- tests of what a read shows

-- what a write says of its key is that it has this value
abbrev pub is_value_in : List ℕ → Wrote → Bool
is_value_in v (Put hash size) = bytes_eq hash (sha256 v) && (size == length v)
is_value_in v Gone = false

-- its write of the key names the hash and the length of this value
abbrev pub is_value_of : List ℕ → Update → List ℕ → Bool
is_value_of key u v = option_map_or (is_value_in v) (wrote_under key u.writes) false

-- the test holds of the value that is shown, if one is
abbrev pub if_held : Sighting → (List ℕ → Bool) → Bool
if_held (held_value v) test = test v
if_held not_held test = true
if_held gone test = true

-- a deletion is shown
abbrev pub is_gone : Sighting → Bool
is_gone gone = true
is_gone other = false

-- its write of the key is a deletion
abbrev pub is_deletion : Option Wrote → Bool
is_deletion (Some Gone) = true
is_deletion other = false

-- the record puts this update, and a value that is shown is the one that it holds for the write of the key
abbrev pub is_put_of : List ℕ → Update → Sighting → Record → Bool
is_put_of key u seen (OwnPut put values) =
    bytes_eq (text_of_update put) (text_of_update u) && if_held seen (λ v. option_map_or (bytes_eq v) (value_for key u.writes values) false)
is_put_of key u seen r = false
