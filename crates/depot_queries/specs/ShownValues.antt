-- The value that is read of what is seen.
use Rattle.std.specs.Prelude.{◌≡◌, ℕ, List, Option, Some, None, slice_get}
use Rattle.depot_base.specs.declared.record.Record.{Record}
use Rattle.depot_base.specs.declared.update.Update.{Update}
use Rattle.depot_model.specs.texts.Contents.{Sighting, held_value, not_held, gone}
use Rattle.depot_model.specs.journals.Journal.{accepted, seen_under}

-- the held value; none of a deletion, and none where it isn't held
abbrev pub value_seen : Sighting → Option (List ℕ)
value_seen (held_value v) = Some v
value_seen not_held = None
value_seen gone = None

-- the value is the one that is read of what the update at a place writes under a key
abbrev pub IsWrittenAt : List Record → ℕ → List ℕ → Option (List ℕ) → Type 0
IsWrittenAt J item key value = (u : Update) → slice_get (accepted J) item ≡ Some u → value ≡ value_seen (seen_under J key u)
