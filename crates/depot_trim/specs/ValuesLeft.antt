-- Which values of a node a reader keeps.
use Rattle.std.specs.Prelude.{◌≡◌, ◌||◌, ℕ, List, Bool}
use Rattle.std.specs.List.{filter}
use Rattle.depot_base.specs.declared.record.Record.{Record}
use Rattle.depot_base.specs.declared.update.Update.{Update}
use Rattle.depot_model.specs.journals.Journal.{accepted, held, value_with}
use Rattle.depot_model.specs.readers.Readers.{left_of, is_named_by}
use Rattle.depot_kept.specs.Values as values
use Rattle.depot_kept.specs.declared.values.Values.{Values}
use Rattle.depot_trim.specs.Trimmings.{given_up, kept_of}

-- for any updates that these flags mark as given up: the values are those held in the journal that the remaining
-- updates name
abbrev pub AreValuesLeft : List Record → List Bool → Values → Type 0
AreValuesLeft J flags kept = (ts : List Update) (hash : List ℕ) → flags ≡ given_up ts (accepted J)
    → values.held_in kept hash ≡ value_with hash (filter (is_named_by (left_of ts (accepted J))) (held J))

-- ---- on the way

-- the values are those of the held ones that are wanted
abbrev pub AreWanted : List (List ℕ) → (List ℕ → ℕ → Bool) → Values → Type 0
AreWanted held wants kept = (hash : List ℕ) → values.held_in kept hash ≡ kept_of held wants hash

-- whichever of the held ones were kept, those that are wanted by this test are now kept too
abbrev pub KeepsMore : List (List ℕ) → (List ℕ → ℕ → Bool) → Values → Values → Type 0
KeepsMore held more old new = (wants : List ℕ → ℕ → Bool) → AreWanted held wants old → AreWanted held (λ hash size. wants hash size || more hash size) new
