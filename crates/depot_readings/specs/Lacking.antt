-- The values that accepted updates name and that aren't held in their length.
use Rattle.std.specs.Prelude.{◌≡◌, ℕ, List, [], ◌∷◌, Bool, false, not, length, ◌&&◌, ◌==◌, Option, Some, None, if◌then◌else◌}
use Rattle.std.specs.Option.{option_map_or}
use Rattle.std.specs.Str.{bytes_eq}
use Rattle.sha2.specs.Sha256.{sha256}
use Rattle.depot_base.specs.Format.{last_of}
use Rattle.depot_base.specs.declared.record.Record.{Record}
use Rattle.depot_base.specs.declared.record.Record.TheVariants.{Held}
use Rattle.depot_model.specs.texts.Contents.{NamedValue}
use Rattle.depot_model.specs.journals.Journal.{accepted, holds, is_wanted}
use Rattle.depot_kept.specs.Values.{held_in}
use Rattle.depot_kept.specs.declared.values.Values.{Values}
use Rattle.depot_readings.specs.Named.{has_named_value}
use Rattle.depot_readings.specs.declared.named.NamedValues.{NamedValues}

-- ---- what is kept

-- a value of this hash and of this many bytes is among the values
abbrev pub is_held : Values → List ℕ → ℕ → Bool
is_held values hash size = option_map_or (λ v. length v == size) (held_in values hash) false

-- an accepted update names it, and it isn't held
abbrev pub is_lacked : List Record → List ℕ → ℕ → Bool
is_lacked J hash size = is_wanted (accepted J) hash size && not (holds J hash size)

-- the names are those of the values that are named and not held
pub record AreLacked (J : List Record) (lacking : NamedValues) : Type 0 where
  pub are : (hash : List ℕ) (size : ℕ) → has_named_value lacking hash size ≡ is_lacked J hash size

-- ---- values that come

-- the name of a value
abbrev pub value_name : List ℕ → NamedValue
value_name v = record { hash = sha256 v; size = length v }

-- the names of the values of others that new records bring
abbrev pub name_brought : Record → List NamedValue
name_brought (Held v) = value_name v ∷ []
name_brought r = []

abbrev pub names_brought : List Record → List NamedValue
names_brought [] = []
names_brought (r ∷ []) = name_brought r
names_brought (p ∷ r ∷ rs) = []

-- ---- the hashes of names

abbrev pub is_same : Option (List ℕ) → List ℕ → Bool
is_same None hash = false
is_same (Some before) hash = bytes_eq before hash

-- the name is in the set, and its hash isn't the last of these
abbrev pub is_next : List (List ℕ) → NamedValue × Bool → Bool
is_next found e = e.1 && not (is_same (last_of found) e.0.hash)

-- the hashes of the names in the set, without one that is that of the name before
unfoldable pub hashes_behind : Option (List ℕ) → List (NamedValue × Bool) → List (List ℕ)
hashes_behind before [] = []
hashes_behind before (e ∷ es) = if e.1 && not (is_same before e.0.hash) then e.0.hash ∷ hashes_behind (Some e.0.hash) es else hashes_behind before es
