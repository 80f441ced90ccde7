-- What an update writes, and what a proof shows. These words read them; their texts, the making of them and the judge's
-- points are in modules of their own.
use Rattle.std.specs.Prelude.{◌≡◌, ℕ, List, [], ◌∷◌, length, map, drop, slice_get, Bool, ◌&&◌, ◌==◌, Option, Some, None, if◌then◌else◌}
use Rattle.std.specs.List.{list_any}
use Rattle.std.specs.Str.{bytes_eq}
use Rattle.sha2.specs.Sha256.{sha256}
use Rattle.depot_base.specs.Statement.{writer_of}
use Rattle.depot_base.specs.Writes.{is_put, values_in}
pub use Rattle.depot_base.specs.Writes.{wrote_under}
pub use Rattle.depot_base.specs.Shown.{shown_first, shown_second, kind_shown, text_shown, halves, hollow_texts}
pub use Rattle.depot_base.specs.declared.update.NamedValue.{NamedValue}
use Rattle.depot_base.specs.declared.write.Write.{Write}
use Rattle.depot_base.specs.declared.write.Wrote.TheVariants.{Put}
use Rattle.depot_base.specs.declared.update.Update.{Update}
use Rattle.depot_base.specs.declared.proof.Proof.{Proof}
use Rattle.depot_base.specs.declared.record.Record.{Record}
use Rattle.depot_base.specs.declared.record.Record.TheVariants.{OwnPut}
use Rattle.depot_model.specs.lists.Lists.{IsIn, is_among}

-- ---- the keys and values of an update

-- the keys that an update writes
abbrev pub keys_written : Update → List (List ℕ)
keys_written u = map (λ w. w.key) u.writes

-- the update writes this key, as a fact and as a test
abbrev pub Writes : List ℕ → Update → Type 0
Writes key u = IsIn key (keys_written u)

abbrev pub writes : List ℕ → Update → Bool
writes key u = is_among key (keys_written u)

-- the values that its writes name, in the order of the writes
abbrev pub values_named : Update → List NamedValue
values_named u = values_in u.writes

-- one of its writes names this hash and this length
abbrev pub names_value : Update → List ℕ → ℕ → Bool
names_value u h size = list_any (λ n. bytes_eq n.hash h && (n.size == size)) (values_named u)

-- its write of the key names the hash and the length of this value
abbrev pub IsValueOf : List ℕ → Update → List ℕ → Type 0
IsValueOf key u value = wrote_under key u.writes ≡ Some (Put (sha256 value) (length value))

-- of the values that a record holds for writes, one for each that is no deletion, in their order: that for the write of the key
abbrev pub value_for : List ℕ → List Write → List (List ℕ) → Option (List ℕ)
value_for key [] values = None
value_for key (w ∷ ws) values =
    if bytes_eq w.key key
    then (if is_put w.what then slice_get values 0 else None)
    else value_for key ws (if is_put w.what then drop 1 values else values)

-- ---- what a read shows of a write

-- its value, or that its value isn't held, or that it is a deletion
pub data Sighting : Type 0 where
  held_value : List ℕ → Sighting
  not_held : Sighting
  gone : Sighting

-- this holds of the value that is shown, if one is
abbrev pub IfHeld : Sighting → (List ℕ → Type 0) → Type 0
IfHeld (held_value v) P = P v
IfHeld not_held P = Unit {0}
IfHeld gone P = Unit {0}

-- The record puts this update, and a value that is shown is the one that the record holds for its write of the key.
abbrev pub IsPutOf : List ℕ → Update → Sighting → Record → Type 0
IsPutOf key u seen (OwnPut put values) = (put ≡ u) × IfHeld seen (λ v. value_for key u.writes values ≡ Some v)
IsPutOf key u seen r = ⊥

-- ---- what a proof shows

-- the node that it accuses: the writer of the first of them
abbrev pub accused : Proof → ℕ
accused p = writer_of (shown_first p).statement
