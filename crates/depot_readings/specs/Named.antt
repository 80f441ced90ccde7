-- The values that accepted updates name.
use Rattle.std.specs.Prelude.{◌≡◌, ℕ, List, [], ◌∷◌, Bool, true, false, ◌&&◌, ◌==◌, is_some, Option, Some, None, if◌then◌else◌}
use Rattle.std.specs.BTreeMap.{BTreeMap, get}
use Rattle.std.specs.List.{flat_map, list_any}
use Rattle.std.specs.Cmp.Lexicographic.{slice_cmp}
use Rattle.std.specs.Ordering.{nat_cmp, ordering_then}
use Rattle.std.specs.Str.{bytes_eq}
use Rattle.std.specs.declared.cmp.Ordering.{Ordering}
use Rattle.depot_base.specs.declared.record.Record.{Record}
use Rattle.depot_base.specs.declared.record.Record.TheVariants.{OwnPut, Foreign}
use Rattle.depot_base.specs.declared.statement.Statement.{Statement}
use Rattle.depot_base.specs.declared.statement.Statement.TheVariants as statements
use Rattle.depot_base.specs.declared.update.Update.{Update}
use Rattle.depot_model.specs.texts.Contents.{NamedValue, values_named}
use Rattle.depot_model.specs.lists.Lists.{IsIn}
use Rattle.depot_model.specs.journals.Journal.{is_wanted}
use Rattle.depot_readings.specs.declared.named.NamedValues.{NamedValues}

-- ---- names

-- this is the value of this hash and of this many bytes
abbrev pub is_value_named : NamedValue → List ℕ → ℕ → Bool
is_value_named n hash size = bytes_eq n.hash hash && (n.size == size)

-- one of these names is that of the value
abbrev pub is_name : List NamedValue → List ℕ → ℕ → Bool
is_name given hash size = list_any (λ n. is_value_named n hash size) given

abbrev pub names_in_statement : Statement → List NamedValue
names_in_statement (statements.Update u) = values_named u
names_in_statement (statements.Voucher v) = []

abbrev pub names_in_record : Record → List NamedValue
names_in_record (OwnPut u values) = values_named u
names_in_record (Foreign s) = names_in_statement s.statement
names_in_record r = []

-- the values that a journal's new records name: own vouchers, or up to two records, of which the last may bring an update
abbrev pub names_in : List Record → List NamedValue
names_in [] = []
names_in (r ∷ []) = names_in_record r
names_in (p ∷ r ∷ rs) = names_in_record r

-- the values that updates name
abbrev pub values_named_in : List Update → List NamedValue
values_named_in us = flat_map values_named us

-- ---- marks

abbrev pub ValueMarks : Type 0
ValueMarks = BTreeMap NamedValue Bool

-- the order of names
abbrev pub compare_names : NamedValue → NamedValue → Ordering
compare_names a b = ordering_then (slice_cmp nat_cmp a.hash b.hash) (nat_cmp a.size b.size)

abbrev pub is_marked : Option Bool → Bool
is_marked None = false
is_marked (Some mark) = mark

abbrev pub has_value_mark : ValueMarks → NamedValue → Bool
has_value_mark marks n = is_some (get compare_names marks n)

-- the mark of this name is this one, and the others stay
pub record PutsMark (old new : ValueMarks) (name : NamedValue) (mark : Bool) : Type 0 where
  pub marks : (other : NamedValue) → get compare_names new other ≡ (if is_value_named name other.hash other.size then Some mark else get compare_names old other)

-- this name has no mark, and the others keep theirs
pub record TakesMark (old new : ValueMarks) (name : NamedValue) : Type 0 where
  pub marks : (other : NamedValue) → get compare_names new other ≡ (if is_value_named name other.hash other.size then None else get compare_names old other)

-- ---- what is seen

-- a value of this hash and of this many bytes is named
unfoldable pub has_named_value : NamedValues → List ℕ → ℕ → Bool
has_named_value named hash size = is_marked (get compare_names named.marks (record { hash = hash; size = size }))

-- there is room for a name
unfoldable pub has_room : NamedValues → NamedValue → Bool
has_room named n = has_value_mark named.marks n

-- and for each of these
abbrev pub HasRooms : NamedValues → List NamedValue → Type 0
HasRooms named given = (n : NamedValue) → IsIn n given → has_room named n ≡ true

-- the values that these updates name, and no others, are named
pub record AreNamed (us : List Update) (named : NamedValues) : Type 0 where
  pub are : (hash : List ℕ) (size : ℕ) → has_named_value named hash size ≡ is_wanted us hash size
