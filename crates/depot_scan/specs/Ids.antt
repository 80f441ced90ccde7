-- The table of ids: which it knows, and which of those are covered.
use Rattle.std.specs.Prelude.{◌≡◌, ℕ, List, ◌||◌, Bool, false, Some, is_some, unwrap_or, if◌then◌else◌}
use Rattle.std.specs.HashMap.{HashMap, get}
use Rattle.std.specs.Str.{bytes_eq}
use Rattle.std.specs.declared.hash.FoldHasher.{FoldHasher}
use Rattle.std.specs.declared.hash.BuildHasherDefault.{BuildHasherDefault}
use Rattle.depot_model.specs.lists.Lists.{is_among}
use Rattle.depot_scan.specs.declared.log_ids.LogIds.{LogIds}

abbrev pub IdMarks : Type 0
IdMarks = HashMap (List ℕ) Bool (BuildHasherDefault FoldHasher)

-- whether the id has a mark
abbrev pub is_id_marked : IdMarks → List ℕ → Bool
is_id_marked marks h = is_some (get bytes_eq marks h)

-- the id has this mark, and the others stay
pub record PutsIdMark (old new : IdMarks) (id : List ℕ) (mark : Bool) : Type 0 where
  pub marks : (other : List ℕ) → get bytes_eq new other ≡ (if bytes_eq id other then Some mark else get bytes_eq old other)

-- whether the table has the id
abbrev pub knows : LogIds → List ℕ → Bool
knows ids h = is_id_marked ids.marks h

-- whether the id is covered
abbrev pub is_id_covered : LogIds → List ℕ → Bool
is_id_covered ids h = unwrap_or (get bytes_eq ids.marks h) false

-- no id is covered
pub record IsUncovered (ids : LogIds) : Type 0 where
  pub none : (h : List ℕ) → is_id_covered ids h ≡ false

-- there is no id
pub record IsBlank (ids : LogIds) : Type 0 where
  pub none : (h : List ℕ) → knows ids h ≡ false
  pub uncovered : IsUncovered ids

-- what held of ids holds of these too, and of no other
abbrev pub HasMore : List (List ℕ) → (List ℕ → Bool) → (List ℕ → Bool) → Type 0
HasMore hs old new = (h : List ℕ) → new h ≡ (is_among h hs || old h)
