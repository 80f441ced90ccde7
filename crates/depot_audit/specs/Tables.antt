-- Tables by hash: the first of each hash, and whether each hash had one alone.
use Rattle.std.specs.Prelude.{◌≡◌, ◌↔◌, ℕ, List, [], ◌∷◌, Bool, true, false, Option, Some, None, find, option_map, if◌then◌else◌}
use Rattle.std.specs.HashMap.{HashMap, get}
use Rattle.std.specs.Str.{bytes_eq}
use Rattle.std.specs.declared.hash.FoldHasher.{FoldHasher}
use Rattle.std.specs.declared.hash.BuildHasherDefault.{BuildHasherDefault}
use Rattle.sha2.specs.Sha256.{sha256}
use Rattle.depot_base.specs.declared.update.Update.{Update}
use Rattle.depot_model.specs.lists.Lists.{IsIn}
use Rattle.depot_model.specs.texts.Texts.{id_of_update}
use Rattle.depot_audit.specs.declared.met_updates.MetUpdate.{MetUpdate}
use Rattle.depot_audit.specs.declared.met_updates.Under.{Under}
use Rattle.depot_audit.specs.declared.met_updates.Under.TheVariants.{Nothing, Same, Other}

-- ---- keys

-- the first of these with this key
abbrev pub first_under : {X : Type 0} → (X → List ℕ) → List X → List ℕ → Option X
first_under key xs h = find (λ x. bytes_eq (key x) h) xs

-- no two different ones of these have one key
abbrev pub HaveOneKey : {X : Type 0} → (X → List ℕ) → List X → Type 0
HaveOneKey {X} key xs = (x y : X) → IsIn x xs → IsIn y xs → key x ≡ key y → x ≡ y

-- ---- updates

abbrev pub UpdateTable : Type 0
UpdateTable = HashMap (List ℕ) MetUpdate (BuildHasherDefault FoldHasher)

-- what is found under the id of an update
abbrev pub IsUnder : Option MetUpdate → Update → Under → Type 0
IsUnder None u Nothing = Unit {0}
IsUnder None u found = ⊥
IsUnder (Some x) u Nothing = ⊥
IsUnder (Some x) u (Same put) = (x.update ≡ u) × (x.put ≡ put)
IsUnder (Some x) u Other = x.update ≡ u → ⊥

-- this is under the id, and what is under the others stays
pub record PutsUpdate (old new : UpdateTable) (id : List ℕ) (met : MetUpdate) : Type 0 where
  pub table : (other : List ℕ) → get bytes_eq new other ≡ (if bytes_eq id other then Some met else get bytes_eq old other)

-- the update, where it was put
abbrev pub update_where : Bool → Update → List Update
update_where true u = u ∷ []
update_where false u = []

-- Under each id comes the first of these updates that has it, beside whether it is one of those that were put. They are
-- apart where each id has one update.
pub record AreMetUpdates (us ps : List Update) (table : UpdateTable) (apart : Bool) : Type 0 where
  pub first : (h : List ℕ) → option_map (λ x. x.update) (get bytes_eq table h) ≡ first_under id_of_update us h
  pub known : (u : Update) → IsIn u ps → IsIn u us
  pub put : (h : List ℕ) (x : MetUpdate) → get bytes_eq table h ≡ Some x → (x.put ≡ true ↔ IsIn x.update ps)
  pub one : apart ≡ true ↔ HaveOneKey id_of_update us

-- ---- values

abbrev pub ValueTable : Type 0
ValueTable = HashMap (List ℕ) (List ℕ) (BuildHasherDefault FoldHasher)

-- the same for values
pub record PutsValue (old new : ValueTable) (hash value : List ℕ) : Type 0 where
  pub table : (other : List ℕ) → get bytes_eq new other ≡ (if bytes_eq hash other then Some value else get bytes_eq old other)

-- Under each hash comes the first of these values that has it. They are apart where each hash has one value.
pub record AreMetValues (vs : List (List ℕ)) (table : ValueTable) (apart : Bool) : Type 0 where
  pub first : (h : List ℕ) → get bytes_eq table h ≡ first_under sha256 vs h
  pub one : apart ≡ true ↔ HaveOneKey sha256 vs
