-- Which update precedes which, and the latest writes of a key.
use Rattle.std.specs.Prelude.{◌≡◌, ℕ, List, [], ◌∷◌, ◌++◌, Bool, true, map, if◌then◌else◌}
use Rattle.std.specs.List.{AllByRecursion, list_any}
use Rattle.std.specs.Str.{bytes_eq}
use Rattle.std.specs.declared.cmp.Ordering.{Ordering}
use Rattle.std.specs.Ordering.{nat_cmp, is_lt, ordering_then}
use Rattle.std.specs.Cmp.Lexicographic.{slice_cmp}
use Rattle.depot_base.specs.Pairs.{AllPairsByRecursion}
use Rattle.depot_base.specs.Zeros.{zeros}
use Rattle.depot_base.specs.declared.update.Update.{Update}
use Rattle.depot_model.specs.lists.Lists.{IsIn, is_among}
use Rattle.depot_model.specs.texts.Contents.{Writes}
use Rattle.depot_model.specs.texts.Texts.{id_of_update}

-- ---- paths

-- each step from x over the stops to z is one of these
abbrev pub IsPath : {X : Type 0} → (X → X → Type 0) → X → List X → X → Type 0
IsPath step x [] z = step x z
IsPath step x (y ∷ ys) z = step x y × IsPath step y ys z

-- one step or more lead from x to z
pub record Leads {X : Type 0} (step : X → X → Type 0) (x z : X) : Type 0 where
  pub stops : List X
  pub path : IsPath step x stops z

-- ---- parents and precedence

-- the id of the prev, unless it is 32 zero bytes, which name nothing
abbrev pub prevs : Update → List (List ℕ)
prevs u = if bytes_eq u.prev zeros then [] else u.prev ∷ []

-- the ids of the parents: the prev's, and each entry's
abbrev pub parents : Update → List (List ℕ)
parents u = prevs u ++ map (λ d. d.id) u.deps

-- both are among these updates, and t is a parent of u
pub record IsParent (among : List Update) (t u : Update) : Type 0 where
  pub above : IsIn t among
  pub below : IsIn u among
  pub named : IsIn (id_of_update t) (parents u)

-- A path of parents, at least one step long, leads from u down to t.
abbrev pub Precedes : List Update → Update → Update → Type 0
Precedes among = Leads (IsParent among)

-- t is a parent of one of these
abbrev pub is_named : Update → List Update → Bool
is_named t us = list_any (λ u. is_among (id_of_update t) (parents u)) us

-- The past of u in a list, in which each parent comes before its children: what u names, or something in its past does.
unfoldable pub past : Update → List Update → List Update
past u [] = []
past u (t ∷ ts) = if is_named t (u ∷ past u ts) then t ∷ past u ts else past u ts

-- Each parent of each update comes before it, and no id occurs twice; these ids come before them all.
unfoldable pub IsCausal : List (List ℕ) → List Update → Type 0
IsCausal ids [] = Unit {0}
IsCausal ids (u ∷ us) = AllByRecursion (λ h. IsIn h ids) (parents u) × ((IsIn (id_of_update u) ids → ⊥) × IsCausal (id_of_update u ∷ ids) us)

-- ---- latest writes

-- the listed order: by clock, writer, seq and id
abbrev pub listed : Update → Update → Ordering
listed t u = ordering_then (nat_cmp t.clock u.clock) (ordering_then (nat_cmp t.writer u.writer) (ordering_then (nat_cmp t.seq u.seq) (slice_cmp nat_cmp (id_of_update t) (id_of_update u))))

-- each is in the listed order before all that come after it
abbrev pub RisesStrictly : List Update → Type 0
RisesStrictly = AllPairsByRecursion (λ t u. is_lt (listed t u) ≡ true)

-- u is one of the set, writes the key, and precedes no write of the key in the set; where nothing precedes itself, that is: no other
pub record IsLatest (wanted : List ℕ) (among : Update → Type 0) (order : Update → Update → Type 0) (u : Update) : Type 0 where
  pub known : among u
  pub writes : Writes wanted u
  pub last : (v : Update) → among v → Writes wanted v → order u v → ⊥

-- These are the latest writes of a key in a set, in the listed order.
pub record AreLatest (wanted : List ℕ) (among : Update → Type 0) (order : Update → Update → Type 0) (us : List Update) : Type 0 where
  pub all : (u : Update) → IsLatest wanted among order u → IsIn u us
  pub only : (u : Update) → IsIn u us → IsLatest wanted among order u
  pub rising : RisesStrictly us

-- the latest writes of a key in a list, by the precedence among its updates
abbrev pub AreLatestIn : List ℕ → List Update → List Update → Type 0
AreLatestIn wanted among us = AreLatest wanted (λ u. IsIn u among) (Precedes among) us
