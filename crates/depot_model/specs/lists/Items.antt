-- Updates by their places in a list, from 0.
use Rattle.std.specs.Prelude.{◌≡◌, ℕ, ◌+◌, List, [], ◌∷◌, map, Bool, not, Option, Some, None, slice_get, position, if◌then◌else◌}
use Rattle.std.specs.List.{flat_map}
use Rattle.std.specs.Option.{option_to_list}
use Rattle.std.specs.Str.{bytes_eq}
use Rattle.depot_base.specs.Pairs.{AllPairsByRecursion}
use Rattle.depot_base.specs.Zeros.{zeros}
use Rattle.depot_base.specs.declared.update.Update.{Update}
use Rattle.depot_model.specs.lists.Lists.{IsIn, is_among}
use Rattle.depot_model.specs.texts.Texts.{id_of_update}
use Rattle.depot_model.specs.updates.Order.{Precedes, prevs}
use Rattle.depot_model.specs.updates.History.{is_prev_in}

-- an update is at this place, and this holds of it
abbrev pub at : List Update → ℕ → (Update → Type 0) → Type 0
at us place P = (u : Update) × ((slice_get us place ≡ Some u) × P u)

-- the updates at these places
abbrev pub updates_at : List Update → List ℕ → List Update
updates_at us places = flat_map (λ place. option_to_list (slice_get us place)) places

-- the place of the first update with this id
abbrev pub place_of_id : List ℕ → List Update → Option ℕ
place_of_id h us = position (λ u. bytes_eq (id_of_update u) h) us

-- the place of the update that a prev names: 32 zero bytes name nothing
abbrev pub place_of_prev : List ℕ → List Update → Option ℕ
place_of_prev h us = if bytes_eq h zeros then None else place_of_id h us

-- the places of the updates with these ids, in their order; an id that no update has names none
abbrev pub places_of : List Update → List (List ℕ) → List ℕ
places_of us ids = flat_map (λ id. option_to_list (place_of_id id us)) ids

-- some update has each of these ids, and these are their places
abbrev pub AreItemsOf : List Update → List (List ℕ) → List ℕ → Type 0
AreItemsOf us ids items = map (λ id. place_of_id id us) ids ≡ map (λ item. Some item) items

-- the update at place a precedes the one at place b
abbrev pub PrecedesAt : List Update → ℕ → ℕ → Type 0
PrecedesAt us a b = at us a (λ t. at us b (λ u. Precedes us t u))

-- the places from n on of the updates that pass a test
unfoldable pub places_where : (Update → Bool) → ℕ → List Update → List ℕ
places_where test n [] = []
places_where test n (u ∷ us) = if test u then n ∷ places_where test (n + 1) us else places_where test (n + 1) us

-- no number occurs twice
abbrev pub AreDistinct : List ℕ → Type 0
AreDistinct = AllPairsByRecursion (λ n m. m ≡ n → ⊥)

-- These are the places of the leaves, each once.
pub record AreLeaves (us : List Update) (places : List ℕ) : Type 0 where
  pub all : (n : ℕ) → IsIn n (places_where (λ t. not (is_prev_in us (id_of_update t))) 0 us) → IsIn n places
  pub only : (n : ℕ) → IsIn n places → IsIn n (places_where (λ t. not (is_prev_in us (id_of_update t))) 0 us)
  pub once : AreDistinct places

-- the places of the updates whose prev is the one at a place
abbrev pub children_by : List Update → Option Update → List ℕ
children_by us None = []
children_by us (Some t) = places_where (λ u. is_among (id_of_update t) (prevs u)) 0 us

abbrev pub children_of : List Update → ℕ → List ℕ
children_of us place = children_by us (slice_get us place)
