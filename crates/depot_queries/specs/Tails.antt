-- The items that a row of numbers, one a chain, doesn't count, and what a reader lacks.
use Rattle.std.specs.Prelude.{◌≡◌, ℕ, List, ◌<◌, ◌≤◌, Bool, Some, length, slice_get, slice_index}
use Rattle.std.specs.List.{AllByRecursion}
use Rattle.depot_base.specs.declared.update.Update.{Update}
use Rattle.depot_model.specs.exchange.Bundle.{is_candidate}
use Rattle.depot_model.specs.lists.Items.{places_of}
use Rattle.depot_model.specs.lists.Lists.{IsIn}
use Rattle.depot_order.specs.Spots.{IsSpotAt}
use Rattle.depot_graph.specs.Kept.{prev_places}
use Rattle.depot_graph.specs.UpdateRows.{IsJoinedRow}
use Rattle.depot_queries.specs.ItemPlaces.{beside}

-- each item that is in its chain at the row's entry or after it is one of these
abbrev pub HoldsBehind : List Update → List ℕ → List ℕ → Type 0
HoldsBehind us row items = (item chain place : ℕ) → IsSpotAt (prev_places us) item chain place → slice_index row chain ≤ place → IsIn item items

-- To these items those of a chain from a place on are added.
pub record HasTail (us : List Update) (chain from : ℕ) (old new : List ℕ) : Type 0 where
  pub kept : (item : ℕ) → IsIn item old → IsIn item new
  pub all : (item place : ℕ) → IsSpotAt (prev_places us) item chain place → from ≤ place → IsIn item new
  pub inside : AllByRecursion (λ item. item < length us) old → AllByRecursion (λ item. item < length us) new

-- for all ids whose rows the row joins: these are, of the numbers that belong to the updates, those of what a reader
-- with these leaves lacks
abbrev pub ArePlacesLacked : List Update → List ℕ → List ℕ → ℕ → List ℕ → Type 0
ArePlacesLacked us row places reader found = (ids : List (List ℕ)) → IsJoinedRow us (places_of us ids) row → found ≡ beside (is_candidate us ids reader) us places

-- for all ids whose rows the row joins: the update of this item is one that a reader with these leaves lacks exactly
-- where this is so
abbrev pub IsLackedAt : List Update → List ℕ → ℕ → ℕ → Bool → Type 0
IsLackedAt us row reader item lacked = (ids : List (List ℕ)) (u : Update) → IsJoinedRow us (places_of us ids) row → slice_get us item ≡ Some u → lacked ≡ is_candidate us ids reader u
