-- Rows of updates: for each chain of the forest by prev, how many of its items are an item or precede it.
use Rattle.std.specs.Prelude.{◌≡◌, ◌<◌, ◌≤◌, ◌⊎◌, ℕ, List, length, slice_index}
use Rattle.depot_base.specs.declared.update.Update.{Update}
use Rattle.depot_model.specs.lists.Items.{PrecedesAt}
use Rattle.depot_model.specs.lists.Lists.{IsIn}
use Rattle.depot_order.specs.Spots.{spots, IsSpotAt, spot_count, chain_count}
use Rattle.depot_graph.specs.Kept.{prev_places}

-- the item a is the other item or precedes it
abbrev pub IsUpToAt : List Update → ℕ → ℕ → Type 0
IsUpToAt us a b = (a ≡ b) ⊎ PrecedesAt us a b

-- the item a is of the chain, and is the other item or precedes it
abbrev pub IsOfPastAt : List Update → ℕ → ℕ → ℕ → Type 0
IsOfPastAt us chain item a = ((place : ℕ) × IsSpotAt (prev_places us) a chain place) × IsUpToAt us a item

-- n is how many items of the chain are the item or precede it: these are its first n
pub record IsCountAt (us : List Update) (chain item n : ℕ) : Type 0 where
  pub there : n ≤ spot_count (spots (prev_places us)) chain
  pub counted : (a place : ℕ) → IsSpotAt (prev_places us) a chain place → IsUpToAt us a item → place < n
  pub only : (a place : ℕ) → IsSpotAt (prev_places us) a chain place → place < n → IsUpToAt us a item

-- each item that is this one or precedes it is, in its chain, at a place below the row's entry
abbrev pub CountsAllAt : List Update → ℕ → List ℕ → Type 0
CountsAllAt us item row = (a chain place : ℕ) → IsSpotAt (prev_places us) a chain place → IsUpToAt us a item → place < slice_index row chain

-- no entry of the item's row is above that of another row
abbrev pub IsWithinAt : List Update → ℕ → List ℕ → Type 0
IsWithinAt us item row = (chain n : ℕ) → IsCountAt us chain item n → n ≤ slice_index row chain

-- an entry for each chain: how many of its items are one of these or precede one, which are its first
pub record IsJoinedRow (us : List Update) (items row : List ℕ) : Type 0 where
  pub long : length row ≡ chain_count (prev_places us)
  pub there : (chain : ℕ) → chain < length row → slice_index row chain ≤ spot_count (spots (prev_places us)) chain
  pub counted : (m a chain place : ℕ) → IsIn m items → IsSpotAt (prev_places us) a chain place → IsUpToAt us a m → place < slice_index row chain
  pub only : (a chain place : ℕ) → IsSpotAt (prev_places us) a chain place → place < slice_index row chain → (m : ℕ) × (IsIn m items × IsUpToAt us a m)
