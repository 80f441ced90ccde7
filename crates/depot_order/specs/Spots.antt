-- The chains of a forest, which are virtual writers: its items come one after another, each with an earlier item as its
-- prev or with none.
use Rattle.std.specs.Prelude.{◌≡◌, ℕ, zero, suc, ◌+◌, ◌<◌, List, [], ◌∷◌, ◌++◌, Bool, false, ◌==◌, Option, Some, None, slice_get, count_by, if◌then◌else◌}
use Rattle.std.specs.List.{list_any}
use Rattle.depot_order.specs.declared.chains.Spot.{Spot}

-- what is seen of a forest: the prev of each item, in order, and how many items more have reserved memory
pub record Forest : Type 0 where
  pub prevs : List (Option ℕ)
  pub room : ℕ

-- each prev is an earlier item
abbrev pub IsForest : List (Option ℕ) → Type 0
IsForest prevs = (item p : ℕ) → slice_get prevs item ≡ Some (Some p) → p < item

-- ---- spots

-- the prev is this item
abbrev pub is_item : ℕ → Option ℕ → Bool
is_item p None = false
is_item p (Some q) = q == p

-- one of the items has this one as its prev
abbrev pub has_child : List (Option ℕ) → ℕ → Bool
has_child prevs p = list_any (is_item p) prevs

-- how many chains the items with these spots make: each chain has one first place
abbrev pub chains_of : List Spot → ℕ
chains_of placed = count_by (λ s. s.place == 0) placed

-- the first place of the next chain
abbrev pub next_chain : List Spot → Spot
next_chain placed = record { chain = chains_of placed; place = 0 }

-- the place after this one, in the same chain
abbrev pub place_behind : List Spot → Option Spot → Spot
place_behind placed None = next_chain placed
place_behind placed (Some s) = record { chain = s.chain; place = s.place + 1 }

-- The spot of an item after those with these prevs and spots. It continues its prev's chain where no earlier item has
-- the same prev; else, and where it has no prev, it starts the next chain.
abbrev pub next_spot : List (Option ℕ) → List Spot → Option ℕ → Spot
next_spot prevs placed None = next_chain placed
next_spot prevs placed (Some p) = if has_child prevs p then next_chain placed else place_behind placed (slice_get placed p)

-- the spots of all items: of those before, which are known, and of the rest
unfoldable pub spots_behind : List (Option ℕ) → List Spot → List (Option ℕ) → List Spot
spots_behind before placed [] = placed
spots_behind before placed (prev ∷ rest) = spots_behind (before ++ prev ∷ []) (placed ++ next_spot before placed prev ∷ []) rest

-- the spot of each item
unfoldable pub spots : List (Option ℕ) → List Spot
spots prevs = spots_behind [] [] prevs

-- ---- chains

-- the item is at this place of this chain
abbrev pub IsSpotAt : List (Option ℕ) → ℕ → ℕ → ℕ → Type 0
IsSpotAt prevs item chain place = slice_get (spots prevs) item ≡ Some (record { chain = chain; place = place })

-- how many items with these spots a chain has
abbrev pub spot_count : List Spot → ℕ → ℕ
spot_count placed chain = count_by (λ s. s.chain == chain) placed

-- how many chains there are
abbrev pub chain_count : List (Option ℕ) → ℕ
chain_count prevs = chains_of (spots prevs)

-- the item is of the chain, and no later one is
pub record IsTip (placed : List Spot) (chain item : ℕ) : Type 0 where
  pub place : ℕ
  pub own : slice_get placed item ≡ Some (record { chain = chain; place = place })
  pub last : (later : ℕ) (s : Spot) → slice_get placed later ≡ Some s → item < later → s.chain ≡ chain → ⊥

-- This many steps by prev lead from an item back to another.
abbrev pub LeadsBack : List (Option ℕ) → ℕ → ℕ → ℕ → Type 0
LeadsBack prevs zero from to = from ≡ to
LeadsBack prevs (suc steps) from to = (p : ℕ) × ((slice_get prevs from ≡ Some (Some p)) × LeadsBack prevs steps p to)
