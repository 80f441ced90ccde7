-- The latest of some items, in an order and as they are listed.
use Rattle.std.specs.Prelude.{◌≡◌, ◌<◌, ◌≤◌, ◌⊎◌, ℕ, List, [], ◌∷◌, ◌++◌, length, take, drop, slice_index, All, Contains}
use Rattle.depot_base.specs.Pairs.{AllPairsByRecursion}

-- a is one of these items and precedes none of them
abbrev pub IsLatestOf : (ℕ → ℕ → Type 0) → List ℕ → ℕ → Type 0
IsLatestOf precedes among a = Contains among a × ((b : ℕ) → Contains among b → precedes a b → ⊥)

-- These are the latest of some items, as they are listed: those that precede no other one.
pub record AreLatestOf (precedes listed : ℕ → ℕ → Type 0) (among latest : List ℕ) : Type 0 where
  pub all : (a : ℕ) → IsLatestOf precedes among a → Contains latest a
  pub only : (a : ℕ) → Contains latest a → IsLatestOf precedes among a
  pub rising : AllPairsByRecursion listed latest

-- The latest of any items that the order has, as they are listed, are one list.
abbrev pub HaveOneLatest : (ℕ → Type 0) → (ℕ → ℕ → Type 0) → (ℕ → ℕ → Type 0) → Type 0
HaveOneLatest has precedes listed = (among latest others : List ℕ) → All has among
    → AreLatestOf precedes listed among latest → AreLatestOf precedes listed among others → latest ≡ others

-- the item is none of these and precedes none of them
abbrev pub IsNewest : (ℕ → ℕ → Type 0) → List ℕ → ℕ → Type 0
IsNewest precedes among item = (a : ℕ) → Contains among a → (a ≡ item → ⊥) × (precedes item a → ⊥)

-- Where the old list has the latest of some items, and the new item is none of these and precedes none, the new list
-- has the latest of these and the item.
abbrev pub IsLatestWith : (ℕ → ℕ → Type 0) → (ℕ → ℕ → Type 0) → ℕ → List ℕ → List ℕ → Type 0
IsLatestWith precedes listed item old new = (among : List ℕ) → IsNewest precedes among item → AreLatestOf precedes listed among old → AreLatestOf precedes listed (among ++ item ∷ []) new

-- ---- how a list is updated

-- these are the items of a list that a fact holds of, in the list's order
abbrev pub AreKept : (ℕ → Type 0) → List ℕ → List ℕ → Type 0
AreKept P [] kept = kept ≡ []
AreKept P (a ∷ items) kept = ((rest : List ℕ) × (P a × ((kept ≡ a ∷ rest) × AreKept P items rest))) ⊎ ((P a → ⊥) × AreKept P items kept)

-- the first place of a list at which an item is listed before the one there
pub record IsPlaceFor (listed : ℕ → ℕ → Type 0) (item : ℕ) (items : List ℕ) (place : ℕ) : Type 0 where
  pub inside : place ≤ length items
  pub behind : (k : ℕ) → k < place → listed item (slice_index items k) → ⊥
  pub first : place < length items → listed item (slice_index items place)

-- the list without the items that precede this one, and with the item where it is listed
abbrev pub IsMended : (ℕ → ℕ → Type 0) → (ℕ → ℕ → Type 0) → ℕ → List ℕ → List ℕ → Type 0
IsMended precedes listed item old new = (kept : List ℕ) × ((place : ℕ) × (AreKept (λ a. precedes a item → ⊥) old kept × (IsPlaceFor listed item kept place × (new ≡ take place kept ++ item ∷ drop place kept))))
