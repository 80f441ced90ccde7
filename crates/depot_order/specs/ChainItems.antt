-- Items in chains, each with the earlier items that are its parents.
use Rattle.std.specs.Prelude.{◌≡◌, ◌≤◌, ◌<◌, ◌-◌, ◌==◌, ℕ, zero, suc, List, Some, slice_get, slice_index, count_by, length, ◌≢◌, AllPairs, Contains}

-- an item: its chain, how many items of the chain come before it, and the items that are its parents
pub record ChainItem : Type 0 where
  pub chain : ℕ
  pub place : ℕ
  pub parents : List ℕ

-- ---- precedence

-- p is a parent of the item
abbrev pub IsParentOf : List ChainItem → ℕ → ℕ → Type 0
IsParentOf items p item = (x : ChainItem) × ((slice_get items item ≡ Some x) × Contains x.parents p)

-- This many steps to a parent lead from an item to another.
abbrev pub LeadsTo : List ChainItem → ℕ → ℕ → ℕ → Type 0
LeadsTo items zero from to = from ≡ to
LeadsTo items (suc steps) from to = (p : ℕ) × (IsParentOf items p from × LeadsTo items steps p to)

-- one step or more lead from b to a
abbrev pub ItemPrecedes : List ChainItem → ℕ → ℕ → Type 0
ItemPrecedes items a b = (steps : ℕ) × LeadsTo items (suc steps) b a

-- a is b or precedes it
abbrev pub IsUpTo : List ChainItem → ℕ → ℕ → Type 0
IsUpTo items a b = (steps : ℕ) × LeadsTo items steps b a

-- ---- chains

-- the item is at this place of this chain
abbrev pub IsChainItemAt : List ChainItem → ℕ → ℕ → ℕ → Type 0
IsChainItemAt items item chain place = (x : ChainItem) × ((slice_get items item ≡ Some x) × ((x.chain ≡ chain) × (x.place ≡ place)))

-- how many items a chain has
abbrev pub chain_length : List ChainItem → ℕ → ℕ
chain_length items chain = count_by (λ x. x.chain == chain) items

-- how many chains there are: each has one first place
abbrev pub number_of_chains : List ChainItem → ℕ
number_of_chains items = count_by (λ x. x.place == 0) items

-- past its chain's first place, the item before it in the chain is a parent
abbrev pub IsLinked : List ChainItem → ℕ → ℕ → List ℕ → Type 0
IsLinked items chain place parents = 0 < place → (p : ℕ) × (IsChainItemAt items p chain (place - 1) × Contains parents p)

-- ---- rows

-- n is how many items of the chain are the item or precede it: these are its first n
pub record IsCount (items : List ChainItem) (chain item n : ℕ) : Type 0 where
  pub there : n ≤ chain_length items chain
  pub counted : (a : ℕ) (x : ChainItem) → slice_get items a ≡ Some x → x.chain ≡ chain → IsUpTo items a item → x.place < n
  pub only : (a : ℕ) (x : ChainItem) → slice_get items a ≡ Some x → x.chain ≡ chain → x.place < n → IsUpTo items a item

-- n is how many items of the chain are one of the first i of these, or precede one
pub record JoinsUpTo (items : List ChainItem) (parts : List ℕ) (i chain n : ℕ) : Type 0 where
  pub there : n ≤ chain_length items chain
  pub counted : (a : ℕ) (x : ChainItem) (k : ℕ) → slice_get items a ≡ Some x → x.chain ≡ chain → k < i → IsUpTo items a (slice_index parts k) → x.place < n
  pub only : (a : ℕ) (x : ChainItem) → slice_get items a ≡ Some x → x.chain ≡ chain → x.place < n → (k : ℕ) × ((k < i) × IsUpTo items a (slice_index parts k))

-- the joined row of some items: an entry for each chain, that counts those of its items that are one of these or precede one
pub record IsRowJoined (items : List ChainItem) (parts row : List ℕ) : Type 0 where
  pub long : length row ≡ number_of_chains items
  pub joins : (chain : ℕ) → chain < length row → JoinsUpTo items parts (length parts) chain (slice_index row chain)

-- the item a is of the chain, and is the other item or precedes it
pub record IsOfPast (items : List ChainItem) (chain item a : ℕ) : Type 0 where
  pub it : ChainItem
  pub at : slice_get items a ≡ Some it
  pub of_chain : it.chain ≡ chain
  pub up_to : IsUpTo items a item

-- a fact holds of exactly n different numbers
pub record IsTrueOf (P : ℕ → Type 0) (n : ℕ) : Type 0 where
  pub numbers : List ℕ
  pub all : (a : ℕ) → P a → Contains numbers a
  pub only : (a : ℕ) → Contains numbers a → P a
  pub apart : AllPairs (λ a b. a ≢ b) numbers
  pub many : length numbers ≡ n

-- each item that is this one or precedes it is, in its chain, at a place below the row's entry
abbrev pub CountsAll : List ChainItem → ℕ → List ℕ → Type 0
CountsAll items item row = (a : ℕ) (x : ChainItem) → slice_get items a ≡ Some x → IsUpTo items a item → x.place < slice_index row x.chain

-- no entry of the item's row is above that of another row
abbrev pub IsWithin : List ChainItem → ℕ → List ℕ → Type 0
IsWithin items item row = (chain n : ℕ) → IsCount items chain item n → n ≤ slice_index row chain
