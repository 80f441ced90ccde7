-- What is kept of items in chains.
use Rattle.std.specs.Prelude.{◌≡◌, ◌<◌, ◌≤◌, ◌^◌, ℕ, List, length, [], ◌∷◌, ◌++◌, ◌+◌, ◌==◌, max, slice_set, if◌then◌else◌, Some, ◌⊎◌, slice_get, slice_index}
use Rattle.depot_order.specs.ChainItems.{ChainItem, IsUpTo, IsChainItemAt, IsLinked, chain_length, number_of_chains, IsCount}
use Rattle.depot_order.specs.declared.row.RowEntry.{RowEntry}
use Rattle.depot_order.specs.declared.row.Row.{Row}
use Rattle.depot_order.specs.declared.row.Row.TheVariants.{Whole, Changed}
use Rattle.depot_order.specs.declared.row.KeptRow.{KeptRow}

-- ---- items that fit

-- What holds of items that were added one after another, each at its place.
pub record AreChained (items : List ChainItem) : Type 0 where
  pub parents : (item : ℕ) (x : ChainItem) (k : ℕ) → slice_get items item ≡ Some x → k < length x.parents → slice_index x.parents k < item
  pub placed : (item : ℕ) (x : ChainItem) → slice_get items item ≡ Some x → x.place < chain_length items x.chain
  pub gapless : (chain place : ℕ) → place < chain_length items chain → (item : ℕ) × IsChainItemAt items item chain place
  pub started : (chain : ℕ) → chain < number_of_chains items → 0 < chain_length items chain
  pub counted : (chain : ℕ) → number_of_chains items ≤ chain → chain_length items chain ≡ 0
  pub linked : (a b : ℕ) (x y : ChainItem) → slice_get items a ≡ Some x → slice_get items b ≡ Some y → x.chain ≡ y.chain → x.place ≤ y.place → IsUpTo items a b

-- x fits after these items
pub record IsNext (items : List ChainItem) (x : ChainItem) : Type 0 where
  pub parents : (k : ℕ) → k < length x.parents → slice_index x.parents k < length items
  pub chain : x.chain ≤ number_of_chains items
  pub place : x.place ≡ chain_length items x.chain
  pub linked : IsLinked items x.chain x.place x.parents

-- ---- rows

-- the next item's row
pub record IsNextRow (items : List ChainItem) (x : ChainItem) (row : List ℕ) : Type 0 where
  pub long : length row ≡ number_of_chains (items ++ x ∷ [])
  pub counts : (chain : ℕ) → IsCount (items ++ x ∷ []) chain (length items) (slice_index row chain)

-- a row with the entry of an item in its own chain, which is the next chain where the item starts it
abbrev pub own_entry : List ℕ → ℕ → ℕ → List ℕ
own_entry row chain place = if place == 0 then row ++ 1 ∷ [] else slice_set row chain (place + 1)

-- one of the entries is of the chain
pub record HasEntry (entries : List RowEntry) (chain : ℕ) : Type 0 where
  pub place : ℕ
  pub entry : RowEntry
  pub at : slice_get entries place ≡ Some entry
  pub of_chain : entry.chain ≡ chain

-- an entry says of the chain that it counts n
pub record HasCount (entries : List RowEntry) (chain n : ℕ) : Type 0 where
  pub place : ℕ
  pub entry : RowEntry
  pub at : slice_get entries place ≡ Some entry
  pub of_chain : entry.chain ≡ chain
  pub counts : entry.count ≡ n

-- each of the entries is of a chain below this number
abbrev pub AreOfChainsBelow : List RowEntry → ℕ → Type 0
AreOfChainsBelow entries chains = (k : ℕ) (e : RowEntry) → slice_get entries k ≡ Some e → e.chain < chains

-- a row with these entries put into it
abbrev pub ArePut : List RowEntry → List ℕ → List ℕ → Type 0
ArePut entries old new = (chain : ℕ) → HasCount entries chain (slice_index new chain) ⊎ ((HasEntry entries chain → ⊥) × (slice_index new chain ≡ slice_index old chain))

-- n is m or the count of an entry of the chain, and neither m nor an entry of the chain is above it
pub record IsRaised (entries : List RowEntry) (chain m n : ℕ) : Type 0 where
  pub least : m ≤ n
  pub above : (k : ℕ) (e : RowEntry) → slice_get entries k ≡ Some e → e.chain ≡ chain → e.count ≤ n
  pub reached : (n ≡ m) ⊎ HasCount entries chain n

-- a row, raised to these entries
abbrev pub AreRaised : List RowEntry → List ℕ → List ℕ → Type 0
AreRaised entries old new = (chain : ℕ) → IsRaised entries chain (slice_index old chain) (slice_index new chain)

-- no entry is above that of the row
abbrev pub AreEntriesWithin : List RowEntry → List ℕ → Type 0
AreEntriesWithin entries row = (k : ℕ) (e : RowEntry) → slice_get entries k ≡ Some e → e.count ≤ slice_index row e.chain

-- the entries of a row before this chain that are above those of another, and no others
pub record AreAbove (row before : List ℕ) (to : ℕ) (entries : List RowEntry) : Type 0 where
  pub told : (k : ℕ) (e : RowEntry) → slice_get entries k ≡ Some e → (e.chain < length row) × (e.count ≡ slice_index row e.chain)
  pub all : (chain : ℕ) → chain < to → slice_index before chain < slice_index row chain → HasEntry entries chain

-- a row isn't above another at any place from low to below high
abbrev pub NoneAbove : List ℕ → List ℕ → ℕ → ℕ → Type 0
NoneAbove row before low high = (k : ℕ) → low ≤ k → k < high → slice_index row k ≤ slice_index before k

-- the first place from low on at which a row is above another
pub record IsFirstFrom (row before : List ℕ) (low place : ℕ) : Type 0 where
  pub inside : place < length row
  pub behind : low ≤ place
  pub first : NoneAbove row before low place

-- the entries are those of an item's row, one for each chain
pub record IsRowOf (items : List ChainItem) (item : ℕ) (row : List ℕ) : Type 0 where
  pub long : length row ≡ number_of_chains items
  pub counts : (chain : ℕ) → chain < length row → IsCount items chain item (slice_index row chain)

-- the entries are those of a whole row of the item
pub record IsWholeRow (items : List ChainItem) (item : ℕ) (row : List ℕ) : Type 0 where
  pub few : length row ≤ number_of_chains items
  pub counts : (chain : ℕ) → IsCount items chain item (slice_index row chain)

-- the row of the item is that of another that it leads to, except for these entries
pub record IsChangedRow (items : List ChainItem) (item behind : ℕ) (entries : List RowEntry) : Type 0 where
  pub earlier : behind < item
  pub leads : IsUpTo items behind item
  pub inside : (k : ℕ) (e : RowEntry) → slice_get entries k ≡ Some e → e.chain < number_of_chains items
  pub counts : (k : ℕ) (e : RowEntry) → slice_get entries k ≡ Some e → IsCount items e.chain item e.count
  pub same : (chain : ℕ) → (HasEntry entries chain → ⊥) → (n : ℕ) × (IsCount items chain behind n × IsCount items chain item n)

-- what is kept of the item's row
abbrev pub KeepsRow : List ChainItem → ℕ → Row → Type 0
KeepsRow items item (Whole row) = IsWholeRow items item row.items
KeepsRow items item (Changed behind entries) = IsChangedRow items item behind entries.items

-- what is kept of the item
pub record KeepsItem (items : List ChainItem) (item : ℕ) (kept : KeptRow) : Type 0 where
  pub spot : IsChainItemAt items item kept.chain kept.place
  pub row : KeepsRow items item kept.row

-- what is kept of all items
pub record KeepsItems (items : List ChainItem) (kept : List KeptRow) (chains : ℕ) : Type 0 where
  pub chained : AreChained items
  pub as_many : length kept ≡ length items
  pub each : (item : ℕ) (k : KeptRow) → slice_get kept item ≡ Some k → KeepsItem items item k
  pub numbered : chains ≡ number_of_chains items
  pub few : length items < 2 ^ 32

-- a row, kept as the difference from another item's row: the entries that are above
abbrev pub IsChangedFrom : List ChainItem → ℕ → List ℕ → Row → Type 0
IsChangedFrom items behind row (Whole other) = ⊥
IsChangedFrom items behind row (Changed from entries) = (from ≡ behind) × ((before : List ℕ) × (IsRowOf items behind before × AreAbove row before (length row) entries.items))

-- n is the greater of m and of how many items of the chain are the item or precede it
pub record IsJoinedCount (items : List ChainItem) (item chain m n : ℕ) : Type 0 where
  pub count : ℕ
  pub counts : IsCount items chain item count
  pub greater : n ≡ max m count
