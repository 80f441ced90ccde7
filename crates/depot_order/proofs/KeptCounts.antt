-- What is read of the rows that are kept.
use Rattle.std.proofs.Common.{◌≡◌, ℕ, zero, suc, ◌<◌, ◌≤◌, List, [], ◌∷◌, ◌++◌, length, take, max, get_or, Bool, false, Some, refl, sym, ap, subst, ◌∙◌, arith, inl, inr, ◌⊎◌, Contains, IsTrue, Result, Ok, Err, IfOk, slice_get, true≢false}
use Rattle.std.proofs.lemmas.List.{length-take, get_or-take}
use Rattle.std.proofs.lemmas.Option.{slice_get_read}
use Rattle.depot_base.specs.declared.memory.Memory.{Memory}
use Rattle.depot_order.specs.Lanes.{all_leq}
use Rattle.depot_order.proofs.LaneLaws.{entries_from_all_leq, all_leq_from_entries}
use Rattle.depot_order.specs.ChainItems.{ChainItem, number_of_chains, IsCount, CountsAll, IsWithin}
use Rattle.depot_order.specs.declared.row.RowEntry.{RowEntry}
use Rattle.depot_order.specs.declared.row.Row.{Row}
use Rattle.depot_order.specs.declared.row.Row.TheVariants.{Whole, Changed}
use Rattle.depot_order.specs.declared.row.KeptRow.{KeptRow}
use Rattle.depot_order.specs.KeptRows.{AreChained, IsNext, HasEntry, HasCount, ArePut, AreRaised, IsJoinedCount, AreEntriesWithin, IsNextRow, IsWholeRow, IsChangedRow, KeepsRow, KeepsItem, KeepsItems, IsChangedFrom}
use Rattle.depot_order.proofs.ItemPaths.{up_to_trans}
use Rattle.depot_order.proofs.RowCounts.{one_count, count_behind, counts_by_entry}
use Rattle.depot_order.proofs.RowMaking.{next_row_changed}
use Rattle.depot_base.proofs.GeneralLaws.{at_place}

-- ---- what is kept of an item

pub kept_of : (items : List ChainItem) (kept : List KeptRow) (chains item : ℕ) (k : KeptRow) → KeepsItems items kept chains → item < length items → k ≡ get_or kept item k → KeepsItem items item k
kept_of items kept chains item k keeps low is = keeps.each item k (slice_get_read kept (length kept) item k refl (omega (arith, low, keeps.as_many)) is)

pub row_of : (items : List ChainItem) (kept : List KeptRow) (chains item : ℕ) (k : KeptRow) (row : Row) → KeepsItems items kept chains → item < length items → k ≡ get_or kept item k → k.row ≡ row → KeepsRow items item row
row_of items kept chains item k row keeps low is row_is = subst (KeepsRow items item) row_is (kept_of items kept chains item k keeps low is).row

-- ---- counts

-- what an entry says
pub count_by_entry : (items : List ChainItem) (item behind : ℕ) (entries : List RowEntry) (chain n : ℕ) → IsChangedRow items item behind entries → HasCount entries chain n → IsCount items chain item n
count_by_entry items item behind entries chain n row has =
    subst (λ (c : ℕ). IsCount items c item n) has.of_chain (subst (IsCount items has.entry.chain item) has.counts (row.counts has.place has.entry has.at))

-- what another row says, where no entry does
pub count_from_behind : (items : List ChainItem) (item behind : ℕ) (entries : List RowEntry) (chain n : ℕ) → AreChained items → IsChangedRow items item behind entries → (HasEntry entries chain → ⊥) → IsCount items chain behind n → IsCount items chain item n
count_from_behind items item behind entries chain n c row none count =
    let r = row.same chain none in
    subst (IsCount items chain item) (one_count items chain behind r.0 n c r.1.0 count) r.1.1

pub count_put : (items : List ChainItem) (item behind : ℕ) (entries : List RowEntry) (old new : List ℕ) (chain : ℕ) → AreChained items → IsChangedRow items item behind entries → ArePut entries old new → IsCount items chain behind (get_or old chain 0) → IsCount items chain item (get_or new chain 0)
count_put items item behind entries old new chain c row put count = elim (put chain) [
  | inl has ↦ count_by_entry items item behind entries chain (get_or new chain 0) row has
  | inr none ↦ subst (IsCount items chain item) (sym none.1) (count_from_behind items item behind entries chain (get_or old chain 0) c row none.0 count)
]

-- ---- rows that count all

pub within_whole : (items : List ChainItem) (item : ℕ) (row given : List ℕ) (result : Bool) → AreChained items → IsWholeRow items item row → length given ≡ number_of_chains items → result ≡ all_leq row (take (length row) given) → (IsTrue result → CountsAll items item given) × (CountsAll items item given → IsTrue result)
within_whole items item row given result c whole long is =
    let few : length row ≤ length given = omega (arith, whole.few, long) in
    let same : length row ≡ length (take (length row) given) = omega (arith, length-take (length row) given, few) in (
      (λ yes_ a x at u.
          let below = (whole.counts x.chain).counted a x at refl u in
          let le = entries_from_all_leq row (take (length row) given) same (sym is ∙ yes_) x.chain in
          omega (arith, below, le, taken (length row) given x.chain)),
      (λ all. is ∙ all_leq_from_entries row (take (length row) given) same (λ k low.
          let le = counts_by_entry items item given k (get_or row k 0) c (whole.counts k) all in
          omega (arith, le, get_or-take (length row) given k 0 low))),
    )
  where
    taken : (n : ℕ) (xs : List ℕ) (k : ℕ) → get_or (take n xs) k 0 ≤ get_or xs k 0
    taken zero xs k = omega arith
    taken (suc n) [] k = omega arith
    taken (suc n) (x ∷ xs) zero = omega arith
    taken (suc n) (x ∷ xs) (suc k) = taken n xs k

all_behind : (items : List ChainItem) (item behind : ℕ) (entries : List RowEntry) (given : List ℕ) → IsChangedRow items item behind entries → CountsAll items item given → CountsAll items behind given
all_behind items item behind entries given row all a x at u = all a x at (up_to_trans items a behind item u row.leads)

entries_within : (items : List ChainItem) (item behind : ℕ) (entries : List RowEntry) (given : List ℕ) → AreChained items → IsChangedRow items item behind entries → CountsAll items item given → AreEntriesWithin entries given
entries_within items item behind entries given c row all k e at = counts_by_entry items item given e.chain e.count c (row.counts k e at) all

-- an entry is of the chain, or none
find_entry : (entries : List RowEntry) (chain : ℕ) → HasEntry entries chain ⊎ (HasEntry entries chain → ⊥)
find_entry [] chain = inr (λ has. absurd (none has.place has.entry has.at))
  where
    none : (k : ℕ) (e : RowEntry) → slice_get {X = RowEntry} [] k ≡ Some e → ⊥
    none k e at = absurd cc
find_entry (e ∷ es) chain = elim (same_or_not e.chain chain) [
  | inl same ↦ inl (record { place = 0; entry = e; at = refl; of_chain = same })
  | inr other ↦ elim (find_entry es chain) [
    | inl has ↦ inl (record { place = suc has.place; entry = has.entry; at = has.at; of_chain = has.of_chain })
    | inr none ↦ inr (λ has. behind e es chain other none has.place has.entry has.at has.of_chain)
  ]
]
  where
    same_or_not : (m n : ℕ) → (m ≡ n) ⊎ (m ≡ n → ⊥)
    same_or_not m n = grind arith

    behind : (e : RowEntry) (es : List RowEntry) (chain : ℕ) → (e.chain ≡ chain → ⊥) → (HasEntry es chain → ⊥) → (k : ℕ) (f : RowEntry) → slice_get (e ∷ es) k ≡ Some f → f.chain ≡ chain → ⊥
    behind e es chain other none zero f at same = let here : e ≡ f = cc in other (ap (λ (g : RowEntry). g.chain) here ∙ same)
    behind e es chain other none (suc k) f at same = none (record { place = k; entry = f; at = at; of_chain = same })

all_with_entries : (items : List ChainItem) (item behind : ℕ) (entries : List RowEntry) (given : List ℕ) → AreChained items → IsChangedRow items item behind entries → AreEntriesWithin entries given → CountsAll items behind given → CountsAll items item given
all_with_entries items item behind entries given c row within all a x at u = elim (find_entry entries x.chain) [
  | inl has ↦
      let below = (row.counts has.place has.entry has.at).counted a x at (sym has.of_chain) u in
      let le = within has.place has.entry has.at in
      omega (arith, below, le, ap (λ (k : ℕ). get_or given k 0) has.of_chain)
  | inr none ↦
      let r = row.same x.chain none in
      let below = r.1.1.counted a x at refl u in
      all a x at (r.1.0.only a x at refl below)
]

pub within_behind : (items : List ChainItem) (item behind : ℕ) (entries : List RowEntry) (given : List ℕ) (result : Bool) → AreChained items → IsChangedRow items item behind entries → AreEntriesWithin entries given
    → (IsTrue result → CountsAll items behind given) × (CountsAll items behind given → IsTrue result) → (IsTrue result → CountsAll items item given) × (CountsAll items item given → IsTrue result)
within_behind items item behind entries given result c row within told = (
  (λ yes_. all_with_entries items item behind entries given c row within (told.0 yes_)),
  (λ all. told.1 (all_behind items item behind entries given row all)),
)

pub not_within : (items : List ChainItem) (item behind : ℕ) (entries : List RowEntry) (given : List ℕ) (result : Bool) → AreChained items → IsChangedRow items item behind entries → (AreEntriesWithin entries given → IsTrue result) → result ≡ false → (IsTrue result → CountsAll items item given) × (CountsAll items item given → IsTrue result)
not_within items item behind entries given result c row told no_ = (
  (λ yes_. absurd (true≢false (sym yes_ ∙ no_))),
  (λ all. told (entries_within items item behind entries given c row all)),
)

-- what is joined with the row after and raised to the entries is joined with the row
pub joined_changed : (items : List ChainItem) (item behind : ℕ) (entries : List RowEntry) (old joined new : List ℕ) (chain : ℕ) → AreChained items → IsChangedRow items item behind entries → IsJoinedCount items behind chain (get_or old chain 0) (get_or joined chain 0) → AreRaised entries joined new
    → IsJoinedCount items item chain (get_or old chain 0) (get_or new chain 0)
joined_changed items item behind entries old joined new chain c row before raised =
    let r = raised chain in
    elim (find_entry entries chain) [
      | inl has ↦
          let n = has.entry.count in
          let count = count_by_entry items item behind entries chain n row (record { place = has.place; entry = has.entry; at = has.at; of_chain = has.of_chain; counts = refl }) in
          let least = count_behind items chain behind item before.count n c row.leads before.counts count in
          let above = r.above has.place has.entry has.at has.of_chain in
          let greater : get_or new chain 0 ≡ max (get_or old chain 0) n = elim r.reached [
            | inl stays ↦ omega (arith, stays, before.greater, least, above, r.least)
            | inr counts ↦
                let same = one_count items chain item (get_or new chain 0) n c (count_by_entry items item behind entries chain (get_or new chain 0) row counts) count in
                omega (arith, same, before.greater, r.least)
          ] in
          record { count = n; counts = count; greater = greater }
      | inr none ↦
          let greater : get_or new chain 0 ≡ max (get_or old chain 0) before.count = elim r.reached [
            | inl stays ↦ stays ∙ before.greater
            | inr counts ↦ absurd (none (record { place = counts.place; entry = counts.entry; at = counts.at; of_chain = counts.of_chain }))
          ] in
          record { count = before.count; counts = count_from_behind items item behind entries chain before.count c row none before.counts; greater = greater }
    ]

count_in_row : (items : List ChainItem) (item : ℕ) (row : Row) → KeepsRow items item row → (chain : ℕ) → (n : ℕ) × IsCount items chain item n
count_in_row items item (Whole row) kept chain = (get_or row.items chain 0, kept.counts chain)
count_in_row items item (Changed behind entries) kept chain = elim (find_entry entries.items chain) [
  | inl has ↦ (has.entry.count, count_by_entry items item behind entries.items chain has.entry.count kept (record { place = has.place; entry = has.entry; at = has.at; of_chain = has.of_chain; counts = refl }))
  | inr none ↦ let r = kept.same chain none in (r.0, r.1.1)
]

-- an item has a count of each chain
some_count : (items : List ChainItem) (kept : List KeptRow) (chains item : ℕ) → KeepsItems items kept chains → item < length items → (chain : ℕ) → (n : ℕ) × IsCount items chain item n
some_count items kept chains item keeps low chain =
    let k = at_place kept item (omega (arith, low, keeps.as_many)) in
    count_in_row items item k.0.row (keeps.each item k.0 k.1).row chain

-- a row counts all exactly where no entry is above it
pub within_by_entries : (items : List ChainItem) (kept : List KeptRow) (chains item : ℕ) (given : List ℕ) (result : Bool) → KeepsItems items kept chains → item < length items
    → (IsTrue result → CountsAll items item given) × (CountsAll items item given → IsTrue result) → (IsTrue result → IsWithin items item given) × (IsWithin items item given → IsTrue result)
within_by_entries items kept chains item given result keeps low told = (
  (λ yes_ chain n count. counts_by_entry items item given chain n keeps.chained count (told.0 yes_)),
  (λ within. told.1 (λ a x at u.
      let r = some_count items kept chains item keeps low x.chain in
      let below = r.1.counted a x at refl u in
      let le = within x.chain r.0 r.1 in
      omega (arith, below, le))),
)

-- ---- what is kept of the next item

changed_from : (items : List ChainItem) (x : ChainItem) (behind : ℕ) (row : List ℕ) (kept : Row) → AreChained items → IsNext items x → IsNextRow items x row → length row ≡ number_of_chains items → Contains x.parents behind → IsChangedFrom items behind row kept → KeepsRow (items ++ x ∷ []) (length items) kept
changed_from items x behind row (Whole other) c next made long parent never = absurd never
changed_from items x behind row (Changed from entries) c next made long parent (same, (before, (old, above))) =
    subst (λ (b : ℕ). IsChangedRow (items ++ x ∷ []) (length items) b entries.items) (sym same)
    (next_row_changed items x behind row before entries.items c next made long parent (old.long ∙ sym long) old.counts above)

pub kept_as_changed : (items : List ChainItem) (x : ChainItem) (behind : ℕ) (row : List ℕ) (result : Result Row Memory) → AreChained items → IsNext items x → IsNextRow items x row → length row ≡ number_of_chains items → Contains x.parents behind
    → IfOk result (IsChangedFrom items behind row) → IfOk result (KeepsRow (items ++ x ∷ []) (length items))
kept_as_changed items x behind row (Ok kept) c next made long parent is = changed_from items x behind row kept c next made long parent is
kept_as_changed items x behind row (Err e) c next made long parent is = tt

-- ---- what an added item was given
