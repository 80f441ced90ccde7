-- The row of the next item, from those of its parents, and what is kept with one item more.
use Rattle.std.proofs.Common.{◌≡◌, ◌≢◌, ℕ, ◌+◌, ◌-◌, ◌<◌, ◌≤◌, List, [], ◌∷◌, ◌++◌, length, take, drop, max, get_or, get_or-set_same, get_or-set_other, cond, eqb, true, false, refl, sym, ap, subst, ◌∙◌, arith, inl, inr, Contains}
use Rattle.std.proofs.Math.ListN.{set, length-set, get_or-append, get_or-eq_default}
use Rattle.std.proofs.Math.Seq.{get_or-append_seam}
use Rattle.std.proofs.lemmas.Bool.{cases_lt, cases_order}
use Rattle.std.proofs.lemmas.Bool.Decides.{nat_tests}
use Rattle.std.proofs.lemmas.List.{length-append, length-take, append-nil, take_all, drop_all, get_or-append_right, get_or-drop, get_or-take}
use Rattle.std.proofs.lemmas.Option.{slice_get_within}
use Rattle.depot_order.specs.Lanes.{greater_of_each}
use Rattle.depot_order.proofs.LaneLaws.{get_or-greater, length-greater}
use Rattle.depot_base.proofs.GeneralLaws.{from_pushed, get_last}
use Rattle.depot_order.specs.ChainItems.{ChainItem, IsUpTo, number_of_chains, IsCount, JoinsUpTo, IsRowJoined}
use Rattle.depot_order.specs.declared.row.RowEntry.{RowEntry}
use Rattle.depot_order.specs.declared.row.Row.{Row}
use Rattle.depot_order.specs.declared.row.Row.TheVariants.{Whole, Changed}
use Rattle.depot_order.specs.declared.row.KeptRow.{KeptRow}
use Rattle.depot_order.specs.KeptRows.{AreChained, IsNext, IsNextRow, own_entry, HasEntry, AreAbove, IsJoinedCount, IsChangedRow, KeepsRow, KeepsItem, KeepsItems}
use Rattle.depot_order.proofs.ItemPaths.{contained_at, up_to_self, up_to_parent, up_to_trans, up_to_more, last_has_parent}
use Rattle.depot_order.proofs.ChainCounts.{number_of_chains-push, number_of_chains-first, number_of_chains-more, starts_next, goes_on, stands_more, chained_next}
use Rattle.depot_order.proofs.RowCounts.{count_past, count_more, count_own, joins_one, count_of_parents}

-- a slice that was lent whole and comes back
pub lent_whole : {X : Type 0} (n : ℕ) (old new : List X) → n ≡ length old → length new ≡ length old → take n (new ++ drop (length new) old) ≡ new
lent_whole {X = X} n old new whole same =
    let none : drop (length new) old ≡ [] = drop_all (length new) old (omega (arith, same)) in
    ap (λ (rest : List X). take n (new ++ rest)) none ∙ (ap (take n) (append-nil new) ∙ take_all n new (omega (arith, whole, same)))

-- a prefix that was lent comes back, joined with another row; after it that row has no entries
pub joined_front : (old other new : List ℕ) → length other ≤ length old → new ≡ greater_of_each (take (length other) old) other → (k : ℕ) → get_or (new ++ drop (length other) old) k 0 ≡ max (get_or old k 0) (get_or other k 0)
joined_front old other new few is k =
    let n = length other in
    let same : length (take n old) ≡ n = omega (arith, length-take n old, few) in
    let long : length new ≡ n = ap (λ (l : List ℕ). length l) is ∙ (length-greater (take n old) other same ∙ same) in
    elim (cases_lt k n) [
      | inl low ↦ get_or-append new (drop n old) 0 k (omega (arith, low, long)) ∙ (ap (λ (l : List ℕ). get_or l k 0) is ∙ (get_or-greater (take n old) other k same ∙ ap (λ (m : ℕ). max m (get_or other k 0)) (get_or-take n old k 0 low)))
      | inr high ↦
          let here : n + (k - n) ≡ k = omega (arith, high) in
          let stays : get_or (new ++ drop n old) k 0 ≡ get_or old k 0 = get_or-append_right new (drop n old) n k 0 long high ∙ (get_or-drop n old (k - n) 0 ∙ ap (λ (j : ℕ). get_or old j 0) here) in
          omega (arith, stays, get_or-eq_default other 0 high)
    ]

-- ---- the row of the next item

-- the rows of one parent more are joined
pub joins_row : (items : List ChainItem) (parents : List ℕ) (i : ℕ) (row new : List ℕ) → length new ≡ length row
    → ((chain : ℕ) → chain < length row → JoinsUpTo items parents i chain (get_or row chain 0))
    → ((chain : ℕ) → chain < length new → IsJoinedCount items (get_or parents i 0) chain (get_or row chain 0) (get_or new chain 0))
    → (chain : ℕ) → chain < length new → JoinsUpTo items parents (i + 1) chain (get_or new chain 0)
joins_row items parents i row new len joins counts chain low =
    let count = counts chain low in
    subst (JoinsUpTo items parents (i + 1) chain) (sym count.greater)
    (joins_one items parents i chain (get_or row chain 0) count.count (joins chain (omega (arith, low, len))) count.counts)

starting_row : (items : List ChainItem) (x : ChainItem) (row : List ℕ) → AreChained items → IsNext items x → IsRowJoined items x.parents row → x.place ≡ 0 → IsNextRow items x (row ++ 1 ∷ [])
starting_row items x row c next joined first =
    let own : x.chain ≡ number_of_chains items = starts_next items x c next first in
    let one : number_of_chains (items ++ x ∷ []) ≡ number_of_chains items + 1 = number_of_chains-first items x first in
    let long : length (row ++ 1 ∷ []) ≡ number_of_chains (items ++ x ∷ []) = omega (arith, one, length-append row (1 ∷ []), joined.long) in
    record {
      long = long;
      counts = λ chain. elim (cases_order chain (length row)) [
        | inl here ↦
            let read : get_or (row ++ 1 ∷ []) chain 0 ≡ 1 = subst (λ (k : ℕ). get_or (row ++ 1 ∷ []) k 0 ≡ 1) (sym here) (get_or-append_seam row 1 [] 0) in
            let chain_is : x.chain ≡ chain = omega (arith, own, here, joined.long) in
            let count_is : x.place + 1 ≡ get_or (row ++ 1 ∷ []) chain 0 = omega (arith, read, first) in
            subst (λ (k : ℕ). IsCount (items ++ x ∷ []) k (length items) (get_or (row ++ 1 ∷ []) chain 0)) chain_is (subst (IsCount (items ++ x ∷ []) x.chain (length items)) count_is (count_own items x c next))
        | inr other ↦ elim other [
          | inl low ↦ subst (IsCount (items ++ x ∷ []) chain (length items)) (sym (get_or-append row (1 ∷ []) 0 chain low)) (count_of_parents items x chain (get_or row chain 0) c next (λ same. absurd (omega (arith, same, own, low, joined.long))) (joined.joins chain low))
          | inr high ↦
              let past : length (row ++ 1 ∷ []) ≤ chain = omega (arith, high, length-append row (1 ∷ [])) in
              subst (IsCount (items ++ x ∷ []) chain (length items)) (sym (get_or-eq_default (row ++ 1 ∷ []) 0 past)) (count_past (items ++ x ∷ []) chain (length items) (chained_next items x c next) (omega (arith, past, long)))
        ]
      ];
    }

later_row : (items : List ChainItem) (x : ChainItem) (row : List ℕ) → AreChained items → IsNext items x → IsRowJoined items x.parents row → 0 < x.place → IsNextRow items x (set row x.chain (x.place + 1))
later_row items x row c next joined later =
    let new = set row x.chain (x.place + 1) in
    let inside : x.chain < length row = omega (arith, goes_on items x c next later, joined.long) in
    let none : cond {A = ℕ} (eqb x.place 0) 1 0 ≡ 0 = grind (arith, nat_tests) in
    let long : length new ≡ number_of_chains (items ++ x ∷ []) = omega (arith, length-set row x.chain (x.place + 1), number_of_chains-push items x, none, joined.long) in
    record {
      long = long;
      counts = λ chain. elim (cases_order chain x.chain) [
        | inl here ↦
            let read : get_or new chain 0 ≡ x.place + 1 = subst (λ (k : ℕ). get_or new k 0 ≡ x.place + 1) (sym here) (rw get_or-set_same refl) in
            subst (λ (k : ℕ). IsCount (items ++ x ∷ []) k (length items) (get_or new chain 0)) (sym here) (subst (IsCount (items ++ x ∷ []) x.chain (length items)) (sym read) (count_own items x c next))
        | inr other ↦
            let apart : chain ≢ x.chain = elim other [ inl lt ↦ omega arith | inr gt ↦ omega arith ] in
            let read : get_or new chain 0 ≡ get_or row chain 0 = rw get_or-set_other refl in
            subst (IsCount (items ++ x ∷ []) chain (length items)) (sym read) (elim (cases_lt chain (length row)) [
              | inl low ↦ count_of_parents items x chain (get_or row chain 0) c next apart (joined.joins chain low)
              | inr high ↦
                  subst (IsCount (items ++ x ∷ []) chain (length items)) (sym (get_or-eq_default row 0 high))
                  (count_past (items ++ x ∷ []) chain (length items) (chained_next items x c next) (omega (arith, high, long, length-set row x.chain (x.place + 1))))
            ])
      ];
    }

pub next_row_made : (items : List ChainItem) (x : ChainItem) (row : List ℕ) → AreChained items → IsNext items x → IsRowJoined items x.parents row → IsNextRow items x (own_entry row x.chain x.place)
next_row_made items x row c next joined = elim (cases_lt 0 x.place) [
  | inl later ↦ let test : eqb x.place 0 ≡ false = grind (arith, nat_tests) in rw test (later_row items x row c next joined later)
  | inr first ↦ let test : eqb x.place 0 ≡ true = grind (arith, nat_tests) in rw test (starting_row items x row c next joined (omega (arith, first)))
]

-- ---- the row as differences

-- a count that isn't above that of an item on the way is that item's too
count_between : (items : List ChainItem) (chain behind item m n : ℕ) → IsUpTo items behind item → IsCount items chain behind m → IsCount items chain item n → n ≤ m → IsCount items chain behind n
count_between items chain behind item m n leads lower higher le = record {
  there = higher.there;
  counted = λ a x at same u. higher.counted a x at same (up_to_trans items a behind item u leads);
  only = λ a x at same low. lower.only a x at same (omega (arith, low, le));
}

pub next_row_changed : (items : List ChainItem) (x : ChainItem) (behind : ℕ) (row before : List ℕ) (entries : List RowEntry) → AreChained items → IsNext items x → IsNextRow items x row → length row ≡ number_of_chains items → Contains x.parents behind
    → length before ≡ length row → ((chain : ℕ) → chain < length before → IsCount items chain behind (get_or before chain 0)) → AreAbove row before (length row) entries → IsChangedRow (items ++ x ∷ []) (length items) behind entries
next_row_changed items x behind row before entries c next made long parent same counts above =
    let k = contained_at x.parents behind parent in
    let low : behind < length items = omega (arith, next.parents k.0 k.1.0, k.1.1) in
    let leads : IsUpTo (items ++ x ∷ []) behind (length items) = up_to_parent (items ++ x ∷ []) behind behind (length items) (last_has_parent items x behind parent) (up_to_self (items ++ x ∷ []) behind) in
    record {
      earlier = low;
      leads = leads;
      inside = λ k e at. omega (arith, (above.told k e at).0, made.long);
      counts = λ k e at. subst (IsCount (items ++ x ∷ []) e.chain (length items)) (sym (above.told k e at).1) (made.counts e.chain);
      same = λ chain none.
          let all : (chain : ℕ) → IsCount (items ++ x ∷ []) chain behind (get_or before chain 0) = λ j. before_counts items x behind before c next low (omega (arith, same, long)) counts j in
          (get_or row chain 0, (count_between (items ++ x ∷ []) chain behind (length items) (get_or before chain 0) (get_or row chain 0) leads (all chain) (made.counts chain) (not_higher row before entries chain above none), made.counts chain));
    }
  where
    before_counts : (items : List ChainItem) (x : ChainItem) (behind : ℕ) (before : List ℕ) → AreChained items → IsNext items x → behind < length items → length before ≡ number_of_chains items
        → ((chain : ℕ) → chain < length before → IsCount items chain behind (get_or before chain 0)) → (chain : ℕ) → IsCount (items ++ x ∷ []) chain behind (get_or before chain 0)
    before_counts items x behind before c next low long counts chain = count_more items x chain behind (get_or before chain 0) c next low (elim (cases_lt chain (length before)) [
      | inl inside ↦ counts chain inside
      | inr past ↦ subst (IsCount items chain behind) (sym (get_or-eq_default before 0 past)) (count_past items chain behind c (omega (arith, past, long)))
    ])

    not_higher : (row before : List ℕ) (entries : List RowEntry) (chain : ℕ) → AreAbove row before (length row) entries → (HasEntry entries chain → ⊥) → get_or row chain 0 ≤ get_or before chain 0
    not_higher row before entries chain above none = elim (cases_lt (get_or before chain 0) (get_or row chain 0)) [
      | inl higher ↦ elim (cases_lt chain (length row)) [
        | inl inside ↦ absurd (none (above.all chain inside higher))
        | inr past ↦ absurd (omega (arith, higher, get_or-eq_default row 0 past))
      ]
      | inr le ↦ le
    ]

-- ---- with one item more

keeps_row_more : (items : List ChainItem) (x : ChainItem) (item : ℕ) (row : Row) → AreChained items → IsNext items x → item < length items → KeepsRow items item row → KeepsRow (items ++ x ∷ []) item row
keeps_row_more items x item (Whole row) c next low kept = record {
  few = omega (arith, kept.few, number_of_chains-more items x);
  counts = λ chain. count_more items x chain item (get_or row.items chain 0) c next low (kept.counts chain);
}
keeps_row_more items x item (Changed behind entries) c next low kept = record {
  earlier = kept.earlier;
  leads = up_to_more items x behind item kept.leads;
  inside = λ k e at. omega (arith, kept.inside k e at, number_of_chains-more items x);
  counts = λ k e at. count_more items x e.chain item e.count c next low (kept.counts k e at);
  same = λ chain none.
      let r = kept.same chain none in
      (r.0, (count_more items x chain behind r.0 c next (omega (arith, low, kept.earlier)) r.1.0, count_more items x chain item r.0 c next low r.1.1));
}

pub keeps_next : (items : List ChainItem) (x : ChainItem) (kept : List KeptRow) (k : KeptRow) (chains : ℕ) → KeepsItems items kept chains → IsNext items x → length items < 4294967295 → k.chain ≡ x.chain → k.place ≡ x.place → KeepsRow (items ++ x ∷ []) (length items) k.row
    → KeepsItems (items ++ x ∷ []) (kept ++ k ∷ []) (chains + cond (eqb x.place 0) 1 0)
keeps_next items x kept k chains keeps next few chain_is place_is row = record {
  chained = chained_next items x keeps.chained next;
  as_many = omega (arith, keeps.as_many, length-append kept (k ∷ []), length-append items (x ∷ []));
  each = λ item j at. elim (from_pushed kept k item j at) [
    | inl h ↦
        let old = keeps.each item j h in
        let low : item < length items = omega (arith, slice_get_within kept item j h, keeps.as_many) in
        record {
          spot = stands_more items x item j.chain j.place old.spot;
          row = keeps_row_more items x item j.row keeps.chained next low old.row;
        }
    | inr h ↦ subst (KeepsItem (items ++ x ∷ []) item) h.1 (subst (λ (n : ℕ). KeepsItem (items ++ x ∷ []) n k) (sym (omega (arith, h.0, keeps.as_many))) (record { spot = (x, (get_last items x, (sym chain_is, sym place_is))); row = row }))
  ];
  numbered = omega (arith, keeps.numbered, number_of_chains-push items x);
  few = omega (arith, few, length-append items (x ∷ []));
}
