-- How many items of a chain are an item or precede it.
use Rattle.std.proofs.Common.{◌≡◌, ℕ, zero, suc, ◌+◌, ◌<◌, ◌≤◌, List, [], ◌∷◌, ◌++◌, length, get_or, max, Some, refl, sym, ap, subst, ◌∙◌, arith, inl, inr, slice_get}
use Rattle.std.proofs.lemmas.Bool.{cases_lt}
use Rattle.std.proofs.lemmas.Option.{slice_get_within}
use Rattle.depot_base.proofs.GeneralLaws.{from_pushed, get_last}
use Rattle.depot_order.specs.ChainItems.{ChainItem, ItemPrecedes, IsUpTo, chain_length, number_of_chains, IsCount, CountsAll, JoinsUpTo}
use Rattle.depot_order.specs.KeptRows.{AreChained, IsNext}
use Rattle.depot_order.proofs.ItemPaths.{standing, contained_at, contains_at, up_to_low, leads_down, up_to_parent, up_to_more, up_to_less, parent_of_last, last_has_parent, up_to_trans}
use Rattle.depot_order.proofs.ChainCounts.{chain_length-more, chain_length-own, chained_next}

-- ---- one count

-- a chain that isn't there counts as 0
pub count_past : (items : List ChainItem) (chain item : ℕ) → AreChained items → number_of_chains items ≤ chain → IsCount items chain item 0
count_past items chain item c high = record {
  there = omega arith;
  counted = λ a x at same u. absurd (omega (arith, c.placed a x at, ap (chain_length items) same, c.counted chain high));
  only = λ a x at same low. absurd (omega (arith, low));
}

count_least : (items : List ChainItem) (chain item m n : ℕ) → AreChained items → IsCount items chain item m → IsCount items chain item n → m < n → ⊥
count_least items chain item m n c first second less =
    let r = c.gapless chain m (omega (arith, less, second.there)) in
    let x = standing items r.0 chain m r.1 in
    let up = second.only r.0 x.it x.at x.of_chain (omega (arith, less, x.at_place)) in
    let low = first.counted r.0 x.it x.at x.of_chain up in
    omega (arith, low, x.at_place)

-- there is one count
pub one_count : (items : List ChainItem) (chain item m n : ℕ) → AreChained items → IsCount items chain item m → IsCount items chain item n → m ≡ n
one_count items chain item m n c first second = elim (cases_lt m n) [
  | inl less ↦ absurd (count_least items chain item m n c first second less)
  | inr ge ↦ elim (cases_lt n m) [
    | inl more ↦ absurd (count_least items chain item n m c second first more)
    | inr le ↦ omega arith
  ]
]

-- what an item is up to counts no more
pub count_behind : (items : List ChainItem) (chain behind item m n : ℕ) → AreChained items → IsUpTo items behind item → IsCount items chain behind m → IsCount items chain item n → m ≤ n
count_behind items chain behind item m n c leads lower higher = elim (cases_lt n m) [
  | inl less ↦
      let r = c.gapless chain n (omega (arith, less, lower.there)) in
      let x = standing items r.0 chain n r.1 in
      let up = lower.only r.0 x.it x.at x.of_chain (omega (arith, less, x.at_place)) in
      let low = higher.counted r.0 x.it x.at x.of_chain (up_to_trans items r.0 behind item up leads) in
      absurd (omega (arith, low, x.at_place))
  | inr le ↦ omega (arith, le)
]

-- an item precedes another exactly where it is counted and isn't that item
pub precedes_by_count : (items : List ChainItem) (a b n : ℕ) (x : ChainItem) → AreChained items → slice_get items a ≡ Some x → IsCount items x.chain b n → (a ≡ b → ⊥) → (x.place < n → ItemPrecedes items a b) × (ItemPrecedes items a b → x.place < n)
precedes_by_count items a b n x c at count other = (
  (λ low. some_steps items a b other (count.only a x at refl low)),
  (λ p. count.counted a x at refl (suc p.0, p.1)),
)
  where
    some_steps : (items : List ChainItem) (a b : ℕ) → (a ≡ b → ⊥) → IsUpTo items a b → ItemPrecedes items a b
    some_steps items a b other (zero, same) = absurd (other (sym same))
    some_steps items a b other (suc steps, l) = (steps, l)

-- nothing precedes itself
pub never_itself : (items : List ChainItem) (a : ℕ) → AreChained items → ItemPrecedes items a a → ⊥
never_itself items a c p = let down = leads_down items (suc p.0) a a c p.1 in omega (arith, down)

-- ---- with one item more

-- the count of an item that was there stays
pub count_more : (items : List ChainItem) (x : ChainItem) (chain item n : ℕ) → AreChained items → IsNext items x → item < length items → IsCount items chain item n → IsCount (items ++ x ∷ []) chain item n
count_more items x chain item n c next low count = record {
  there = omega (arith, count.there, chain_length-more items x chain);
  counted = λ a y at same u. elim (from_pushed items x a y at) [
    | inl h ↦ count.counted a y h same (up_to_less items x a item c low u)
    | inr h ↦ let before = up_to_low (items ++ x ∷ []) a item (chained_next items x c next) u in absurd (omega (arith, before, h.0))
  ];
  only = λ a y at same less. elim (from_pushed items x a y at) [
    | inl h ↦ up_to_more items x a item (count.only a y h same less)
    | inr h ↦
        let chain_is : x.chain ≡ chain = ap (λ (z : ChainItem). z.chain) h.1 ∙ same in
        let place_is : x.place ≡ y.place = ap (λ (z : ChainItem). z.place) h.1 in
        absurd (omega (arith, next.place, ap (chain_length items) chain_is, place_is, count.there, less))
  ];
}

-- of its own chain, the new item counts all up to itself
pub count_own : (items : List ChainItem) (x : ChainItem) → AreChained items → IsNext items x → IsCount (items ++ x ∷ []) x.chain (length items) (x.place + 1)
count_own items x c next =
    let c' = chained_next items x c next in
    record {
      there = omega (arith, next.place, chain_length-own items x);
      counted = λ a y at same u. elim (from_pushed items x a y at) [
        | inl h ↦ omega (arith, c.placed a y h, ap (chain_length items) same, next.place)
        | inr h ↦ omega (arith, ap (λ (z : ChainItem). z.place) h.1)
      ];
      only = λ a y at same low. c'.linked a (length items) y x at (get_last items x) same (omega (arith, low));
    }

-- ---- the parents' counts

pub joins_one : (items : List ChainItem) (parents : List ℕ) (i chain m n : ℕ) → JoinsUpTo items parents i chain m → IsCount items chain (get_or parents i 0) n → JoinsUpTo items parents (i + 1) chain (max m n)
joins_one items parents i chain m n joins count = record {
  there = omega (arith, joins.there, count.there);
  counted = λ a x k at same low u. elim (cases_lt k i) [
    | inl lt ↦ omega (arith, joins.counted a x k at same lt u)
    | inr ge ↦
        let k_is : k ≡ i = omega (arith, low, ge) in
        omega (arith, count.counted a x at same (subst (λ (j : ℕ). IsUpTo items a (get_or parents j 0)) k_is u))
  ];
  only = λ a x at same low. elim (cases_lt x.place m) [
    | inl lt ↦ let r = joins.only a x at same lt in (r.0, (omega (arith, r.1.0), r.1.1))
    | inr ge ↦ (i, (omega arith, count.only a x at same (omega (arith, low, ge))))
  ];
}

-- of another chain, the new item counts what its parents count
pub count_of_parents : (items : List ChainItem) (x : ChainItem) (chain n : ℕ) → AreChained items → IsNext items x → (chain ≡ x.chain → ⊥) → JoinsUpTo items x.parents (length x.parents) chain n → IsCount (items ++ x ∷ []) chain (length items) n
count_of_parents items x chain n c next other joins = record {
  there = omega (arith, joins.there, chain_length-more items x chain);
  counted = λ a y at same u. elim (from_pushed items x a y at) [
    | inl h ↦ through items x a chain n y c next joins h same u
    | inr h ↦ absurd (other (sym same ∙ sym (ap (λ (z : ChainItem). z.chain) h.1)))
  ];
  only = λ a y at same low. elim (from_pushed items x a y at) [
    | inl h ↦
        let r = joins.only a y h same low in
        up_to_parent (items ++ x ∷ []) a (get_or x.parents r.0 0) (length items) (last_has_parent items x (get_or x.parents r.0 0) (contains_at x.parents r.0 r.1.0)) (up_to_more items x a (get_or x.parents r.0 0) r.1.1)
    | inr h ↦ absurd (other (sym same ∙ sym (ap (λ (z : ChainItem). z.chain) h.1)))
  ];
}
  where
    through : (items : List ChainItem) (x : ChainItem) (a chain n : ℕ) (y : ChainItem) → AreChained items → IsNext items x → JoinsUpTo items x.parents (length x.parents) chain n → slice_get items a ≡ Some y → y.chain ≡ chain → IsUpTo (items ++ x ∷ []) a (length items) → y.place < n
    through items x a chain n y c next joins at same (zero, here) = absurd (omega (arith, here, slice_get_within items a y at))
    through items x a chain n y c next joins at same (suc steps, l) =
        let k = contained_at x.parents l.0 (parent_of_last items x l.0 l.1.0) in
        let low : l.0 < length items = omega (arith, next.parents k.0 k.1.0, k.1.1) in
        let up = up_to_less items x a l.0 c low (steps, l.1.1) in
        joins.counted a y k.0 at same k.1.0 (subst (IsUpTo items a) (sym k.1.1) up)

-- ---- rows that count all

-- a count that isn't above the entry
pub counts_by_entry : (items : List ChainItem) (item : ℕ) (row : List ℕ) (chain n : ℕ) → AreChained items → IsCount items chain item n → CountsAll items item row → n ≤ get_or row chain 0
counts_by_entry items item row chain n c count all = elim (cases_lt (get_or row chain 0) n) [
  | inl less ↦
      let r = c.gapless chain (get_or row chain 0) (omega (arith, less, count.there)) in
      let x = standing items r.0 chain (get_or row chain 0) r.1 in
      let up = count.only r.0 x.it x.at x.of_chain (omega (arith, less, x.at_place)) in
      let low = all r.0 x.it x.at up in
      absurd (omega (arith, low, x.at_place, ap (λ (k : ℕ). get_or row k 0) x.of_chain))
  | inr ge ↦ ge
]
