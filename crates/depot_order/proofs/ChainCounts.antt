-- The lengths of chains, with one item more.
use Rattle.std.proofs.Common.{◌≡◌, ℕ, ◌+◌, ◌-◌, ◌<◌, ◌≤◌, List, [], ◌∷◌, ◌++◌, length, get_or, cond, eqb, Some, refl, sym, ap, subst, ◌∙◌, arith, inl, inr, slice_get}
use Rattle.std.proofs.lemmas.Bool.{cases_lt}
use Rattle.std.proofs.lemmas.Bool.Decides.{nat_tests}
use Rattle.std.proofs.lemmas.List.Sums.{sum_by-append}
use Rattle.depot_base.proofs.GeneralLaws.{from_pushed, to_pushed, get_last, one_or_none}
use Rattle.depot_order.specs.ChainItems.{ChainItem, IsUpTo, IsChainItemAt, chain_length, number_of_chains}
use Rattle.depot_order.specs.KeptRows.{AreChained, IsNext}
use Rattle.depot_order.proofs.ItemPaths.{standing, up_to_self, up_to_parent, up_to_more, last_has_parent}

pub chain_length-push : (items : List ChainItem) (x : ChainItem) (c : ℕ) → chain_length (items ++ x ∷ []) c ≡ chain_length items c + cond (eqb x.chain c) 1 0
chain_length-push items x c = sum_by-append (λ (y : ChainItem). cond (eqb y.chain c) 1 0) items (x ∷ []) ∙ omega arith

pub number_of_chains-push : (items : List ChainItem) (x : ChainItem) → number_of_chains (items ++ x ∷ []) ≡ number_of_chains items + cond (eqb x.place 0) 1 0
number_of_chains-push items x = sum_by-append (λ (y : ChainItem). cond (eqb y.place 0) 1 0) items (x ∷ []) ∙ omega arith

-- a chain never gets shorter
pub chain_length-more : (items : List ChainItem) (x : ChainItem) (c : ℕ) → chain_length items c ≤ chain_length (items ++ x ∷ []) c
chain_length-more items x c = omega (arith, chain_length-push items x c)

-- the new item's chain gets one longer
pub chain_length-own : (items : List ChainItem) (x : ChainItem) → chain_length (items ++ x ∷ []) x.chain ≡ chain_length items x.chain + 1
chain_length-own items x = elim (one_or_none x.chain x.chain) [
  | inl same ↦ omega (arith, chain_length-push items x x.chain, same.1)
  | inr other ↦ absurd (other.0 refl)
]

-- other chains stay as long
pub chain_length-other : (items : List ChainItem) (x : ChainItem) (c : ℕ) → (x.chain ≡ c → ⊥) → chain_length (items ++ x ∷ []) c ≡ chain_length items c
chain_length-other items x c apart = elim (one_or_none x.chain c) [
  | inl same ↦ absurd (apart same.0)
  | inr other ↦ omega (arith, chain_length-push items x c, other.1)
]

-- an item at its chain's first place starts a chain
pub number_of_chains-first : (items : List ChainItem) (x : ChainItem) → x.place ≡ 0 → number_of_chains (items ++ x ∷ []) ≡ number_of_chains items + 1
number_of_chains-first items x first = number_of_chains-push items x ∙ ap (λ (k : ℕ). number_of_chains items + cond (eqb k 0) 1 0) first

pub number_of_chains-more : (items : List ChainItem) (x : ChainItem) → number_of_chains items ≤ number_of_chains (items ++ x ∷ [])
number_of_chains-more items x = omega (arith, number_of_chains-push items x)

-- past its chain's first place, an item starts no chain
pub number_of_chains-later : (items : List ChainItem) (x : ChainItem) → 0 < x.place → number_of_chains (items ++ x ∷ []) ≡ number_of_chains items
number_of_chains-later items x later = let none : cond {A = ℕ} (eqb x.place 0) 1 0 ≡ 0 = grind (arith, nat_tests) in omega (arith, number_of_chains-push items x, none)

-- an item that starts a chain starts the next one
pub starts_next : (items : List ChainItem) (x : ChainItem) → AreChained items → IsNext items x → x.place ≡ 0 → x.chain ≡ number_of_chains items
starts_next items x c n first = elim (cases_lt x.chain (number_of_chains items)) [
  | inl low ↦ let some = c.started x.chain low in absurd (omega (arith, some, n.place))
  | inr high ↦ omega (arith, n.chain)
]

-- an item that continues a chain continues one that is there
pub goes_on : (items : List ChainItem) (x : ChainItem) → AreChained items → IsNext items x → 0 < x.place → x.chain < number_of_chains items
goes_on items x c n later = elim (cases_lt x.chain (number_of_chains items)) [
  | inl low ↦ low
  | inr high ↦ let none = c.counted x.chain high in absurd (omega (arith, none, n.place))
]

-- ---- what holds with one item more

placed_next : (items : List ChainItem) (x : ChainItem) → AreChained items → IsNext items x → (item : ℕ) (y : ChainItem) → slice_get (items ++ x ∷ []) item ≡ Some y → y.place < chain_length (items ++ x ∷ []) y.chain
placed_next items x c n item y at = elim (from_pushed items x item y at) [
  | inl h ↦ omega (arith, c.placed item y h, chain_length-more items x y.chain)
  | inr h ↦ subst (λ (z : ChainItem). z.place < chain_length (items ++ x ∷ []) z.chain) h.1 (omega (arith, n.place, chain_length-own items x))
]

parents_next : (items : List ChainItem) (x : ChainItem) → AreChained items → IsNext items x → (item : ℕ) (y : ChainItem) (k : ℕ) → slice_get (items ++ x ∷ []) item ≡ Some y → k < length y.parents → get_or y.parents k 0 < item
parents_next items x c n item y k at low = elim (from_pushed items x item y at) [
  | inl h ↦ c.parents item y k h low
  | inr h ↦
      let Low : ChainItem → Type 0 = λ z. k < length z.parents → get_or z.parents k 0 < item in
      let last : Low x = λ inside. omega (arith, n.parents k inside, h.0) in
      subst Low h.1 last low
]

-- an item stays at its place
pub stands_more : (items : List ChainItem) (x : ChainItem) (item chain place : ℕ) → IsChainItemAt items item chain place → IsChainItemAt (items ++ x ∷ []) item chain place
stands_more items x item chain place (y, (at, is)) = (y, (to_pushed items x item y at, is))

gapless_next : (items : List ChainItem) (x : ChainItem) → AreChained items → IsNext items x → (chain place : ℕ) → place < chain_length (items ++ x ∷ []) chain → (item : ℕ) × IsChainItemAt (items ++ x ∷ []) item chain place
gapless_next items x c n chain place low = elim (cases_lt place (chain_length items chain)) [
  | inl lt ↦ let r = c.gapless chain place lt in (r.0, stands_more items x r.0 chain place r.1)
  | inr ge ↦ elim (one_or_none x.chain chain) [
    | inl same ↦ (length items, (x, (get_last items x, (same.0, omega (arith, n.place, ap (chain_length items) same.0, chain_length-push items x chain, same.1)))))
    | inr other ↦ absurd (omega (arith, chain_length-push items x chain, other.1))
  ]
]

started_next : (items : List ChainItem) (x : ChainItem) → AreChained items → IsNext items x → (chain : ℕ) → chain < number_of_chains (items ++ x ∷ []) → 0 < chain_length (items ++ x ∷ []) chain
started_next items x c n chain low = elim (cases_lt chain (number_of_chains items)) [
  | inl lt ↦ omega (arith, c.started chain lt, chain_length-more items x chain)
  | inr ge ↦ elim (one_or_none x.place 0) [
    | inl first ↦
        let own = starts_next items x c n first.0 in
        let here : chain ≡ x.chain = omega (arith, own, number_of_chains-push items x, first.1) in
        subst (λ (k : ℕ). 0 < chain_length (items ++ x ∷ []) k) (sym here) (omega (arith, chain_length-own items x))
    | inr later ↦ absurd (omega (arith, number_of_chains-push items x, later.1))
  ]
]

counted_next : (items : List ChainItem) (x : ChainItem) → AreChained items → IsNext items x → (chain : ℕ) → number_of_chains (items ++ x ∷ []) ≤ chain → chain_length (items ++ x ∷ []) chain ≡ 0
counted_next items x c n chain high =
    let none : chain_length items chain ≡ 0 = c.counted chain (omega (arith, number_of_chains-more items x)) in
    elim (one_or_none x.chain chain) [
      | inl same ↦ elim (one_or_none x.place 0) [
        | inl first ↦ absurd (omega (arith, n.chain, number_of_chains-push items x, first.1, same.0))
        | inr later ↦ absurd (later.0 (n.place ∙ (ap (chain_length items) same.0 ∙ none)))
      ]
      | inr other ↦ omega (arith, chain_length-push items x chain, other.1, none)
    ]

-- an item that was there leads to no later place than the new one's
linked_last : (items : List ChainItem) (x : ChainItem) → AreChained items → IsNext items x → (a : ℕ) (y : ChainItem) → slice_get items a ≡ Some y → y.chain ≡ x.chain → IsUpTo (items ++ x ∷ []) a (length items)
linked_last items x c n a y at same =
    let low : y.place < x.place = omega (arith, c.placed a y at, ap (chain_length items) same, n.place) in
    let p = n.linked (omega arith) in
    let before = standing items p.0 x.chain (x.place - 1) p.1.0 in
    let up : IsUpTo items a p.0 = c.linked a p.0 y before.it at before.at (same ∙ sym before.of_chain) (omega (arith, low, before.at_place)) in
    up_to_parent (items ++ x ∷ []) a p.0 (length items) (last_has_parent items x p.0 p.1.1) (up_to_more items x a p.0 up)

linked_next : (items : List ChainItem) (x : ChainItem) → AreChained items → IsNext items x → (a b : ℕ) (y z : ChainItem) → slice_get (items ++ x ∷ []) a ≡ Some y → slice_get (items ++ x ∷ []) b ≡ Some z → y.chain ≡ z.chain → y.place ≤ z.place → IsUpTo (items ++ x ∷ []) a b
linked_next items x c n a b y z at_a at_b same low = elim (from_pushed items x a y at_a) [
  | inl old_a ↦ elim (from_pushed items x b z at_b) [
    | inl old_b ↦ up_to_more items x a b (c.linked a b y z old_a old_b same low)
    | inr new_b ↦ subst (IsUpTo (items ++ x ∷ []) a) (sym new_b.0) (linked_last items x c n a y old_a (same ∙ sym (ap (λ (w : ChainItem). w.chain) new_b.1)))
  ]
  | inr new_a ↦ elim (from_pushed items x b z at_b) [
    | inl old_b ↦
        let chain_is : x.chain ≡ z.chain = ap (λ (w : ChainItem). w.chain) new_a.1 ∙ same in
        let place_is : x.place ≡ y.place = ap (λ (w : ChainItem). w.place) new_a.1 in
        absurd (omega (arith, c.placed b z old_b, n.place, ap (chain_length items) chain_is, place_is, low))
    | inr new_b ↦ subst (λ (k : ℕ). IsUpTo (items ++ x ∷ []) k b) (new_b.0 ∙ sym new_a.0) (up_to_self (items ++ x ∷ []) b)
  ]
]

pub chained_next : (items : List ChainItem) (x : ChainItem) → AreChained items → IsNext items x → AreChained (items ++ x ∷ [])
chained_next items x c n = record {
  parents = parents_next items x c n;
  placed = placed_next items x c n;
  gapless = gapless_next items x c n;
  started = started_next items x c n;
  counted = counted_next items x c n;
  linked = linked_next items x c n;
}
