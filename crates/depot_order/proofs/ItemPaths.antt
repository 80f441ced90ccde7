-- Paths to parents among items, and with one item more.
use Rattle.std.proofs.Common.{◌≡◌, ℕ, zero, suc, ◌+◌, ◌<◌, ◌≤◌, List, [], ◌∷◌, ◌++◌, length, get_or, Some, refl, sym, subst, ◌∙◌, arith, inl, inr, Contains, slice_get}
use Rattle.std.proofs.lemmas.List.{get_or_default}
use Rattle.std.proofs.lemmas.Option.{slice_get_within}
use Rattle.depot_base.proofs.GeneralLaws.{from_pushed, to_pushed, get_last}
use Rattle.depot_order.specs.ChainItems.{ChainItem, IsChainItemAt, IsParentOf, LeadsTo, IsUpTo}
use Rattle.depot_order.specs.KeptRows.{AreChained}

-- ---- elements by their places

-- the item at a place of a chain
pub record Standing (items : List ChainItem) (item chain place : ℕ) : Type 0 where
  pub it : ChainItem
  pub at : slice_get items item ≡ Some it
  pub of_chain : it.chain ≡ chain
  pub at_place : it.place ≡ place

pub standing : (items : List ChainItem) (item chain place : ℕ) → IsChainItemAt items item chain place → Standing items item chain place
standing items item chain place (x, (at, (of_chain, at_place))) = record { it = x; at = at; of_chain = of_chain; at_place = at_place }

-- where an element that a list of numbers contains is
pub contained_at : (ps : List ℕ) (p : ℕ) → Contains ps p → (k : ℕ) × ((k < length ps) × (get_or ps k 0 ≡ p))
contained_at ps p on = (on.0, (on.1, get_or_default ps on.0 0 p on.1 ∙ on.2))

-- what is at a place is contained
pub contains_at : (ps : List ℕ) (k : ℕ) → k < length ps → Contains ps (get_or ps k 0)
contains_at ps k low = (k, low, get_or_default ps k (get_or ps k 0) 0 low)

-- ---- paths

pub parent_earlier : (items : List ChainItem) (p b : ℕ) → AreChained items → IsParentOf items p b → p < b
parent_earlier items p b c on =
    let k = contained_at on.0.parents p on.1.1 in
    let low = c.parents b on.0 k.0 on.1.0 k.1.0 in
    omega (arith, low, k.1.1)

-- each step leads to an earlier item
pub leads_down : (items : List ChainItem) (steps from to : ℕ) → AreChained items → LeadsTo items steps from to → to + steps ≤ from
leads_down items zero from to c l = omega (arith, l)
leads_down items (suc steps) from to c l =
    let first = parent_earlier items l.0 from c l.1.0 in
    let rest = leads_down items steps l.0 to c l.1.1 in
    omega (arith, first, rest)

pub up_to_low : (items : List ChainItem) (a b : ℕ) → AreChained items → IsUpTo items a b → a ≤ b
up_to_low items a b c u = let down = leads_down items u.0 b a c u.1 in omega (arith, down)

pub up_to_self : (items : List ChainItem) (a : ℕ) → IsUpTo items a a
up_to_self items a = (0, refl)

-- what is a parent or precedes one precedes the item
pub up_to_parent : (items : List ChainItem) (a p b : ℕ) → IsParentOf items p b → IsUpTo items a p → IsUpTo items a b
up_to_parent items a p b on u = (suc u.0, (p, (on, u.1)))

leads_on : (items : List ChainItem) (steps from via to : ℕ) → LeadsTo items steps from via → IsUpTo items to via → IsUpTo items to from
leads_on items zero from via to same u = subst (IsUpTo items to) (sym same) u
leads_on items (suc steps) from via to l u = up_to_parent items to l.0 from l.1.0 (leads_on items steps l.0 via to l.1.1 u)

pub up_to_trans : (items : List ChainItem) (a b c : ℕ) → IsUpTo items a b → IsUpTo items b c → IsUpTo items a c
up_to_trans items a b c u v = leads_on items v.0 c b a v.1 u

-- ---- with one item more

leads_more : (items : List ChainItem) (x : ChainItem) (steps from to : ℕ) → LeadsTo items steps from to → LeadsTo (items ++ x ∷ []) steps from to
leads_more items x zero from to same = same
leads_more items x (suc steps) from to l =
    let y = l.1.0.0 in
    (l.0, ((y, (to_pushed items x from y l.1.0.1.0, l.1.0.1.1)), leads_more items x steps l.0 to l.1.1))

pub up_to_more : (items : List ChainItem) (x : ChainItem) (a b : ℕ) → IsUpTo items a b → IsUpTo (items ++ x ∷ []) a b
up_to_more items x a b u = (u.0, leads_more items x u.0 b a u.1)

leads_less : (items : List ChainItem) (x : ChainItem) (steps from to : ℕ) → AreChained items → from < length items → LeadsTo (items ++ x ∷ []) steps from to → LeadsTo items steps from to
leads_less items x zero from to c low same = same
leads_less items x (suc steps) from to c low l =
    let y = l.1.0.0 in
    elim (from_pushed items x from y l.1.0.1.0) [
      | inl h ↦
          let on : IsParentOf items l.0 from = (y, (h, l.1.0.1.1)) in
          let earlier = parent_earlier items l.0 from c on in
          (l.0, (on, leads_less items x steps l.0 to c (omega (arith, earlier)) l.1.1))
      | inr h ↦ absurd (omega (arith, h.0))
    ]

-- of an item that was there, the new one is no part
pub up_to_less : (items : List ChainItem) (x : ChainItem) (a b : ℕ) → AreChained items → b < length items → IsUpTo (items ++ x ∷ []) a b → IsUpTo items a b
up_to_less items x a b c low u = (u.0, leads_less items x u.0 b a c low u.1)

-- the new item's parents are those that it was added with
pub parent_of_last : (items : List ChainItem) (x : ChainItem) (p : ℕ) → IsParentOf (items ++ x ∷ []) p (length items) → Contains x.parents p
parent_of_last items x p on = elim (from_pushed items x (length items) on.0 on.1.0) [
  | inl h ↦ absurd (let inside = slice_get_within items (length items) on.0 h in omega (arith, inside))
  | inr h ↦ subst (λ (y : ChainItem). Contains y.parents p) (sym h.1) on.1.1
]

pub last_has_parent : (items : List ChainItem) (x : ChainItem) (p : ℕ) → Contains x.parents p → IsParentOf (items ++ x ∷ []) p (length items)
last_has_parent items x p on = (x, (get_last items x, on))
