-- How long the chains of a forest are, and where the next item is.
use Rattle.std.proofs.Common.{◌≡◌, ℕ, zero, suc, ◌+◌, ◌-◌, ◌<◌, ◌≤◌, List, [], ◌∷◌, ◌++◌, length, true, false, cond, eqb, Option, Some, refl, sym, ap, subst, ◌∙◌, arith, inl, inr, true≢false}
use Rattle.std.proofs.lemmas.Bool.{cases_lt}
use Rattle.std.proofs.lemmas.List.Sums.{sum_by-append}
use Rattle.std.specs.List.{slice_get}
use Rattle.depot_base.proofs.GeneralLaws.{from_pushed, to_pushed, one_or_none}
use Rattle.depot_order.specs.declared.chains.Spot.{Spot}
use Rattle.depot_order.specs.Spots.{has_child, chains_of, spot_count, next_spot, spots_behind, spots}
use Rattle.depot_order.proofs.SpotPlaces.{at_pushed}
use Rattle.depot_order.proofs.Placing.{spot_at, Placed, next_cases, child_there, placed_next, none_placed, all_placed, back_by}

-- each place of a chain is below its length, and the last of these is taken
pub record Long (placed : List Spot) : Type 0 where
  pub low : (item : ℕ) (s : Spot) → slice_get placed item ≡ Some s → s.place < spot_count placed s.chain
  pub last : (chain n : ℕ) → spot_count placed chain ≡ suc n → (item : ℕ) × (slice_get placed item ≡ Some (spot_at chain n))

chain_length-push : (placed : List Spot) (x : Spot) (c : ℕ) → spot_count (placed ++ x ∷ []) c ≡ spot_count placed c + cond (eqb x.chain c) 1 0
chain_length-push placed x c = sum_by-append (λ (s : Spot). cond (eqb s.chain c) 1 0) placed (x ∷ []) ∙ omega arith

-- one item more, at its chain's length
long_push : (placed : List Spot) (x : Spot) → Long placed → x.place ≡ spot_count placed x.chain → Long (placed ++ x ∷ [])
long_push placed x l place = record {
  low = λ item s at. elim (from_pushed placed x item s at) [
    | inl h ↦ omega (arith, l.low item s h, chain_length-push placed x s.chain)
    | inr h ↦ subst (λ (y : Spot). y.place < spot_count (placed ++ x ∷ []) y.chain) h.1 (elim (one_or_none x.chain x.chain) [
      | inl same ↦ omega (arith, place, chain_length-push placed x x.chain, same.1)
      | inr other ↦ absurd (other.0 refl)
    ])
  ];
  last = λ chain n is. elim (one_or_none x.chain chain) [
    | inl same ↦
        let here : x.place ≡ n = omega (arith, place, is, chain_length-push placed x chain, same.1, ap (spot_count placed) same.0) in
        let x_is : x ≡ spot_at chain n = ap (λ (c : ℕ). spot_at c x.place) same.0 ∙ ap (λ (k : ℕ). spot_at chain k) here in
        (length placed, at_pushed placed x (length placed) refl ∙ ap (λ (s : Spot). Some s) x_is)
    | inr other ↦ let r = l.last chain n (omega (arith, is, chain_length-push placed x chain, other.1)) in (r.0, to_pushed placed x r.0 (spot_at chain n) r.1)
  ];
}

-- no item is of the next chain
none_of_next : (prevs : List (Option ℕ)) (placed : List Spot) → Placed prevs placed → Long placed → (n : ℕ) → spot_count placed (chains_of placed) ≡ n → n ≡ 0
none_of_next prevs placed p l zero is = refl
none_of_next prevs placed p l (suc n) is = let r = l.last (chains_of placed) n is in absurd (omega (arith, p.chain r.0 (spot_at (chains_of placed) n) r.1))

-- an item without a child is the last of its chain
tip_length : (prevs : List (Option ℕ)) (placed : List Spot) (item : ℕ) (s : Spot) → Placed prevs placed → Long placed → slice_get placed item ≡ Some s → has_child prevs item ≡ false → (n : ℕ) → spot_count placed s.chain ≡ n → n ≡ suc s.place
tip_length prevs placed item s p l at free zero is = absurd (omega (arith, l.low item s at, is))
tip_length prevs placed item s p l at free (suc n) is = elim (cases_lt s.place n) [
  | inl more ↦
      let r = l.last s.chain n is in
      let high : n ≡ (n - suc s.place) + suc s.place = omega (arith, more) in
      let e = back_by prevs placed p (n - suc s.place) r.0 s.chain (suc s.place) (r.1 ∙ ap (λ (k : ℕ). Some (spot_at s.chain k)) high) in
      let b = p.back e.from s.chain s.place e.spot in
      let same : b.prev ≡ item = p.once b.prev item s b.spot at in
      absurd (true≢false (sym (child_there prevs e.from item (subst (λ (k : ℕ). slice_get prevs e.from ≡ Some (Some k)) same b.is)) ∙ free))
  | inr least ↦ omega (arith, least, l.low item s at, is)
]

-- the next item is at its chain's length
next_is_length : (prevs : List (Option ℕ)) (placed : List Spot) (prev : Option ℕ) → Placed prevs placed → Long placed → (next_spot prevs placed prev).place ≡ spot_count placed (next_spot prevs placed prev).chain
next_is_length prevs placed prev p l = elim (next_cases prevs placed prev) [
  | inl s ↦ subst (λ (x : Spot). x.place ≡ spot_count placed x.chain) (sym s.first) (sym (none_of_next prevs placed p l (spot_count placed (chains_of placed)) refl))
  | inr c ↦ subst (λ (x : Spot). x.place ≡ spot_count placed x.chain) (sym c.behind) (sym (tip_length prevs placed c.item c.spot p l c.at c.free (spot_count placed c.spot.chain) refl))
]

long_behind : (before : List (Option ℕ)) (placed : List Spot) (rest : List (Option ℕ)) → Placed before placed → Long placed → Long (spots_behind before placed rest)
unfolding spots_behind
long_behind before placed [] p l = l
long_behind before placed (prev ∷ rest) p l =
    let x : Spot = next_spot before placed prev in
    long_behind (before ++ prev ∷ []) (placed ++ x ∷ []) rest (placed_next before placed prev p) (long_push placed x l (next_is_length before placed prev p l))

all_long : (prevs : List (Option ℕ)) → Long (spots prevs)
unfolding spots
all_long prevs = long_behind [] [] prevs none_placed (record { low = λ item s at. absurd cc; last = λ chain n is. absurd (omega (arith, is)) })

-- ---- where the next item is

pub next_place : (prevs : List (Option ℕ)) (prev : Option ℕ) → (next_spot prevs (spots prevs) prev).place ≡ spot_count (spots prevs) (next_spot prevs (spots prevs) prev).chain
next_place prevs prev = next_is_length prevs (spots prevs) prev (all_placed prevs) (all_long prevs)

pub next_chain_low : (prevs : List (Option ℕ)) (prev : Option ℕ) → (next_spot prevs (spots prevs) prev).chain ≤ chains_of (spots prevs)
next_chain_low prevs prev = elim (next_cases prevs (spots prevs) prev) [
  | inl s ↦ omega (arith, ap (λ (x : Spot). x.chain) s.first)
  | inr c ↦ omega (arith, ap (λ (x : Spot). x.chain) c.behind, (all_placed prevs).chain c.item c.spot c.at)
]

pub next_behind : (prevs : List (Option ℕ)) (prev : Option ℕ) → 0 < (next_spot prevs (spots prevs) prev).place → (p : ℕ) × ((prev ≡ Some p) × (slice_get (spots prevs) p ≡ Some (spot_at (next_spot prevs (spots prevs) prev).chain ((next_spot prevs (spots prevs) prev).place - 1))))
next_behind prevs prev later = elim (next_cases prevs (spots prevs) prev) [
  | inl s ↦ absurd (omega (arith, later, ap (λ (x : Spot). x.place) s.first))
  | inr c ↦
      let chain_is = ap (λ (x : Spot). x.chain) c.behind in
      let place_is : c.spot.place ≡ (next_spot prevs (spots prevs) prev).place - 1 = omega (arith, ap (λ (x : Spot). x.place) c.behind) in
      (c.item, (c.is, c.at ∙ (ap (λ (k : ℕ). Some (spot_at k c.spot.place)) (sym chain_is) ∙ ap (λ (k : ℕ). Some (spot_at (next_spot prevs (spots prevs) prev).chain k)) place_is)))
]
