-- A count is how many items there are.
use Rattle.std.proofs.Common.{◌≡◌, ℕ, zero, suc, ◌<◌, ◌≤◌, List, [], ◌∷◌, ◌++◌, length, get_or, refl, sym, ap, subst, ◌∙◌, arith, inl, inr}
use Rattle.std.proofs.Math.ListN.{get_or-append}
use Rattle.std.proofs.Math.Seq.{get_or-append_seam}
use Rattle.std.proofs.lemmas.Bool.{cases_lt}
use Rattle.std.proofs.lemmas.List.{length-append, get_or_default}
use Rattle.std.proofs.lemmas.Option.{same_Some}
use Rattle.depot_order.specs.ChainItems.{ChainItem, IsChainItemAt, chain_length, IsCount, IsOfPast, IsTrueOf}
use Rattle.depot_order.specs.KeptRows.{AreChained}
use Rattle.depot_order.proofs.ItemPaths.{standing, up_to_low}

-- each place of a chain has one item
one_at : (items : List ChainItem) (a b chain place : ℕ) → AreChained items → IsChainItemAt items a chain place → IsChainItemAt items b chain place → a ≡ b
one_at items a b chain place c is_a is_b =
    let at_a = standing items a chain place is_a in
    let at_b = standing items b chain place is_b in
    let same = at_a.of_chain ∙ sym at_b.of_chain in
    let low = up_to_low items a b c (c.linked a b at_a.it at_b.it at_a.at at_b.at same (omega (arith, at_a.at_place, at_b.at_place))) in
    let high = up_to_low items b a c (c.linked b a at_b.it at_a.it at_b.at at_a.at (sym same) (omega (arith, at_a.at_place, at_b.at_place))) in
    omega (arith, low, high)

-- an item is at one place
one_place : (items : List ChainItem) (a chain i j : ℕ) → IsChainItemAt items a chain i → IsChainItemAt items a chain j → i ≡ j
one_place items a chain i j is_i is_j =
    let at_i = standing items a chain i is_i in
    let at_j = standing items a chain j is_j in
    let same : at_i.it ≡ at_j.it = same_Some at_i.it at_j.it (sym at_i.at ∙ at_j.at) in
    omega (arith, at_i.at_place, at_j.at_place, ap (λ (x : ChainItem). x.place) same)

-- the first n items of a chain
record Firsts (items : List ChainItem) (chain n : ℕ) : Type 0 where
  pub numbers : List ℕ
  pub many : length numbers ≡ n
  pub at : (k : ℕ) → k < n → IsChainItemAt items (get_or numbers k 0) chain k

firsts : (items : List ChainItem) (chain n : ℕ) → AreChained items → n ≤ chain_length items chain → Firsts items chain n
firsts items chain zero c low = record { numbers = []; many = refl; at = λ k less. absurd (omega (arith, less)) }
firsts items chain (suc n) c low =
    let rest = firsts items chain n c (omega (arith, low)) in
    let next = c.gapless chain n (omega (arith, low)) in
    let all = rest.numbers ++ next.0 ∷ [] in
    record {
      numbers = all;
      many = omega (arith, rest.many, length-append rest.numbers (next.0 ∷ []));
      at = λ k less. elim (cases_lt k n) [
        | inl lt ↦ subst (λ (a : ℕ). IsChainItemAt items a chain k) (sym (get_or-append rest.numbers (next.0 ∷ []) 0 k (omega (arith, lt, rest.many)))) (rest.at k lt)
        | inr ge ↦
            let here : length rest.numbers ≡ k = omega (arith, ge, less, rest.many) in
            let read : get_or all k 0 ≡ next.0 = subst (λ (j : ℕ). get_or all j 0 ≡ next.0) here (get_or-append_seam rest.numbers next.0 [] 0) in
            let k_is : n ≡ k = omega (arith, here, rest.many) in
            subst (λ (a : ℕ). IsChainItemAt items a chain k) (sym read) (subst (IsChainItemAt items next.0 chain) k_is next.1)
      ];
    }

-- a count is how many items of the chain are the item or precede it
pub count_is_how_many : (items : List ChainItem) (chain item n : ℕ) → AreChained items → IsCount items chain item n → IsTrueOf (IsOfPast items chain item) n
count_is_how_many items chain item n c count =
    let f = firsts items chain n c count.there in
    record {
      numbers = f.numbers;
      all = λ a past.
          let x = past.it in
          let low = count.counted a x past.at past.of_chain past.up_to in
          let here : get_or f.numbers x.place 0 ≡ a = one_at items (get_or f.numbers x.place 0) a chain x.place c (f.at x.place low) (x, (past.at, (past.of_chain, refl))) in
          let inside : x.place < length f.numbers = omega (arith, low, f.many) in
          (x.place, inside, get_or_default f.numbers x.place a 0 inside ∙ here);
      only = λ a on.
          let k = on.0 in
          let here : get_or f.numbers k 0 ≡ a = get_or_default f.numbers k 0 a on.1 ∙ on.2 in
          let at = standing items a chain k (subst (λ (b : ℕ). IsChainItemAt items b chain k) here (f.at k (omega (arith, on.1, f.many)))) in
          record { it = at.it; at = at.at; of_chain = at.of_chain; up_to = count.only a at.it at.at at.of_chain (omega (arith, at.at_place, on.1, f.many)) };
      apart = λ i j d less inside same.
          let low : i < length f.numbers = omega (arith, less, inside) in
          let same_0 : get_or f.numbers i 0 ≡ get_or f.numbers j 0 = get_or_default f.numbers i 0 d low ∙ (same ∙ get_or_default f.numbers j d 0 inside) in
          let at_i = subst (λ (a : ℕ). IsChainItemAt items a chain i) same_0 (f.at i (omega (arith, low, f.many))) in
          let at_j = f.at j (omega (arith, inside, f.many)) in
          absurd (omega (arith, one_place items (get_or f.numbers j 0) chain i j at_i at_j, less));
      many = f.many;
    }
