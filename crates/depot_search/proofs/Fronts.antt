-- The first members of a list.
use Rattle.std.proofs.Common.{◌≡◌, ℕ, inl, inr, List, length, take, ap, sym, ◌∙◌, arith}
use Rattle.std.specs.Prelude.{min}
use Rattle.std.proofs.lemmas.Bool.{cases_lt}
use Rattle.std.proofs.lemmas.List.{take_all}

-- no more than there are
pub take_min : {X : Type 0} (n : ℕ) (xs : List X) → take (min n (length xs)) xs ≡ take n xs
take_min n xs = elim (cases_lt n (length xs)) [
  | inl few ↦ let e : min n (length xs) ≡ n = omega (arith, few) in ap (λ (k : ℕ). take k xs) e
  | inr many ↦ let e : min n (length xs) ≡ length xs = omega (arith, many) in ap (λ (k : ℕ). take k xs) e ∙ take_all (length xs) xs (omega arith) ∙ sym (take_all n xs many)
]
