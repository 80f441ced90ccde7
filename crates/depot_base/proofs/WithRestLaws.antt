-- Texts of which the last has more bytes after it.
use Rattle.std.proofs.Common.{◌≡◌, ◌<◌, ℕ, ◌+◌, zero, suc, List, [], ◌∷◌, ◌++◌, length, length-append, take, get_or, refl, sym, ◌∙◌, ap, arith, append-nil}
use Rattle.depot_base.specs.File.{blocks, framed}
use Rattle.depot_base.proofs.CallLaws.{framed_long}
use Rattle.depot_base.specs.WithRest.{with_rest}

-- with nothing after it they are as they are
pub rest_none : (texts : List (List ℕ)) → with_rest texts [] ≡ texts
rest_none [] = refl
rest_none (text ∷ []) = ap (λ (t : List ℕ). t ∷ []) (append-nil text)
rest_none (text ∷ (next ∷ texts)) = ap (λ (l : List (List ℕ)). text ∷ l) (rest_none (next ∷ texts))

-- as many
pub rest_count : (texts : List (List ℕ)) (rest : List ℕ) → length (with_rest texts rest) ≡ length texts
rest_count [] rest = refl
rest_count (text ∷ []) rest = refl
rest_count (text ∷ (next ∷ texts)) rest = ap (λ (n : ℕ). suc n) (rest_count (next ∷ texts) rest)

-- their records take as many bytes more as the rest has
pub rest_longer : (texts : List (List ℕ)) (rest : List ℕ) → 0 < length texts → length (blocks (with_rest texts rest)) ≡ length rest + length (blocks texts)
rest_longer [] rest some = absurd (omega (arith, some))
rest_longer (text ∷ []) rest some = omega (arith, length-append (framed (text ++ rest)) [], length-append (framed text) [], framed_long (text ++ rest), framed_long text, length-append text rest)
rest_longer (text ∷ (next ∷ texts)) rest some =
    omega (arith, rest_longer (next ∷ texts) rest (omega arith), length-append (framed text) (blocks (with_rest (next ∷ texts) rest)), length-append (framed text) (blocks (next ∷ texts)))

-- the next record is the given text, with what follows it
pub rest_next : (texts : List (List ℕ)) (rest : List ℕ) (i : ℕ) (item head behind : List ℕ) → i < length texts → item ≡ get_or texts i item → head ≡ item → (i + 1 ≡ length texts → behind ≡ rest) → (i + 1 < length texts → behind ≡ [])
    → take (i + 1) (with_rest texts rest) ≡ take i (with_rest texts rest) ++ (head ++ behind) ∷ []
rest_next [] rest i item head behind within is same last other = absurd (omega (arith, within))
rest_next (text ∷ []) rest zero item head behind within is same last other = ap (λ (r : List ℕ). (text ++ r) ∷ []) (sym (last refl)) ∙ ap (λ (t : List ℕ). (t ++ behind) ∷ []) (sym (same ∙ is))
rest_next (text ∷ []) rest (suc i) item head behind within is same last other = absurd (omega (arith, within))
rest_next (text ∷ (next ∷ texts)) rest zero item head behind within is same last other =
    ap (λ (t : List ℕ). t ∷ []) (sym (append-nil text) ∙ ap (λ (r : List ℕ). text ++ r) (sym (other (omega arith))) ∙ ap (λ (t : List ℕ). t ++ behind) (sym (same ∙ is)))
rest_next (text ∷ (next ∷ texts)) rest (suc i) item head behind within is same last other =
    let e : suc i + 1 ≡ suc (i + 1) = omega arith in
    rw e (ap (λ (l : List (List ℕ)). text ∷ l) (rest_next (next ∷ texts) rest i item head behind (omega (arith, within)) is same (λ e. last (omega (arith, e))) (λ le. other (omega (arith, le)))))
