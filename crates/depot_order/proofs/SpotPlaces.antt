-- Elements of a list by their places.
use Rattle.std.proofs.Common.{◌≡◌, ◌≢◌, ℕ, zero, suc, ◌<◌, List, [], ◌∷◌, ◌++◌, length, Some, refl, arith}
use Rattle.std.proofs.Math.ListN.{set}
use Rattle.std.specs.List.{slice_get}

-- the last one
pub at_pushed : {X : Type 0} (xs : List X) (y : X) (i : ℕ) → i ≡ length xs → slice_get (xs ++ y ∷ []) i ≡ Some y
at_pushed [] y zero e = refl
at_pushed [] y (suc i) e = absurd (omega arith)
at_pushed (z ∷ zs) y zero e = absurd (omega arith)
at_pushed (z ∷ zs) y (suc i) e = at_pushed zs y i (omega arith)

-- an element that was written
pub at_set : {X : Type 0} (xs : List X) (y : X) (i j : ℕ) → i < length xs → j ≡ i → slice_get (set xs i y) j ≡ Some y
at_set [] y i j h e = absurd (omega arith)
at_set (x ∷ xs) y zero zero h e = refl
at_set (x ∷ xs) y zero (suc j) h e = absurd (omega arith)
at_set (x ∷ xs) y (suc i) zero h e = absurd (omega arith)
at_set (x ∷ xs) y (suc i) (suc j) h e = at_set xs y i j (omega arith) (omega arith)

-- another element
pub beside_set : {X : Type 0} (xs : List X) (y : X) (i j : ℕ) → j ≢ i → slice_get (set xs i y) j ≡ slice_get xs j
beside_set [] y i j e = refl
beside_set (x ∷ xs) y zero zero e = absurd (e refl)
beside_set (x ∷ xs) y zero (suc j) e = refl
beside_set (x ∷ xs) y (suc i) zero e = refl
beside_set (x ∷ xs) y (suc i) (suc j) e = beside_set xs y i j (λ h. e (omega arith))
