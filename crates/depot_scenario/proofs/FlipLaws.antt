-- A byte of a list with its lowest bit changed.
use Rattle.std.proofs.Common.{◌≡◌, ℕ, zero, suc, ◌<◌, ◌≤◌, List, [], ◌∷◌, length, get_or, refl, ap, arith}
use Rattle.std.specs.Int.Bits.{bit_xor, xor_add_and}
use Rattle.std.proofs.Math.ListN.{set}
use Rattle.std.proofs.lemmas.Bool.Decides.{nat_tests}
use Rattle.std.proofs.lemmas.Nat.{and_mask}
use Rattle.depot_world.specs.FaultySigning.{flip_at, flipped}

xor_one : (b : ℕ) → bit_xor b 1 ≡ flipped b
xor_one b = grind (arith, nat_tests, xor_add_and b 1, and_mask b 1)

-- where there is one at the place
pub flip_within : (n : ℕ) (bytes : List ℕ) → n < length bytes → set bytes n (bit_xor (get_or bytes n 0) 1) ≡ flip_at n bytes
unfolding flip_at
flip_within n [] within = absurd (omega arith)
flip_within zero (b ∷ bytes) within = ap (λ (c : ℕ). c ∷ bytes) (xor_one b)
flip_within (suc n) (b ∷ bytes) within = ap (λ (xs : List ℕ). b ∷ xs) (flip_within n bytes (omega arith))

-- where there is none
pub flip_past : (n : ℕ) (bytes : List ℕ) → length bytes ≤ n → bytes ≡ flip_at n bytes
unfolding flip_at
flip_past n [] past = refl
flip_past zero (b ∷ bytes) past = absurd (omega arith)
flip_past (suc n) (b ∷ bytes) past = ap (λ (xs : List ℕ). b ∷ xs) (flip_past n bytes (omega arith))
