-- Climbing a tree.
use Rattle.std.proofs.Common.{◌≡◌, ℕ, suc, ◌+◌, ◌-◌, ◌*◌, ◌/◌, ◌%◌, ◌<◌, ◌≤◌, ◌⊎◌, inl, inr, List, take, drop, arith, if◌then◌else◌, ◌==◌}
use Rattle.std.proofs.lemmas.List.{drop-drop}
use Rattle.std.proofs.lemmas.Bool.{cases_eq, cond-true, cond-false, eq-eqb, ne_eqb}
use Rattle.depot_model.specs.texts.Winternitz.{climb, inner_node, sibling}

-- a left child has its sibling after it, and a right child before it
pub sibling_cases : (k : ℕ) → ((k % 2 ≡ 0) × (sibling k ≡ k + 1)) ⊎ ((k % 2 ≡ 1) × (sibling k ≡ k - 1))
sibling_cases k = elim (cases_eq (k % 2) 0) [
  | inl left ↦ inl (left, cond-true (k % 2 == 0) (k + 1) (k - 1) (eq-eqb (k % 2) 0 left))
  | inr right ↦ inr (omega arith, cond-false (k % 2 == 0) (k + 1) (k - 1) (ne_eqb (k % 2) 0 right))
]

-- one level, while the top isn't reached
pub climb_more : (k : ℕ) (value : List ℕ) (n height : ℕ) (siblings : List ℕ) → n < height →
    climb k value (height - n) (drop (32 * n) siblings)
    ≡ climb (k / 2) (if k % 2 == 0 then inner_node value (take 32 (drop (32 * n) siblings)) else inner_node (take 32 (drop (32 * n) siblings)) value) (height - (n + 1)) (drop (32 * (n + 1)) siblings)
unfolding climb
climb_more k value n height siblings below =
    let left : height - n ≡ suc (height - (n + 1)) = omega arith in
    let place : 32 * n + 32 ≡ 32 * (n + 1) = omega arith in
    let next : drop 32 (drop (32 * n) siblings) ≡ drop (32 * (n + 1)) siblings = rw (drop-drop, place) in
    rw (left, ← next)

-- no level, once it is reached
pub climb_done : (k : ℕ) (value : List ℕ) (n height : ℕ) (siblings : List ℕ) → height ≤ n →
    climb k value (height - n) siblings ≡ value
unfolding climb
climb_done k value n height siblings reached =
    let left : height - n ≡ 0 = omega arith in
    rw left
