-- Which numbers are leaves of a tree.
use Rattle.std.proofs.Common.{◌≡◌, ℕ, ◌/◌, ◌*◌, ◌+◌, ◌^◌, ◌<◌, ◌≤◌, eqb, ltb, leb, sym, ◌∙◌, arith}
use Rattle.std.proofs.Math.Nat.{pow-le-pow_right, div-eq_of_lt, lt-mul-div-succ}
use Rattle.std.proofs.lemmas.Nat.{pow_pos}
use Rattle.std.proofs.lemmas.Bool.{le-leb, lt-ltb}
use Rattle.std.proofs.lemmas.Bool.Decides.{same_from_decides, Decides-eqb, Decides-ltb, Decides-like}

-- each number of four bytes is a leaf of a high tree
pub high_tree : (height seq : ℕ) → 32 ≤ height → seq < 2 ^ 32 → leb 32 height ≡ ltb seq (2 ^ height)
high_tree height seq high fits =
    let wide : 2 ^ 32 ≤ 2 ^ height = pow-le-pow_right (omega arith) high in
    let below : seq < 2 ^ height = omega arith in
    le-leb _ _ high ∙ sym (lt-ltb _ _ below)

below_from_quotient : (n seq : ℕ) → 0 < n → seq / n ≡ 0 → seq < n
below_from_quotient n seq some e =
    let p : seq < n * (seq / n + 1) = lt-mul-div-succ seq some in
    let q : n * (seq / n + 1) ≡ n = rw e (omega arith) in
    omega arith

-- the quotient by the number of leaves is 0 exactly for a leaf
pub no_quotient : (height seq : ℕ) → eqb (seq / 2 ^ height) 0 ≡ ltb seq (2 ^ height)
no_quotient height seq =
    same_from_decides _ _ (Decides-like _ (below_from_quotient (2 ^ height) seq (pow_pos height)) (λ lt. div-eq_of_lt lt) (Decides-eqb (seq / 2 ^ height) 0)) (Decides-ltb seq (2 ^ height))
