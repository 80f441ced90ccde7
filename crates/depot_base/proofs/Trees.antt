-- The leaves of a tree by its height.
use Rattle.std.proofs.Common.{◌≡◌, ℕ, ◌<◌, ◌≤◌, ◌^◌, true, nat_lt, sym, arith, pow_mono}
use Rattle.std.proofs.lemmas.Bool.{lt-ltb}

-- a tree of height 32 or more has each leaf that 32 bits can name
pub leaf_of_high_tree : (seq height : ℕ) → seq < 2 ^ 32 → 32 ≤ height → true ≡ nat_lt seq (2 ^ height)
leaf_of_high_tree seq height small high = sym (lt-ltb seq (2 ^ height) (omega (arith, pow_mono high)))
