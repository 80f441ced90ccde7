use Rattle.std.proofs.Common.{ℕ, ◌<◌, ◌≤◌, get_or}
use Rattle.depot_winter.proofs.base16.smaller_digit.Given as goal

-- no digit so far is smaller
abbrev pub invariant-loop-place : goal.invariant-loop-place
invariant-loop-place l = (k : ℕ) → k < l.place → get_or l.first_digits k 0 ≤ get_or l.second_digits k 0
