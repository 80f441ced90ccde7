-- Sums that don't overflow.
use Rattle.std.proofs.Common.{◌≡◌, ℕ, ◌+◌, ◌<◌, List, length, take, get_or}
use Rattle.std.specs.List.{sum}
use Rattle.std.proofs.lemmas.List.Sums.{sum_by_more}

pub sum_more : (xs : List ℕ) (i : ℕ) (d : ℕ) → i < length xs → sum (take (i + 1) xs) ≡ sum (take i xs) + get_or xs i d
sum_more xs i d lt = sum_by_more (λ (x : ℕ). x) xs i d lt
