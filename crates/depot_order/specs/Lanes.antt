-- Two lists of one length, entry by entry.
use Rattle.std.specs.Prelude.{ℕ, List, Bool, Option, map, max, nat_lt, nat_le, position}
use Rattle.std.specs.List.{list_all, zip}

-- no entry of the first list is above that of the second
abbrev pub all_leq : List ℕ → List ℕ → Bool
all_leq xs ys = list_all (λ p. nat_le p.0 p.1) (zip xs ys)

-- the first place at which the entry of the first list is above that of the second
abbrev pub first_above : List ℕ → List ℕ → Option ℕ
first_above xs ys = position (λ p. nat_lt p.1 p.0) (zip xs ys)

-- at each place the greater of the two entries
abbrev pub greater_of_each : List ℕ → List ℕ → List ℕ
greater_of_each xs ys = map (λ p. max p.0 p.1) (zip xs ys)
