-- Ids that are vouched, or for which memory was reserved, in the order of the ids.
use Rattle.std.specs.Prelude.{ℕ, List, [], ◌∷◌, Bool, if◌then◌else◌}
use Rattle.std.specs.List.Sorted.{IsStrictlySortedBy}
use Rattle.std.specs.Cmp.Lexicographic.{slice_cmp}
use Rattle.std.specs.Ordering.{nat_cmp}

-- the ids that are vouched
abbrev pub vouched_in : List (List ℕ × Bool) → List (List ℕ)
vouched_in [] = []
vouched_in (e ∷ es) = if e.1 then e.0 ∷ vouched_in es else vouched_in es

-- each id is below those after it
abbrev pub DoAscend : List (List ℕ) → Type 0
DoAscend ids = IsStrictlySortedBy (slice_cmp nat_cmp) ids
