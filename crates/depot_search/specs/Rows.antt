-- Sets of the members of a list as rows, which have for each member, in order, whether it is in the set; and tables,
-- which have a row for each member.
use Rattle.std.specs.Prelude.{ℕ, zero, suc, ◌+◌, List, [], ◌∷◌, map, slice_index_or, Bool, false, not, ◌&&◌, ◌||◌, Option, Some, None, if◌then◌else◌}
use Rattle.std.specs.List.{list_any, zip}

-- ---- rows

-- what is in either set
abbrev pub either_of : List Bool → List Bool → List Bool
either_of a b = map (λ p. p.0 || p.1) (zip a b)

-- what is in both
abbrev pub both_of : List Bool → List Bool → List Bool
both_of a b = map (λ p. p.0 && p.1) (zip a b)

-- what is in the first alone
abbrev pub without_of : List Bool → List Bool → List Bool
without_of a b = map (λ p. p.0 && not p.1) (zip a b)

-- one is in both
abbrev pub is_met : List Bool → List Bool → Bool
is_met a b = list_any (λ p. p.0 && p.1) (zip a b)

-- the member of this place is in the set
abbrev pub is_set : List Bool → ℕ → Bool
is_set row at = slice_index_or row at false

-- ---- tables

-- the members whose rows have one in a set
abbrev pub reached_by : List (List Bool) → List Bool → List Bool
reached_by rows set = map (λ row. is_met row set) rows

-- a row, and where the member of this place is in it, what is in that member's row
abbrev pub over : List Bool → List Bool → ℕ → List Bool
over row by at = if is_set row at then either_of row by else row

-- each row so
abbrev pub over_all : List (List Bool) → ℕ → List (List Bool)
over_all rows at = map (λ row. over row (slice_index_or rows at []) at) rows

-- the same for one place after the other, from the one before this down to 0
abbrev pub over_each : List (List Bool) → ℕ → List (List Bool)
over_each rows zero = rows
over_each rows (suc at) = over_each (over_all rows at) at

-- the first place whose member is in its own row; the first of these rows is that of this place
abbrev pub first_own : ℕ → List (List Bool) → Option ℕ
first_own at [] = None
first_own at (row ∷ rows) = if is_set row at then Some at else first_own (at + 1) rows
