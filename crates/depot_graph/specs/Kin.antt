-- What an update more changes at its prev.
use Rattle.std.specs.Prelude.{ℕ, List, [], ◌∷◌, ◌++◌, Bool, false, ◌==◌, Option, Some, None, slice_set}
use Rattle.std.specs.List.{slice_index_or}

-- whether a place is that of the prev, if there is one
abbrev pub is_place : Option ℕ → ℕ → Bool
is_place None n = false
is_place (Some p) n = p == n

-- the children of the prev and one child more, or none
abbrev pub siblings_of : Option ℕ → ℕ → List (List ℕ) → List ℕ
siblings_of None n lists = []
siblings_of (Some p) n lists = slice_index_or lists p [] ++ n ∷ []

-- the lists of children, with this one at the prev
abbrev pub with_siblings : Option ℕ → List ℕ → List (List ℕ) → List (List ℕ)
with_siblings None list lists = lists
with_siblings (Some p) list lists = slice_set lists p list
