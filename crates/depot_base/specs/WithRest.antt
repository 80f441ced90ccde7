-- Texts of which the last comes in two parts.
use Rattle.std.specs.Prelude.{ℕ, List, [], ◌∷◌, ◌++◌}

-- these texts, the last of them with more bytes appended; where there is no text, none
abbrev pub with_rest : List (List ℕ) → List ℕ → List (List ℕ)
with_rest [] rest = []
with_rest (text ∷ []) rest = (text ++ rest) ∷ []
with_rest (text ∷ (next ∷ texts)) rest = text ∷ with_rest (next ∷ texts) rest
