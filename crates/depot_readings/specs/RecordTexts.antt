-- The texts of records, and those that a journal is given to append.
use Rattle.std.specs.Prelude.{◌≡◌, ℕ, List, [], ◌∷◌}
use Rattle.depot_base.specs.declared.record.Record.{Record}
use Rattle.depot_base.specs.declared.record.Record.TheVariants.{Foreign}
use Rattle.depot_model.specs.texts.Texts.{text_of_signed}

-- ---- a statement of another at the end

-- the text of a statement of another that comes last, as it was given; nothing where there is none
abbrev pub given_of : List Record → List ℕ
given_of [] = []
given_of (Foreign s ∷ []) = text_of_signed s
given_of (r ∷ []) = []
given_of (p ∷ r ∷ rs) = given_of (r ∷ rs)

-- where the last record is a statement of another, this is its text
abbrev pub IsGiven : List Record → List ℕ → Type 0
IsGiven [] text = Unit {0}
IsGiven (Foreign s ∷ []) text = text ≡ text_of_signed s
IsGiven (r ∷ []) text = Unit {0}
IsGiven (p ∷ r ∷ rs) text = IsGiven (r ∷ rs) text
