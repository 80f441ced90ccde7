-- What calls on the outside do.
use Rattle.std.specs.Prelude.{◌≡◌, ℕ, List, [], ◌∷◌, ◌++◌, take, Result, Ok, Err}
use Rattle.depot_outside.specs.declared.outside_error.OutError.{OutError}
use Rattle.depot_outside.specs.declared.outside_error.OutError.TheVariants as error

-- All of the piece was added, or a prefix of it where the sink failed, or nothing where memory ran out.
abbrev pub WritesPiece : List ℕ → List ℕ → List ℕ → Result (Unit {0}) OutError → Type 0
WritesPiece old new piece (Ok _) = new ≡ old ++ piece
WritesPiece old new piece (Err error.Failed) = (n : ℕ) × (new ≡ old ++ take n piece)
WritesPiece old new piece (Err error.Memory) = new ≡ old

-- The shelf's list of failed names has one more where it failed in this call, and is unchanged where it didn't.
abbrev pub FailsOn : {A : Type 0} → List (List ℕ) → List (List ℕ) → List ℕ → Result A OutError → Type 0
FailsOn old new name (Ok _) = new ≡ old
FailsOn old new name (Err error.Failed) = new ≡ old ++ name ∷ []
FailsOn old new name (Err error.Memory) = new ≡ old
