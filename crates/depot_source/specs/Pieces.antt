-- What one read of a source gives.
use Rattle.std.specs.Prelude.{◌≡◌, ◌≤◌, ℕ, List, [], ◌∷◌, ◌++◌, length, Bool, true, false, Result, Ok, Err}
use Rattle.depot_outside.specs.declared.outside_error.OutError.{OutError}
use Rattle.depot_outside.specs.declared.outside_error.OutError.TheVariants as error

-- some bytes more were given, maybe none
abbrev pub GivesMore : List ℕ → List ℕ → Type 0
GivesMore before after = (text : List ℕ) × (after ≡ before ++ text)

abbrev pub has_no_bytes : List ℕ → Bool
has_no_bytes [] = true
has_no_bytes (b ∷ bytes) = false

-- A piece was given, no longer than what was asked for, and follows what was there. It has no bytes exactly at the end.
pub record HasPiece (before after old new : List ℕ) (most : ℕ) (over : Bool) : Type 0 where
  pub piece : List ℕ
  pub given : after ≡ before ++ piece
  pub added : new ≡ old ++ piece
  pub short : length piece ≤ most
  pub ends : over ≡ has_no_bytes piece

-- On an error: nothing was given where the source failed; where memory ran out, what was given may be lost.
abbrev pub ReadsPiece : List ℕ → List ℕ → List ℕ → List ℕ → ℕ → Bool → Result (Unit {0}) OutError → Type 0
ReadsPiece before after old new most over (Ok _) = HasPiece before after old new most over
ReadsPiece before after old new most over (Err error.Failed) = (after ≡ before) × (new ≡ old)
ReadsPiece before after old new most over (Err error.Memory) = GivesMore before after × (new ≡ old)
