-- A journal's file between calls: the crash images, and what a start makes of it.
use Rattle.std.specs.Prelude.{◌≡◌, ◌≢◌, ◌≤◌, ℕ, List, [], ◌∷◌, ◌++◌, Bool, false, length}
use Rattle.depot_base.specs.File.{IsFileOf}

-- The records of the file are these. Nothing follows them, unless the disk failed: then more may, as the property of
-- every moment of a call says.
pub record HasAllOf (bodies : List (List ℕ)) (stopped : Bool) (file : List ℕ) : Type 0 where
  pub more : List (List ℕ)
  pub has : IsFileOf file (bodies ++ more)
  pub none : stopped ≡ false → more ≡ []

-- What is read later begins with all records of the journal. Nothing follows them, unless the disk failed.
abbrev pub BeginsWithAll : List (List ℕ) → Bool → List (List ℕ) → Type 0
BeginsWithAll bodies stopped read = (more : List (List ℕ)) × (read ≡ bodies ++ more) × (stopped ≡ false → more ≡ [])

-- each crash image has all records of the journal
abbrev pub LeavesAllBodies : List (List ℕ) → Bool → (List ℕ → Type 0) → Type 0
LeavesAllBodies bodies stopped images = (file : List ℕ) → images file → HasAllOf bodies stopped file

-- the file is one byte, a closed gate
abbrev pub IsClosedGate : List ℕ → Type 0
IsClosedGate file = (gate : ℕ) × (gate ≢ 1) × (file ≡ gate ∷ [])

-- What a start makes of the file: one of at most one byte is then a closed gate, and any other is unchanged.
pub record IsStarted (old new : List ℕ) : Type 0 where
  pub same : 2 ≤ length old → new ≡ old
  pub gated : length old ≤ 1 → IsClosedGate new
