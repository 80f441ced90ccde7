-- What the calls of a disk do to its file, and the crash images of it.
--
-- A stop may come at any moment. It leaves one of the crash images of that moment, and the next run finds that file.
use Rattle.std.specs.Prelude.{◌≡◌, ◌⊎◌, ℕ, ◌+◌, ◌≤◌, max, List, ◌++◌, length, take, drop}

-- new is old with these bytes at this offset
abbrev pub IsWritten : List ℕ → ℕ → List ℕ → List ℕ → Type 0
IsWritten old at bytes new = new ≡ take at old ++ bytes ++ drop (at + length bytes) old

-- A stop cut short a write of this many bytes at this offset: its range and the part past the old end hold any bytes,
-- and the others stay.
pub record IsTorn (at count : ℕ) (old new : List ℕ) : Type 0 where
  pub before : take at new ≡ take at old
  pub after : drop (at + count) new ≡ drop (at + count) old
  pub no_shorter : length old ≤ length new
  pub no_longer : length new ≤ max (length old) (at + count)

-- each image now is an image of before, a step later
abbrev pub ImagesFollow : (List ℕ → List ℕ → Type 0) → (List ℕ → Type 0) → (List ℕ → Type 0) → Type 0
ImagesFollow step before now = (image : List ℕ) → now image → (base : List ℕ) × before base × step base image

-- each image now is an image of before
abbrev pub Within : (List ℕ → Type 0) → (List ℕ → Type 0) → Type 0
Within before now = (image : List ℕ) → now image → before image

-- this file is the only image
abbrev pub Only : List ℕ → (List ℕ → Type 0) → Type 0
Only file images = (image : List ℕ) → images image → image ≡ file

-- A call takes time from one moment to another. The images since an earlier moment are those that were possible before,
-- and those of now.
pub record Elapses (before now : ℕ) (past since : ℕ → List ℕ → Type 0) (images : List ℕ → Type 0) : Type 0 where
  pub later : before ≤ now
  pub nothing_else : (moment : ℕ) (image : List ℕ) → moment ≤ before → since moment image → past moment image ⊎ images image
  pub keeps : (moment : ℕ) (image : List ℕ) → moment ≤ before → past moment image → since moment image

-- Each image of each moment since the old disk's has this property.
pub record LeavesOnly {D : Type 0} (moment : D → ℕ) (left_since : D → ℕ → List ℕ → Type 0) (old new : D) (P : List ℕ → Type 0) : Type 0 where
  pub later : moment old ≤ moment new
  pub each : (image : List ℕ) → left_since new (moment old) image → P image
  -- those of the images since an earlier moment that came in the meantime have it
  pub before : (t : ℕ) (image : List ℕ) → t ≤ moment old → left_since new t image → left_since old t image ⊎ P image
