-- The file of a journal.
--
-- It is a list of records, each a gate byte, the length of the body as four bytes, and the body; after the last one
-- comes the gate of the next. A gate of 1 is open. Any other is closed: the list ends there, and what follows it means
-- nothing.
use Rattle.std.specs.Prelude.{◌≡◌, ◌≢◌, ◌⊎◌, ◌<◌, ◌≤◌, ℕ, ◌+◌, ◌^◌, List, [], ◌∷◌, ◌++◌, length, take}
use Rattle.std.specs.Int.{w32}
use Rattle.depot_base.specs.Cursor.{numeral}
use Rattle.depot_base.specs.declared.check.FullOf.{FullOf}
use Rattle.depot_base.specs.declared.check.FullOf.TheVariants as full_of
use Rattle.depot_base.specs.declared.limits.TheConstants.{MOST_RECORDS, MOST_JOURNAL}

-- what follows a record's gate: the length and the body
unfoldable pub framed : List ℕ → List ℕ
framed body = numeral w32 (length body) ++ body

-- what an append writes after the closed gate: the length, the body, and a closed gate
abbrev pub closed_block : List ℕ → List ℕ
closed_block body = framed body ++ 0 ∷ []

-- records after open gates
abbrev pub blocks : List (List ℕ) → List ℕ
blocks [] = []
blocks (body ∷ bodies) = 1 ∷ (framed body ++ blocks bodies)

-- The records keep to the limits of a journal, of which the last gate is a byte.
pub record AreWithinLimits (bodies : List (List ℕ)) : Type 0 where
  pub records : length bodies ≤ MOST_RECORDS
  pub bytes : 1 + length (blocks bodies) ≤ MOST_JOURNAL

-- These records, each after an open gate, then a closed gate, and then anything.
abbrev pub StandsFor : List ℕ → List (List ℕ) → Type 0
StandsFor file bodies = (gate : ℕ) × (rest : List ℕ) × (gate ≢ 1) × (file ≡ blocks bodies ++ gate ∷ rest)

-- These are the records of the file. A file of at most one byte has none, whatever the byte.
abbrev pub IsFileOf : List ℕ → List (List ℕ) → Type 0
IsFileOf file bodies = ((length file ≤ 1) × (bodies ≡ [])) ⊎ (StandsFor file bodies × AreWithinLimits bodies)

-- The file, of more than one byte, is damaged at this offset: good records come before it, at it is an open gate, and
-- after the gate there is no whole record with which the journal keeps to its limits. A record is whole where its
-- length, its body and the next gate are there.
pub record IsDamagedAt (file : List ℕ) (at : ℕ) : Type 0 where
  pub good : List (List ℕ)
  pub rest : List ℕ
  pub long : 2 ≤ length file
  pub within : AreWithinLimits good
  pub parts : file ≡ blocks good ++ 1 ∷ rest
  pub place : at ≡ length (blocks good)
  pub bad : (body : List ℕ) (gate : ℕ) (more : List ℕ) → length body < 2 ^ 32 → rest ≡ framed body ++ gate ∷ more → AreWithinLimits (good ++ body ∷ []) → ⊥

-- the records of the file are these and this many of the new ones
pub record HasBodyFront (bodies new : List (List ℕ)) (file : List ℕ) : Type 0 where
  pub count : ℕ
  pub is : IsFileOf file (bodies ++ take count new)

-- Of the new records those before the failing one were kept, and each image of the disk has these, or these and the failing one.
pub record AreBodiesCutShort (bodies new kept : List (List ℕ)) (told : Type 0) (images : List ℕ → Type 0) : Type 0 where
  pub count : ℕ
  pub fewer : count < length new
  pub front : kept ≡ bodies ++ take count new
  pub stable : told → (image : List ℕ) → images image → IsFileOf image kept ⊎ IsFileOf image (bodies ++ take (count + 1) new)

-- Which limit this many more records, of this many bytes with their gates and lengths, would pass, and the number now.
abbrev pub PassesLimit : List (List ℕ) → ℕ → ℕ → FullOf → ℕ → Type 0
PassesLimit bodies records bytes full_of.Records number = (number ≡ length bodies) × (MOST_RECORDS < length bodies + records)
PassesLimit bodies records bytes full_of.Bytes number = (number ≡ 1 + length (blocks bodies)) × (length bodies + records ≤ MOST_RECORDS) × (MOST_JOURNAL < 1 + length (blocks bodies) + bytes)
PassesLimit bodies records bytes full_of.Writers number = ⊥

-- They pass none.
pub record FitsFile (bodies : List (List ℕ)) (records bytes : ℕ) : Type 0 where
  pub records_fit : length bodies + records ≤ MOST_RECORDS
  pub bytes_fit : 1 + length (blocks bodies) + bytes ≤ MOST_JOURNAL

-- The crash images of a start: what was possible before, or, of a file of at most one byte, another one.
abbrev pub StartLeavesFile : (List ℕ → Type 0) → List ℕ → List ℕ → Type 0
StartLeavesFile before file image = before image ⊎ ((length file ≤ 1) × (length image ≤ 1))
