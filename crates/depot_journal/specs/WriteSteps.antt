-- What an append does, step by step.
use Rattle.std.specs.Prelude.{◌≡◌, ◌≢◌, ◌⊎◌, ◌<◌, ◌≤◌, ℕ, ◌+◌, List, ◌∷◌, ◌++◌, ◌^◌, IsTrue, length, take}
use Rattle.depot_base.specs.Disk.{LeavesOnly, Only}
use Rattle.depot_base.specs.File.{StandsFor, blocks, framed}
use Rattle.depot_journal.specs.Groups.{group_block}
use Rattle.depot_outside.specs.declared.disk.Disk as disk_of

-- These records are in the file up to this offset, where a closed gate is.
abbrev pub StandsTo : List ℕ → List (List ℕ) → ℕ → Type 0
StandsTo file bodies end = (gate : ℕ) × (rest : List ℕ) × (gate ≢ 1) × (file ≡ blocks bodies ++ gate ∷ rest) × (end ≡ length (blocks bodies))

-- the file has the records of a group more, or none of them
abbrev pub IsBeforeOrAfter : List (List ℕ) → List (List ℕ) → List ℕ → Type 0
IsBeforeOrAfter bodies group file = StandsFor file bodies ⊎ StandsFor file (bodies ++ group)

-- Where the disk's bytes are visible and the block is that of a group, its records follow the records up to the gate.
abbrev pub HasAppended : {D : Type 0} → disk_of.Ghosts D → D → D → ℕ → List ℕ → Type 0
HasAppended g old new gate block =
    (bodies group : List (List ℕ)) → IsTrue (g.tells old) → 1 ≤ length group → block ≡ group_block group → StandsTo (g.seen old) bodies gate
    → StandsTo (g.seen new) (bodies ++ group) (gate + length block)

-- Where moreover nothing was unsynced, every crash image of the call has the records up to the gate, and all of the
-- group or none of it.
abbrev pub LeavesBlockOrNot : {D : Type 0} → disk_of.Ghosts D → D → D → ℕ → List ℕ → Type 0
LeavesBlockOrNot g old new gate block =
    (bodies group : List (List ℕ)) → IsTrue (g.tells old) → 1 ≤ length group → block ≡ group_block group → StandsTo (g.seen old) bodies gate
    → Only (g.seen old) (g.may_leave old) → LeavesOnly g.moment g.left_since old new (IsBeforeOrAfter bodies group)

-- Where the disk's bytes are visible and these are the bytes of a group's records, the records follow those up to the
-- gate.
abbrev pub AppendsGroup : {D : Type 0} → disk_of.Ghosts D → D → D → ℕ → List ℕ → Type 0
AppendsGroup g old new gate bytes =
    (bodies group : List (List ℕ)) → IsTrue (g.tells old) → 1 ≤ length group → bytes ≡ blocks group → StandsTo (g.seen old) bodies gate
    → StandsTo (g.seen new) (bodies ++ group) (gate + length bytes)

-- Where moreover nothing was unsynced, every crash image of the call has the records up to the gate, and all of the
-- group or none of it.
abbrev pub LeavesGroupOrNot : {D : Type 0} → disk_of.Ghosts D → D → D → ℕ → List ℕ → Type 0
LeavesGroupOrNot g old new gate bytes =
    (bodies group : List (List ℕ)) → IsTrue (g.tells old) → 1 ≤ length group → bytes ≡ blocks group → StandsTo (g.seen old) bodies gate
    → Only (g.seen old) (g.may_leave old) → LeavesOnly g.moment g.left_since old new (IsBeforeOrAfter bodies group)

-- the file has these records and some first ones of the new
pub record StandsBetween (bodies new : List (List ℕ)) (file : List ℕ) : Type 0 where
  pub count : ℕ
  pub stands : StandsFor file (bodies ++ take count new)

-- Of the new records those before the failing one were kept, and a crash image now has these, or these and the failing
-- one.
pub record FailsAt (bodies new kept : List (List ℕ)) (told : Type 0) (images : List ℕ → Type 0) : Type 0 where
  pub count : ℕ
  pub fewer : count < length new
  pub front : kept ≡ bodies ++ take count new
  pub stable : told → (image : List ℕ) → images image → StandsFor image kept ⊎ StandsFor image (bodies ++ take (count + 1) new)

-- No whole record follows an open gate here.
abbrev pub HoldsNoRecord : List ℕ → Type 0
HoldsNoRecord rest = (body : List ℕ) (gate : ℕ) (more : List ℕ) → length body < 2 ^ 32 → rest ≡ 1 ∷ (framed body ++ gate ∷ more) → ⊥
