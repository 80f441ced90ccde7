-- The log of a file in memory: what its writes since the last sync replaced.
--
-- The bytes that they replaced are end to end, those of the newest write last.
use Rattle.std.specs.Prelude.{◌≡◌, ◌≤◌, ℕ, ◌+◌, ◌-◌, min, Vec, vec_len, List, [], ◌∷◌, ◌++◌, length, take, drop, map}
use Rattle.std.specs.Vec.{vec_capacity}
use Rattle.std.specs.Coded.{×_prop, le_prop, Coded-set, coded_list, coded_ℕ}
use Rattle.depot_outside.specs.Images.{Written}
use Rattle.depot_outside.specs.StopImages.{Range, blanked}
use Rattle.depot_outside.specs.declared.stops.Image.{Image}
use Rattle.depot_outside.specs.declared.stops.Image.TheVariants as image
use Rattle.depot_outside.specs.declared.undo.Replaced.{Replaced}
use Rattle.depot_outside.specs.declared.undo.UndoLog.{UndoLog}

-- how many more bytes can be written to a file with this log without memory
abbrev pub spare_bytes : {Z : Type 0} → Vec ℕ Z → UndoLog → ℕ
spare_bytes bytes log = min (vec_capacity bytes - vec_len bytes) (vec_capacity log.bytes - vec_len log.bytes)

-- and how many more writes can be made
abbrev pub spare_writes : UndoLog → ℕ
spare_writes log = vec_capacity log.writes - vec_len log.writes

-- the file before a write: what the write replaced is put back, and what it added is cut off
abbrev pub file_before : Replaced → List ℕ → List ℕ → List ℕ
file_before r bytes file = take r.at file ++ drop r.start bytes ++ drop (r.at + length (drop r.start bytes)) (take r.long file)

-- the file before these writes, the newest first
abbrev pub undone : List Replaced → List ℕ → List ℕ → List ℕ
undone [] bytes file = file
undone (r ∷ log) bytes file = undone log (take r.start bytes) (file_before r bytes file)

-- the range that was written, and that of the bytes to put back, are in the file
pub record Fits (r : Replaced) (bytes file : List ℕ) : Type 0 where
  pub start : r.start ≤ length bytes
  pub long : r.long ≤ length file
  pub inside : r.at + (length bytes - r.start) ≤ r.long
  pub reach : r.at + r.count ≤ length file

-- these writes, the newest first, can be taken back
abbrev pub CanUndo : List Replaced → List ℕ → List ℕ → Type 0
CanUndo [] bytes file = Unit {0}
CanUndo (r ∷ log) bytes file = Fits r bytes file × CanUndo log (take r.start bytes) (file_before r bytes file)

-- a write of a moment is this one of the log
pub record IsLogged (w : Written) (r : Replaced) (bytes file : List ℕ) : Type 0 where
  pub fits : Fits r bytes file
  pub at : r.at ≡ w.at
  pub count : r.count ≡ w.count
  pub is_before : file_before r bytes file ≡ w.file

-- the log has the writes of a moment, the newest first
abbrev pub AreLogged : List Written → List Replaced → List ℕ → List ℕ → Type 0
AreLogged [] [] bytes file = Unit {0}
AreLogged [] (r ∷ log) bytes file = ⊥
AreLogged (w ∷ writes) [] bytes file = ⊥
AreLogged (w ∷ writes) (r ∷ log) bytes file = IsLogged w r bytes file × AreLogged writes log (take r.start bytes) w.file

pub AreLogged-prop : (writes : List Written) (log : List Replaced) (bytes file : List ℕ) → IsProp (AreLogged writes log bytes file)
AreLogged-prop [] [] bytes file = hlevel
AreLogged-prop [] (r ∷ log) bytes file = hlevel
AreLogged-prop (w ∷ writes) [] bytes file = hlevel
AreLogged-prop (w ∷ writes) (r ∷ log) bytes file = ×_prop (hlevel (Coded-set (coded_list coded_ℕ), Coded-set coded_ℕ, le_prop)) (AreLogged-prop writes log (take r.start bytes) w.file)

-- the ranges that were written
abbrev pub written : List Replaced → List Range
written = map (λ (r : Replaced). record { at = r.at; count = r.count })

-- they are in a file of this many bytes
abbrev pub AreInside : ℕ → List Range → Type 0
AreInside long [] = Unit {0}
AreInside long (range ∷ ranges) = (range.at + range.count ≤ long) × AreInside long ranges

-- the crash images of a file with this log
abbrev pub file_left : Image → List Replaced → List ℕ → List ℕ → List ℕ
file_left image.Synced log bytes file = undone log bytes file
file_left image.Written log bytes file = file
file_left image.Blanked log bytes file = blanked (written log) file
