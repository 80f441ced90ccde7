-- The records of a journal in memory: the bytes of their blocks, as they are in the file, and where each body is in
-- them.
use Rattle.std.specs.Prelude.{◌≡◌, ◌≤◌, ℕ, ◌+◌, ◌*◌, List, [], ◌∷◌, IsTrue, length, map, slice_range, vec_capacity, vec_len}
use Rattle.depot_base.specs.Disk.{Only}
use Rattle.depot_base.specs.File.{blocks}
use Rattle.depot_journal.specs.DiskCalls.{SpendsRoom}
use Rattle.depot_outside.specs.declared.disk.Disk as disk_of
use Rattle.depot_journal.specs.WriteSteps.{StandsTo}
use Rattle.depot_journal.specs.declared.mirror.Mirror.{Mirror}
use Rattle.depot_journal.specs.declared.span.Span.{Span}

-- the bytes of a span
abbrev pub cut : List ℕ → Span → List ℕ
cut bytes s = slice_range bytes s.start s.end

-- the bodies at the spans
abbrev pub bodies_at : List ℕ → List Span → List (List ℕ)
bodies_at bytes spans = map (cut bytes) spans

-- the records of a mirror
abbrev pub mirror_records : {D : Type 0} → Mirror D → List (List ℕ)
mirror_records mirror = bodies_at mirror.bytes.items mirror.spans.items

-- the spans end within this many bytes
abbrev pub EndWithin : ℕ → List Span → Type 0
EndWithin long [] = Unit {0}
EndWithin long (s ∷ spans) = (s.start ≤ s.end) × (s.end ≤ long) × EndWithin long spans

-- the bytes are the blocks of the bodies at the spans
pub record IsMirror (bytes : List ℕ) (spans : List Span) : Type 0 where
  pub parts : bytes ≡ blocks (bodies_at bytes spans)
  pub within : EndWithin (length bytes) spans

-- Where the disk's bytes are visible, its file has the records of the mirror up to a closed gate, and it is the only
-- crash image.
pub record StandsOnDisk {D : Type 0} (g : disk_of.Ghosts D) (mirror : Mirror D) : Type 0 where
  pub stands : IsTrue (g.tells mirror.disk) → StandsTo (g.seen mirror.disk) (mirror_records mirror) (vec_len mirror.bytes)
  pub stable : IsTrue (g.tells mirror.disk) → Only (g.seen mirror.disk) (g.may_leave mirror.disk)

-- Memory is reserved for this many records more, whose blocks take this many bytes: in the list of spans, in the bytes
-- of the blocks, and on the disk for bytes and calls. Of each record a closed gate is written, too.
pub record HasSpaceFor {D : Type 0} (g : disk_of.Ghosts D) (mirror : Mirror D) (records bytes : ℕ) : Type 0 where
  pub spans_fit : vec_len mirror.spans + records ≤ vec_capacity mirror.spans
  pub blocks_fit : vec_len mirror.bytes + (bytes + records) ≤ vec_capacity mirror.bytes
  pub written_fit : bytes + records ≤ g.room_bytes mirror.disk
  pub calls_fit : 4 * records ≤ g.room_calls mirror.disk

-- Of that memory no more was taken than for this many records, whose blocks take this many bytes.
pub record TakesSpace {D : Type 0} (g : disk_of.Ghosts D) (old new : Mirror D) (records bytes : ℕ) : Type 0 where
  pub count : vec_len new.spans ≤ vec_len old.spans + records
  pub long : vec_len new.bytes ≤ vec_len old.bytes + bytes
  pub spans_left : vec_capacity old.spans ≤ vec_capacity new.spans
  pub bytes_left : vec_capacity old.bytes ≤ vec_capacity new.bytes
  pub disk : SpendsRoom g old.disk new.disk (bytes + records) (4 * records)
