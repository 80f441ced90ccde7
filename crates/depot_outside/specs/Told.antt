-- What contracts see of a shelf, a disk and a sink before and after a run.
use Rattle.std.specs.Prelude.{◌≡◌, ◌<◌, ◌⊎◌, ℕ, List, [], ◌∷◌, ◌++◌, take, Bool, IsTrue, Option, Some, None}
use Rattle.depot_base.specs.Calls.{Made}
use Rattle.depot_base.specs.Disk.{Elapses}
use Rattle.depot_outside.specs.declared.disk.Disk as disk_of
use Rattle.depot_outside.specs.declared.shelf.Shelf as shelf_of
use Rattle.depot_outside.specs.declared.sink.Sink as sink_of

-- ---- the shelf

-- its files where they are visible, the names on which it failed, and its count of faults
pub record Shelves : Type 0 where
  pub tells : Bool
  pub file : List ℕ → Option (List ℕ)
  pub file_after : List ℕ → Option (List ℕ)
  pub failed_before : List (List ℕ)
  pub failed_after : List (List ℕ)
  pub faults_before : ℕ
  pub faults_after : ℕ

abbrev pub shelves : {F : Type 0} → shelf_of.Ghosts F → F → F → Shelves
shelves g old new = record {
  tells = g.tells old;
  file = g.file old;
  file_after = g.file new;
  failed_before = g.failed old;
  failed_after = g.failed new;
  faults_before = g.faults old;
  faults_after = g.faults new;
}

-- The shelf failed in this run, and only on this name.
pub record HasFailedOn (shelf : Shelves) (name : List ℕ) : Type 0 where
  pub rose : shelf.faults_before < shelf.faults_after
  pub only : shelf.failed_after ≡ shelf.failed_before ++ name ∷ []

-- the names that it was asked to load
pub record Loads : Type 0 where
  pub before : List (List ℕ)
  pub after : List (List ℕ)

abbrev pub loads : {F : Type 0} → shelf_of.Ghosts F → F → F → Loads
loads g old new = record { before = g.loads old; after = g.loads new }

-- the run loaded the files of these names, in this order, and no other
abbrev pub HasLoaded : Loads → List (List ℕ) → Type 0
HasLoaded loads names = loads.after ≡ loads.before ++ names

-- the file of the name was there, and of its bytes this holds
pub record HasFile (shelf : Shelves) (name : List ℕ) (P : List ℕ → Type 0) : Type 0 where
  pub bytes : List ℕ
  pub there : shelf.file name ≡ Some bytes
  pub holds : P bytes

-- where the shelf's files are visible
abbrev pub WhereTold : Shelves → Type 0 → Type 0
WhereTold shelf P = IsTrue shelf.tells → P

-- The shelf failed in this run; else the file of the name wasn't there.
abbrev pub LacksFile : Shelves → List ℕ → Type 0
LacksFile shelf name = (shelf.faults_before < shelf.faults_after) ⊎ WhereTold shelf (shelf.file name ≡ None)

-- ---- the disk

-- its file, as it reads where the disk's bytes are visible, the crash images of it, and its count of faults
pub record Disks : Type 1 where
  pub tells : Bool
  pub file : List ℕ
  pub file_after : List ℕ
  pub may_leave : List ℕ → Type 0
  pub may_leave_after : List ℕ → Type 0
  -- the crash images of all moments of the run, and those after it
  pub left_in_run : List ℕ → Type 0
  -- the first and the last moment of the run, and the crash images of all moments since one
  pub moment_before : ℕ
  pub moment_after : ℕ
  pub left_since : ℕ → List ℕ → Type 0
  -- whether these are the calls that the run made on the file
  pub after : List Made → Type 0
  pub faults_before : ℕ
  pub faults_after : ℕ

abbrev pub disks : {D : Type 0} → disk_of.Ghosts D → D → D → Disks
disks g old new = record {
  tells = g.tells old;
  file = g.seen old;
  file_after = g.seen new;
  may_leave = g.may_leave old;
  may_leave_after = g.may_leave new;
  left_in_run = g.left_since new (g.moment old);
  moment_before = g.moment old;
  moment_after = g.moment new;
  left_since = g.left_since new;
  after = λ calls. g.after old calls new;
  faults_before = g.faults old;
  faults_after = g.faults new;
}

-- time passes on a disk, and the crash images of each moment are remembered
abbrev pub TimePasses : {D : Type 0} → disk_of.Ghosts D → D → D → Type 0
TimePasses g old new = Elapses (g.moment old) (g.moment new) (g.left_since old) (g.left_since new) (g.may_leave new)

-- ---- the sink

-- what was written where that is visible, and its count of faults
pub record Sinks : Type 0 where
  pub tells : Bool
  pub before : List ℕ
  pub after : List ℕ
  pub faults_before : ℕ
  pub faults_after : ℕ

abbrev pub sinks : {S : Type 0} → sink_of.Ghosts S → S → S → Sinks
sinks g old new = record { tells = g.tells old; before = g.written old; after = g.written new; faults_before = g.faults old; faults_after = g.faults new }

-- this text was added, where the sink's bytes are visible
abbrev pub Wrote : Sinks → List ℕ → Type 0
Wrote sink text = IsTrue sink.tells → sink.after ≡ sink.before ++ text

-- a prefix of this text was added, where the sink's bytes are visible
abbrev pub WroteFront : Sinks → List ℕ → Type 0
WroteFront sink text = IsTrue sink.tells → (n : ℕ) × (sink.after ≡ sink.before ++ take n text)
