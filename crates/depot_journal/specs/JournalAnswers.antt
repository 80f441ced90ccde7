-- What a journal answers.
use Rattle.std.specs.Prelude.{◌≡◌, ◌↔◌, ◌≤◌, ◌+◌, ◌*◌, ℕ, List, [], Bool, true, false, IsTrue, Result, Ok, Err, OnOk, IsErrOf, length}
use Rattle.depot_base.specs.Calls.{FailsAmong, calls_to_append_all, made}
use Rattle.depot_base.specs.Disk.{LeavesOnly, Within}
use Rattle.depot_journal.specs.declared.journal_error.JournalError.{JournalError}
use Rattle.depot_journal.specs.declared.journal_error.JournalError.TheVariants as journal_error
use Rattle.depot_journal.specs.declared.journal_error.AppendError.{AppendError}
use Rattle.depot_journal.specs.declared.journal_error.AppendError.TheVariants as refused
use Rattle.depot_base.specs.File.{FitsFile, IsDamagedAt, IsFileOf, PassesLimit, blocks}
use Rattle.depot_journal.specs.JournalView.{JournalContents}
use Rattle.depot_journal.specs.DiskCalls.{IsDiskCall}
use Rattle.depot_outside.specs.declared.disk.Back.{Back}
use Rattle.depot_outside.specs.declared.disk.Disk as outside_disk

-- Full comes exactly where these records, of this many bytes with their gates and lengths, would pass a limit, and
-- names the first such limit. A stopped journal doesn't check.
abbrev pub KeepsLimits : List (List ℕ) → ℕ → ℕ → Result (Unit {0}) AppendError → Type 0
KeepsLimits bodies records bytes (Ok x) = FitsFile bodies records bytes
KeepsLimits bodies records bytes (Err (refused.Full full)) = PassesLimit bodies records bytes full.what full.number
KeepsLimits bodies records bytes (Err refused.Memory) = FitsFile bodies records bytes
KeepsLimits bodies records bytes (Err refused.Disk) = FitsFile bodies records bytes
KeepsLimits bodies records bytes (Err refused.Stopped) = Unit {0}

-- what holds after each refusal but that of the disk
abbrev pub UnlessDisk : Result (Unit {0}) AppendError → Type 0 → Type 0
UnlessDisk (Ok x) P = Unit {0}
UnlessDisk (Err refused.Disk) P = Unit {0}
UnlessDisk (Err refused.Memory) P = P
UnlessDisk (Err (refused.Full full)) P = P
UnlessDisk (Err refused.Stopped) P = P

-- Where the disk's bytes are visible and the journal ran, each image of each moment since then has this property.
abbrev pub LeavesRunning : {D : Type 0} → (D → Bool) → (D → ℕ) → (D → ℕ → List ℕ → Type 0) → JournalContents D → JournalContents D → (List ℕ → Type 0) → Type 0
LeavesRunning tells moment left_since old new P = IsTrue (tells old.disk) → old.is_stopped ≡ false → LeavesOnly moment left_since old.disk new.disk P

-- The journal is unchanged, and its disk has only aged: the records and the file, the crash images, and the reserved
-- memory.
pub record IsJournalUnchanged {D : Type 0} (tells : D → Bool) (seen : D → List ℕ) (may_leave : D → List ℕ → Type 0) (moment : D → ℕ) (left_since : D → ℕ → List ℕ → Type 0) (old new : JournalContents D) : Type 0 where
  pub records : new.records ≡ old.records
  pub running : new.is_stopped ≡ old.is_stopped
  pub seen_kept : seen new.disk ≡ seen old.disk
  pub images : Within (may_leave old.disk) (may_leave new.disk)
  pub records_kept : old.room_records ≤ new.room_records
  pub bytes_kept : old.room_bytes ≤ new.room_bytes
  -- every crash image of the call has the records
  pub idle : LeavesRunning tells moment left_since old new (λ file. IsFileOf file old.records)

-- The call of the disk, and which calls the journal made on it: those that append these texts, up to the one that
-- fails, or none.
pub record MakesCalls {D : Type 0} (g : outside_disk.Ghosts D) (old new : JournalContents D) (texts : List (List ℕ)) (result : Result (Unit {0}) AppendError) : Type 0 where
  pub disk : IsDiskCall g old.disk new.disk (IsErrOf result refused.Disk)
  pub all : OnOk result (g.after old.disk (made (calls_to_append_all (length (blocks old.records)) texts)) new.disk)
  pub failing : IsErrOf result refused.Disk → FailsAmong g.after old.disk new.disk (calls_to_append_all (length (blocks old.records)) texts)
  pub none : UnlessDisk result (g.after old.disk [] new.disk)

-- What an append makes of a journal that is stopped, or isn't: it answers `Stopped` exactly where that is, and leaves
-- the disk alone; afterwards it is stopped if the disk failed, and runs if all was appended.
pub record StopsByAnswer {D : Type 0} (old new : JournalContents D) (result : Result (Unit {0}) AppendError) : Type 0 where
  pub answered : IsErrOf result refused.Stopped ↔ (old.is_stopped ≡ true)
  pub untouched : old.is_stopped ≡ true → new.disk ≡ old.disk
  pub failed : IsErrOf result refused.Disk → new.is_stopped ≡ true
  pub runs : OnOk result (new.is_stopped ≡ false)

-- Of the reserved memory no more was taken than for these texts.
pub record HasRoomLeft {D : Type 0} (old new : JournalContents D) (texts : List (List ℕ)) : Type 0 where
  pub records : old.room_records ≤ new.room_records + length texts
  pub bytes : old.room_bytes + 5 * length texts ≤ new.room_bytes + length (blocks texts)

-- the disk as a start leaves it, in the journal or given back
abbrev pub disk_of : {D : Type 0} → Result (JournalContents D) (Back JournalError D) → D
disk_of (Ok journal) = journal.disk
disk_of (Err back) = back.disk

-- the disk failed in the start
abbrev pub IsDiskFailure : {D : Type 0} → Result (JournalContents D) (Back JournalError D) → Type 0
IsDiskFailure (Ok journal) = ⊥
IsDiskFailure (Err back) = back.error ≡ journal_error.Disk

-- Where the answer is Damaged, the file is, at the offset that it carries.
abbrev pub IsDamage : List ℕ → JournalError → Type 0
IsDamage file journal_error.Memory = Unit {0}
IsDamage file journal_error.Disk = Unit {0}
IsDamage file (journal_error.Damaged at) = IsDamagedAt file at

-- the answer is Damaged
abbrev pub SaysDamaged : JournalError → Type 0
SaysDamaged journal_error.Memory = ⊥
SaysDamaged journal_error.Disk = ⊥
SaysDamaged (journal_error.Damaged at) = Unit {0}
