-- What a call does to a journal on a disk, whatever keeps that: a node, or a store.
use Rattle.std.specs.Prelude.{◌≡◌, ◌↔◌, ◌⊎◌, ℕ, List, [], ◌++◌, Bool, true, false, IsTrue}
use Rattle.depot_base.specs.Calls.{Made, made, FailsAmong}
use Rattle.depot_base.specs.Disk.{LeavesOnly}
use Rattle.depot_base.specs.Faults.{HasCause}
use Rattle.depot_base.specs.declared.record.Record.{Record}
use Rattle.depot_model.specs.journals.Stops.{HasFront, LeavesAll, calls_to_record}

-- What contracts see of what keeps a journal on a disk: of a node, of a store.
pub record JournalView (N : Type 0) : Type 1 where
  -- its records, and whether it is stopped
  pub records : N → List Record
  pub stopped : N → Bool
  -- which disk it is, how often that has failed, and that it never fails from now on
  pub handle : N → ℕ
  pub faults : N → ℕ
  pub is_faultless : N → Type 0
  -- whether the disk's bytes are visible, the crash images now, this moment, and the crash images since a moment
  pub tells : N → Bool
  pub may_leave : N → List ℕ → Type 0
  pub moment : N → ℕ
  pub left_since : N → ℕ → List ℕ → Type 0
  -- the file as it reads, and what became of it by these calls on the disk, and by no other
  pub reads : N → List ℕ
  pub after : N → List Made → N → Type 0

-- the journal of a part, as that of the whole
abbrev pub journal_within : {N M : Type 0} → (N → M) → JournalView M → JournalView N
journal_within part v = record {
  records = λ n. v.records (part n);
  stopped = λ n. v.stopped (part n);
  handle = λ n. v.handle (part n);
  faults = λ n. v.faults (part n);
  is_faultless = λ n. v.is_faultless (part n);
  tells = λ n. v.tells (part n);
  may_leave = λ n file. v.may_leave (part n) file;
  moment = λ n. v.moment (part n);
  left_since = λ n t file. v.left_since (part n) t file;
  reads = λ n. v.reads (part n);
  after = λ n calls m. v.after (part n) calls (part m);
}

-- where its disk's bytes are visible, each crash image now has all its records
abbrev pub IsStable : {N : Type 0} → JournalView N → N → Type 0
IsStable v n = IsTrue (v.tells n) → LeavesAll (v.records n) (v.stopped n) (v.may_leave n)

-- in the meantime nothing was done to the disk: no moment came, and no crash image
pub record IsUntouched {N : Type 0} (v : JournalView N) (old new : N) : Type 0 where
  pub same_moment : v.moment new ≡ v.moment old
  pub no_more : (t : ℕ) (file : List ℕ) → v.left_since new t file → v.left_since old t file

-- The crash images of a journal in a call that appends these records, and after it.
pub record Lasts {N : Type 0} (v : JournalView N) (old new : N) (appends : List Record) : Type 0 where
  -- its disk's bytes are visible as before
  pub told : v.tells new ≡ v.tells old
  -- at every moment of a call where it isn't stopped: the records from before, and then a prefix of those that the call
  -- appends
  pub any_moment : IsTrue (v.tells old) → v.stopped old ≡ false → LeavesOnly v.moment v.left_since old new (HasFront (v.records old) appends)
  -- afterwards: all its records
  pub stable : IsStable v new
  -- where it is stopped, the disk isn't accessed
  pub untouched : v.stopped old ≡ true → IsUntouched v old new

-- What a call, which appends these records to a journal, does on its disk.
pub record CallsDisk {N : Type 0} (v : JournalView N) (old new : N) (appends : List Record) (failed : Type 0) : Type 0 where
  -- unless the disk failed, it made the calls that append what the journal grew by, and no other
  pub whole : (failed → ⊥) → (grown : List Record) → v.records new ≡ v.records old ++ grown → v.after old (made (calls_to_record (v.records old) grown)) new
  -- where it failed, it made those that append these records, up to the one that failed
  pub part : failed → FailsAmong v.after old new (calls_to_record (v.records old) appends)
  -- where it is stopped, the file stays as it reads
  pub still : v.stopped old ≡ true → v.reads new ≡ v.reads old

-- A call answers that it was stopped exactly where it was before it, and leaves it stopped exactly where it was or where the disk
-- failed in the call.
pub record StopsBy (before now : Bool) (stopped failed : Type 0) : Type 0 where
  pub answered : stopped ↔ (before ≡ true)
  pub left : (now ≡ true) ↔ ((before ≡ true) ⊎ failed)

-- The call used its own disk and no other, and answered that it failed exactly where its count of faults rose. A disk
-- that never fails by itself stays one.
pub record KeepsDisk {N : Type 0} (v : JournalView N) (old new : N) (failed : Type 0) : Type 0 where
  pub same : v.handle new ≡ v.handle old
  pub cause : HasCause (v.faults old) (v.faults new) failed
  pub calm : v.is_faultless old → v.is_faultless new × (v.faults new ≡ v.faults old)

-- What a call that is asked to append these records does to a journal on a disk, and its crash images. Which of its
-- answers say that it was stopped, that the disk failed, and that nothing was appended, is a parameter.
pub record IsJournalCall {N : Type 0} (v : JournalView N) (old new : N) (appends : List Record) (stopped failed nothing : Type 0) : Type 0 where
  pub stops : StopsBy (v.stopped old) (v.stopped new) stopped failed
  pub disk : KeepsDisk v old new failed
  pub lasts : Lasts v old new appends
  pub calls : CallsDisk v old new appends failed
  -- where a call answers that it appended nothing, no crash image has any of these records
  pub idle : nothing → Lasts v old new []
