-- The decision on a statement or a proof that a reader is given, and what its journal grows by.
use Rattle.std.specs.Prelude.{◌≡◌, ℕ, List, Option, None, Result, Ok, Err}
use Rattle.depot_base.specs.declared.check.Check.{Check}
use Rattle.depot_base.specs.declared.record.Record.{Record}
use Rattle.depot_model.specs.declared.taken.Taken.{Taken}
use Rattle.depot_model.specs.checks.Checks.{Given, given_statement, given_proof, given_value, growth}
use Rattle.depot_model.specs.journals.Journal.{accepted}
use Rattle.depot_model.specs.readers.Readers.{Reader, with_more}
use Rattle.depot_model.specs.checks.Room.{full_by}
use Rattle.depot_model.specs.texts.Roster.{Verifies}
use Rattle.depot_laws.specs.Given.{HasText}
use Rattle.depot_readings.specs.LeavesWith.{leaves_with}
use Rattle.depot_decide.specs.Deciding.{IsDecided}
use Rattle.depot_trim.specs.ReaderView.{IsReaderOf}
use Rattle.depot_trim.specs.declared.trim_error.TrimTake.{TrimTake}
use Rattle.depot_trim.specs.declared.trim_error.TrimTake.TheVariants as failed
use Rattle.depot_trim.specs.declared.trimmed.Trimmed.{Trimmed}

-- it is a statement or a proof
abbrev pub IsSaid : Given → Type 0
IsSaid (given_statement s) = Unit {0}
IsSaid (given_proof p) = Unit {0}
IsSaid (given_value v) = ⊥

-- What a node with the reader's whole journal answers to a statement or a proof, and what it appends.
pub record IsDecidedOf (R : Reader) (x : Given) (answer : Result Taken Check) (new : List Record) : Type 0 where
  pub said : IsSaid x
  pub text : HasText x
  pub decided : IsDecided R.here R.journal x answer new

-- the answer of a decision as a reader gives it
abbrev pub as_told : Result Taken Check → Result Taken TrimTake
as_told (Ok taken) = Ok taken
as_told (Err c) = Err (failed.Refused c)

-- The reader's journal may grow by these records: a node with the whole journal appends them for a statement or a
-- proof, and there is room for them.
pub record MayTake (R : Reader) (new : List Record) : Type 0 where
  pub given : Given
  pub said : IsSaid given
  pub text : HasText given
  pub grows : growth R.here R.journal given ≡ new
  pub room : full_by R.here.me R.journal new ≡ None

-- For every reader with this state: where the journal may grow by these records, and then has so many leaves of other
-- writers, this is the reader of the longer journal.
abbrev pub GrowsBy : {S : Type 0} → Verifies → List Record → Option ℕ → Trimmed S → Trimmed S → Type 0
GrowsBy verifies new leaves_then old now = (R : Reader) → IsReaderOf verifies R old → MayTake R new
    → leaves_then ≡ leaves_with (accepted R.journal) old.counts.leaves new → IsReaderOf verifies (with_more R new) now
