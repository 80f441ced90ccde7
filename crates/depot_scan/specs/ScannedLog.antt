-- What reading a log, and the body at its beginning, answers.
use Rattle.std.specs.Prelude.{◌≡◌, ℕ, ◌+◌, List, ◌++◌, length, Result, Ok, Err, ◌⊎◌}
use Rattle.std.specs.Borrow.{Bor}
use Rattle.std.specs.Int.{w32}
use Rattle.depot_base.specs.Cursor.{numeral}
use Rattle.depot_base.specs.declared.update.Update.{Update}
use Rattle.depot_base.specs.declared.fault.DecodeError.{DecodeError}
use Rattle.depot_base.specs.declared.fault.DecodeError.TheVariants as errors
use Rattle.depot_base.specs.declared.fault.Fault.{Fault}
use Rattle.depot_base.specs.declared.fault.Fault.TheVariants.{Memory, At}
use Rattle.depot_model.specs.texts.Texts.{text_of_update}
use Rattle.depot_model.specs.texts.Log.{IsLog, GoesWrong, IsLogFault}
use Rattle.depot_scan.specs.declared.body.Body.{Body}

-- the fault of a body at this offset of a log, counted from the start of the log
abbrev pub fault_of : ℕ → DecodeError → Fault
fault_of start errors.Memory = Memory
fault_of start (errors.IllFormed offset) = At (start + offset)

-- What reading the body at the beginning of some bytes, which are at an offset, answers: the body after its length,
-- with the remaining bytes; or the offset of the first fault.
abbrev pub ReadsFront : List ℕ → ℕ → Result (Body × Bor (List ℕ)) Fault → Type 0
ReadsFront bytes at (Ok (body, rest)) = bytes ≡ numeral w32 (length (text_of_update body.update)) ++ (text_of_update body.update ++ rest.now)
ReadsFront bytes at (Err Memory) = Unit {0}
ReadsFront bytes at (Err (At offset)) = (later : ℕ) × ((offset ≡ at + later) × GoesWrong bytes later)

-- What reading a log answers. `Memory` may replace each answer.
pub record ReadsLog (log : List ℕ) (result : Result (List Update) Fault) : Type 0 where
  -- the updates of the log are returned, and any that are returned are those of the log
  pub found : (us : List Update) → result ≡ Ok us → IsLog log us
  pub only : (us : List Update) → IsLog log us → (result ≡ Err Memory) ⊎ (result ≡ Ok us)
  -- the offset is that of the first fault, and a fault is reported
  pub faulty : (at : ℕ) → result ≡ Err (At at) → IsLogFault log at
  pub first : (at : ℕ) → IsLogFault log at → (result ≡ Err Memory) ⊎ (result ≡ Err (At at))
