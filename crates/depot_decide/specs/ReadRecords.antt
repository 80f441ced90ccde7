-- What is found of a record that is read.
use Rattle.std.specs.Prelude.{◌≡◌, ℕ, ◌<◌, List, [], ◌∷◌, length, Option, Some, None, Result, Ok, Err}
use Rattle.depot_base.specs.declared.check.Check.{Check}
use Rattle.depot_base.specs.declared.limits.TheConstants.{MOST_ENTRIES}
use Rattle.depot_base.specs.declared.record.Record.{Record}
use Rattle.depot_base.specs.declared.update.Update.{Update}
use Rattle.depot_model.specs.declared.record_fault.RecordFault.{RecordFault}
use Rattle.depot_model.specs.declared.record_fault.RecordFault.TheVariants as fault
use Rattle.depot_model.specs.declared.taken.Taken.{Taken}
use Rattle.depot_model.specs.declared.taken.Taken.TheVariants.{New, Known}
use Rattle.depot_model.specs.checks.Checks.{Setting}
use Rattle.depot_model.specs.journals.Lawful.{MayFollow, IsAllowed}
use Rattle.depot_model.specs.checks.RecordFaults.{IsAtPlace, IsFault, IsFaultOf}
use Rattle.depot_model.specs.texts.Records.{IsRecord, text_of_record}
use Rattle.depot_decide.specs.declared.record_check.Fit.{Fit}
use Rattle.depot_decide.specs.declared.record_check.ReadError.{ReadError}
use Rattle.depot_decide.specs.declared.record_check.ReadError.TheVariants as refused

-- these are the record, which may follow but for the room
pub record IsGoodRecord (here : Setting) (J : List Record) (r : Record) (new : List Record) : Type 0 where
  pub alone : new ≡ r ∷ []
  pub may : MayFollow here J r

-- what is found of a record that is at its place: it may follow, or this is wrong with it; Memory may come in place of
-- each answer
abbrev pub IsRecordChecked : Setting → List Record → Record → Result Fit ReadError → Type 0
IsRecordChecked here J r (Ok fit) = IsGoodRecord here J r fit.growth
IsRecordChecked here J r (Err refused.Memory) = Unit {0}
IsRecordChecked here J r (Err (refused.Fault f)) = IsFaultOf here J r f

-- these are the record of a text, which is allowed but for the room
pub record IsFitFrom (here : Setting) (J : List Record) (text : List ℕ) (new : List Record) : Type 0 where
  pub one : Record
  pub alone : new ≡ one ∷ []
  pub fits : IsRecord one
  pub is : text ≡ text_of_record one
  pub place : IsAtPlace J one
  pub may : MayFollow here J one

-- what is found of a text but for the room: the record that it is, or what is wrong with it; Memory may come in place
-- of each answer
abbrev pub IsFitAs : Setting → List Record → List ℕ → Result Fit ReadError → Type 0
IsFitAs here J text (Ok fit) = IsFitFrom here J text fit.growth
IsFitAs here J text (Err refused.Memory) = Unit {0}
IsFitAs here J text (Err (refused.Fault f)) = IsFault here J text f

-- these are the record of a text, which is allowed
pub record IsReadFrom (here : Setting) (J : List Record) (text : List ℕ) (new : List Record) : Type 0 where
  pub one : Record
  pub alone : new ≡ one ∷ []
  pub is : text ≡ text_of_record one
  pub allowed : IsAllowed here J one

-- what is found of a text: the record that it is, or what is wrong with it; Memory may come in place of each answer
abbrev pub IsReadAs : Setting → List Record → List ℕ → Result Fit ReadError → Type 0
IsReadAs here J text (Ok fit) = IsReadFrom here J text fit.growth
IsReadAs here J text (Err refused.Memory) = Unit {0}
IsReadAs here J text (Err (refused.Fault f)) = IsFault here J text f

-- what is wrong with a record that is known, or that a check refuses; nothing with a new one
abbrev pub record_fault_of : Result Taken Check → Option RecordFault
record_fault_of (Ok New) = None
record_fault_of (Ok Known) = Some fault.Idle
record_fault_of (Err c) = Some (fault.Refused c)

-- what was decided is new, and the journal grows by it; or it is known, or a check refuses it
abbrev pub TakesNew : Result Taken Check → List Record → Result Fit ReadError → Type 0
TakesNew answer decided (Ok fit) = (answer ≡ Ok New) × (fit.growth ≡ decided)
TakesNew answer decided (Err (refused.Fault fault.Idle)) = answer ≡ Ok Known
TakesNew answer decided (Err (refused.Fault (fault.Refused c))) = answer ≡ Err c
TakesNew answer decided (Err e) = ⊥

-- a refusal of an update while it is made: it has more than 1,024 entries, or memory ran out
abbrev pub HasManyEntries : Update → ReadError → Type 0
HasManyEntries u refused.Memory = Unit {0}
HasManyEntries u (refused.Fault fault.NotNext) = MOST_ENTRIES < length u.deps
HasManyEntries u e = ⊥
