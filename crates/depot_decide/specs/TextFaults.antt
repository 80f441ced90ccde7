-- What is found of texts that are checked one after another.
use Rattle.std.specs.Prelude.{◌≡◌, ℕ, List, [], ◌∷◌, ◌++◌, Option, Some, None, Err}
use Rattle.depot_base.specs.declared.record.Record.{Record}
use Rattle.depot_model.specs.checks.Checks.{Setting}
use Rattle.depot_model.specs.journals.Lawful.{IsAllowed}
use Rattle.depot_model.specs.checks.RecordFaults.{AreTextsOf, HaveFaultAt}
use Rattle.depot_model.specs.texts.Records.{text_of_record}
use Rattle.depot_decide.specs.declared.record_check.ReadError.{ReadError}
use Rattle.depot_decide.specs.ReadRecords.{IsFitAs}
use Rattle.depot_decide.specs.declared.text_checks.PlaceFault.{PlaceFault}

-- after these records comes the record of the text now, which is allowed there
pub record IsTakenFrom (here : Setting) (J : List Record) (text : List ℕ) (after : List Record) : Type 0 where
  pub one : Record
  pub is : text ≡ text_of_record one
  pub allowed : IsAllowed here J one
  pub grown : after ≡ J ++ one ∷ []

-- why a text isn't taken after these records: memory ran out, or this is wrong with it
abbrev pub IsTextFault : Setting → List Record → List ℕ → ReadError → Type 0
IsTextFault here J text e = IsFitAs here J text (Err e)

-- these are the texts of a lawful journal, or there is a first fault
abbrev pub AreCheckedAs : Setting → List (List ℕ) → Option PlaceFault → Type 0
AreCheckedAs here texts None = (J : List Record) × AreTextsOf here J texts
AreCheckedAs here texts (Some p) = HaveFaultAt here texts p.place p.fault
