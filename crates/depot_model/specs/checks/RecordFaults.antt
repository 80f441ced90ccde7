-- What is wrong with a record after those of a lawful journal.
use Rattle.std.specs.Prelude.{◌≡◌, ◌≢◌, ℕ, List, [], ◌∷◌, ◌++◌, length, map, Option, Some, None, Ok, Err}
use Rattle.depot_base.specs.declared.record.Record.{Record}
use Rattle.depot_base.specs.declared.record.Record.TheVariants.{Birth, OwnPut, OwnVoucher, Foreign, Conviction, Held}
use Rattle.depot_model.specs.declared.record_fault.RecordFault.{RecordFault}
use Rattle.depot_model.specs.declared.record_fault.RecordFault.TheVariants as fault
use Rattle.depot_model.specs.declared.taken.Taken.TheVariants.{New, Known}
use Rattle.depot_model.specs.checks.Checks.{Setting, Given, given_statement, given_proof, given_value, answer_to, growth}
use Rattle.depot_model.specs.journals.Lawful.{IsLawful, MayFollow, MayPut, MayVouch, is_birth, is_empty}
use Rattle.depot_model.specs.texts.Records.{record_text, text_of_record, IsRecord}
use Rattle.depot_model.specs.checks.Room.{HasRoom}

-- what the record took of others, if it did
abbrev pub taken_by_record : Record → Option Given
taken_by_record (Foreign s) = Some (given_statement s)
taken_by_record (Conviction p) = Some (given_proof p)
taken_by_record (Held value) = Some (given_value value)
taken_by_record r = None

-- this holds of what the record took
abbrev pub TookBy : Record → (Given → Type 0) → Type 0
TookBy r P = (x : Given) × ((taken_by_record r ≡ Some x) × P x)

-- a birth comes first, and no other record does
abbrev pub IsAtPlace : List Record → Record → Type 0
IsAtPlace J r = is_birth r ≡ is_empty J

-- a birth that is elsewhere than first, another record that comes first, or a birth of another node or roster
abbrev pub IsWrongBirth : Setting → List Record → Record → Type 0
IsWrongBirth here J (Birth node roster) = IsAtPlace J (Birth node roster) → MayFollow here J (Birth node roster) → ⊥
IsWrongBirth here J r = IsAtPlace J r → ⊥

-- an own update, with its values, that may not be put
abbrev pub IsNotNext : Setting → List Record → Record → Type 0
IsNotNext here J (OwnPut u values) = MayPut here J u values → ⊥
IsNotNext here J r = ⊥

-- an own voucher that may not be made
abbrev pub IsWrongVoucher : Setting → List Record → Record → Type 0
IsWrongVoucher here J (OwnVoucher v) = MayVouch here J v → ⊥
IsWrongVoucher here J r = ⊥

-- an update after which the conviction of its writer comes first in what the journal would grow by
abbrev pub IsProofDue : Setting → List Record → Record → Type 0
IsProofDue here J (Foreign s) = (answer_to here J (given_statement s) ≡ Ok New) × (growth here J (given_statement s) ≢ Foreign s ∷ [])
IsProofDue here J r = ⊥

-- the record may be here but for the room
abbrev pub LacksRoom : Setting → List Record → Record → Type 0
LacksRoom here J r = MayFollow here J r × (HasRoom here.me J (r ∷ []) → ⊥)

-- what is wrong with a record that has a text
abbrev pub IsFaultOf : Setting → List Record → Record → RecordFault → Type 0
IsFaultOf here J r (fault.Ill at) = ⊥
IsFaultOf here J r fault.Birth = IsWrongBirth here J r
IsFaultOf here J r fault.NotNext = IsAtPlace J r × IsNotNext here J r
IsFaultOf here J r fault.OwnVoucher = IsAtPlace J r × IsWrongVoucher here J r
IsFaultOf here J r (fault.Refused c) = IsAtPlace J r × TookBy r (λ x. answer_to here J x ≡ Err c)
IsFaultOf here J r fault.ProofDue = IsAtPlace J r × IsProofDue here J r
IsFaultOf here J r fault.Idle = IsAtPlace J r × TookBy r (λ x. answer_to here J x ≡ Ok Known)
IsFaultOf here J r fault.NoRoom = IsAtPlace J r × LacksRoom here J r

-- what is wrong with a text after these records
abbrev pub IsFault : Setting → List Record → List ℕ → RecordFault → Type 0
IsFault here J text (fault.Ill at) = record_text.fault text at
IsFault here J text other = (r : Record) × (IsRecord r × ((text ≡ text_of_record r) × IsFaultOf here J r other))

-- ---- the texts of a journal

-- these are the texts of a lawful journal, which may have no records yet
pub record AreTextsOf (here : Setting) (J : List Record) (texts : List (List ℕ)) : Type 0 where
  pub lawful : IsLawful here J
  pub are : texts ≡ map text_of_record J

-- the texts before this place are those of a lawful journal, and the one there has this fault
pub record HaveFaultAt (here : Setting) (texts : List (List ℕ)) (place : ℕ) (what : RecordFault) : Type 0 where
  pub before : List Record
  pub text : List ℕ
  pub after : List (List ℕ)
  pub parts : texts ≡ map text_of_record before ++ text ∷ after
  pub lawful : IsLawful here before
  pub at : place ≡ length before
  pub wrong : IsFault here before text what
