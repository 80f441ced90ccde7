-- What a node answers to a text that it is given, and what its journal is then.
use Rattle.std.specs.Prelude.{◌≡◌, ℕ, List, [], ◌++◌, Option, Some, None, Result, Ok, Err}
use Rattle.depot_base.specs.Cursor.{Cursor}
use Rattle.depot_base.specs.Format.{◌>>=◌, whole}
use Rattle.depot_base.specs.Closed.{Closed, closing, rest_of}
use Rattle.depot_base.specs.declared.limits.TheConstants.{MOST_VALUE}
use Rattle.depot_base.specs.declared.record.Record.{Record}
use Rattle.depot_base.specs.declared.check.Check.{Check}
use Rattle.depot_base.specs.declared.check.Check.TheVariants as check
use Rattle.depot_base.specs.declared.check.Full.{Full}
use Rattle.depot_model.specs.declared.taken.Taken.{Taken}
use Rattle.depot_model.specs.declared.taken.TakeError.{TakeError}
use Rattle.depot_model.specs.declared.taken.TakeError.TheVariants as refused
use Rattle.depot_model.specs.texts.Texts.{signed, proof}
use Rattle.depot_model.specs.checks.Checks.{Setting, Given, given_statement, given_proof, given_value, answer_to, growth}
use Rattle.depot_model.specs.checks.Room.{full_by}
use Rattle.depot_model.specs.checks.Limits.{IsCutShort}

-- ---- the answer to a text, as a function

-- what a text is given as
pub data Form : Type 0 where
  as_statement : Form
  as_proof : Form
  as_value : Form

-- a reader at the start of a text
abbrev pub at_start : List ℕ → Cursor
at_start text = record { at = 0; rest = text }

-- what a text of a form gives a node, or where it goes wrong
unfoldable pub given_as : Form → List ℕ → Result Given ℕ
given_as as_statement text = whole signed (at_start text) >>= λ s. Ok (given_statement s)
given_as as_proof text = whole proof (at_start text) >>= λ p. Ok (given_proof p)
given_as as_value text = (rest_of MOST_VALUE).read (at_start text) >>= λ v. Ok (given_value v)

-- what becomes of something that is given: there is no room for what would be appended, or it is answered and the journal grows
pub data Outcome : Type 0 where
  no_room : Full → Outcome
  answered : Result Taken Check → List Record → Outcome

-- where no limit is met, the answer and what is appended
abbrev pub outcome_within : Option Full → Result Taken Check → List Record → Outcome
outcome_within (Some full) answer new = no_room full
outcome_within None answer new = answered answer new

-- a text that goes wrong is refused at its offset, and nothing is appended; else the room for the growth is looked at first
abbrev pub outcome_of : Setting → List Record → Result Given ℕ → Outcome
outcome_of here J (Err at) = answered (Err (check.IllFormed at)) []
outcome_of here J (Ok x) = outcome_within (full_by here.me J (growth here J x)) (answer_to here J x) (growth here J x)

-- the answer of an outcome, and what it appends
abbrev pub answer_of : Outcome → Result Taken TakeError
answer_of (no_room full) = Err (refused.Full full)
answer_of (answered (Ok taken) new) = Ok taken
answer_of (answered (Err c) new) = Err (refused.Refused c)

abbrev pub appended_by : Outcome → List Record
appended_by (no_room full) = []
appended_by (answered answer new) = new

-- the answer to a text that is given as a form
unfoldable pub answer_to_text : Setting → List Record → Form → List ℕ → Result Taken TakeError
answer_to_text here J form text = answer_of (outcome_of here J (given_as form text))

-- what the journal grows by
unfoldable pub growth_of_text : Setting → List Record → Form → List ℕ → List Record
growth_of_text here J form text = appended_by (outcome_of here J (given_as form text))

-- ---- the answer of a call, as a relation

-- what is given has this text, the answer to it is this one, there is room for its growth, and the journal has grown by it
pub record IsAnswered (here : Setting) (J : List Record) (x : Given) (answer : Result Taken Check) (then : List Record) : Type 0 where
  pub is : answer_to here J x ≡ answer
  pub room : full_by here.me J (growth here J x) ≡ None
  pub grown : then ≡ J ++ growth here J x

-- there is no room for the growth for what is given, and nothing is appended
pub record IsFull (here : Setting) (J : List Record) (x : Given) (full : Full) (then : List Record) : Type 0 where
  pub is : full_by here.me J (growth here J x) ≡ Some full
  pub same : then ≡ J

-- there is room for the growth for what is given, and the disk cut it short
pub record IsCutByDisk (here : Setting) (J : List Record) (x : Given) (then : List Record) : Type 0 where
  pub room : full_by here.me J (growth here J x) ≡ None
  pub cut : IsCutShort J (growth here J x) then

-- the text is that of a value that is given, of which this holds
abbrev pub OfGiven : {V : Type 0} → Closed V → (V → Given) → List ℕ → (Given → Type 0) → Type 0
OfGiven {V} f give text P = (v : V) × (f.fits v × ((text ≡ f.text v) × P (give v)))

-- The answer to a text of a form, and the journal after it. A text of another form is refused as ill-formed at its
-- first fault. Memory may come in place of each answer, and then nothing is appended; nor is it by a stopped node.
-- Where the disk fails, the records before the failing one were appended.
abbrev pub Takes : {V : Type 0} → Closed V → (V → Given) → Setting → List Record → List ℕ → Result Taken TakeError → List Record → Type 0
Takes f give here J text (Ok taken) then = OfGiven f give text (λ x. IsAnswered here J x (Ok taken) then)
Takes f give here J text (Err refused.Memory) then = then ≡ J
Takes f give here J text (Err refused.Disk) then = OfGiven f give text (λ x. IsCutByDisk here J x then)
Takes f give here J text (Err refused.Stopped) then = then ≡ J
Takes f give here J text (Err (refused.Full full)) then = OfGiven f give text (λ x. IsFull here J x full then)
Takes f give here J text (Err (refused.Refused (check.IllFormed at))) then = f.fault text at × (then ≡ J)
Takes f give here J text (Err (refused.Refused c)) then = OfGiven f give text (λ x. IsAnswered here J x (Err c) then)

-- a text that is given as a statement, as a proof, as a value
abbrev pub TakesStatement : Setting → List Record → List ℕ → Result Taken TakeError → List Record → Type 0
TakesStatement = Takes (closing signed) (λ s. given_statement s)

abbrev pub TakesProof : Setting → List Record → List ℕ → Result Taken TakeError → List Record → Type 0
TakesProof = Takes (closing proof) (λ p. given_proof p)

abbrev pub TakesValue : Setting → List Record → List ℕ → Result Taken TakeError → List Record → Type 0
TakesValue = Takes (rest_of MOST_VALUE) (λ v. given_value v)

-- a text of a form that is given
abbrev pub TakesAs : Form → Setting → List Record → List ℕ → Result Taken TakeError → List Record → Type 0
TakesAs as_statement = TakesStatement
TakesAs as_proof = TakesProof
TakesAs as_value = TakesValue

-- The answer isn't one that lack of memory or the disk gave in place of another.
abbrev pub IsUndisturbed : Result Taken TakeError → Type 0
IsUndisturbed (Err refused.Memory) = ⊥
IsUndisturbed (Err refused.Disk) = ⊥
IsUndisturbed (Err refused.Stopped) = ⊥
IsUndisturbed other = Unit {0}

-- Texts of a form have one answer: unless memory runs out or the disk fails, the functions give the answer and the
-- journal after it.
abbrev pub HaveOneAnswer : Form → Type 0
HaveOneAnswer form = (here : Setting) (J : List Record) (text : List ℕ) (result : Result Taken TakeError) (then : List Record)
    → TakesAs form here J text result then → IsUndisturbed result
    → (result ≡ answer_to_text here J form text) × (then ≡ J ++ growth_of_text here J form text)
