-- What a node answers to the payload of a frame is what the feed says of that frame.
use Rattle.std.proofs.Common.{◌≡◌, ℕ, List, [], ◌++◌, Option, Some, None, Result, Ok, Err, refl, sym, ap, ◌∙◌, arith}
use Rattle.std.proofs.lemmas.List.{append-nil}
use Rattle.depot_base.specs.Format.{◌>>=◌}
use Rattle.depot_base.specs.Closed.{Closed, closing, rest_of}
use Rattle.depot_base.proofs.ClosedLaws.{LawfulClosed, closing_lawful, rest_lawful}
use Rattle.depot_base.specs.declared.check.Check.{Check}
use Rattle.depot_base.specs.declared.check.Check.TheVariants as check
use Rattle.depot_base.specs.declared.check.Full.{Full}
use Rattle.depot_base.specs.declared.record.Record.{Record}
use Rattle.depot_model.specs.declared.taken.Taken.{Taken}
use Rattle.depot_model.specs.declared.taken.TakeError.{TakeError}
use Rattle.depot_model.specs.declared.taken.TakeError.TheVariants as refused
use Rattle.depot_model.specs.texts.Texts.{signed, proof}
use Rattle.depot_model.specs.checks.Checks.{Setting, Given, given_statement, given_proof, given_value, answer_to, growth}
use Rattle.depot_model.specs.checks.Room.{full_by}
use Rattle.depot_model.specs.checks.Limits.{IsCutShort}
use Rattle.depot_base.specs.declared.limits.TheConstants.{MOST_VALUE}
use Rattle.depot_model.specs.checks.Taking.{Form, as_statement, as_proof, as_value, TakesAs, IsUndisturbed, answer_of, appended_by, answer_to_text, growth_of_text, Takes, TakesStatement, TakesProof, TakesValue, Outcome, no_room, answered, outcome_within, outcome_of, at_start, given_as}
use Rattle.depot_model.specs.exchange.Feeding.{given_by, take_frame}
use Rattle.depot_model.proofs.of_texts.TextLaws.{signed_lawful, proof_lawful}

-- the answer is that of the outcome, and the journal has grown by what it says
pub record IsTold (o : Outcome) (J : List Record) (answer : Result Taken Check) (then : List Record) : Type 0 where
  pub new : List Record
  pub is : o ≡ answered answer new
  pub grown : then ≡ J ++ new

-- the outcome is an answer, and the disk cut its records short
pub record IsBrokenOff (o : Outcome) (J then : List Record) : Type 0 where
  pub answer : Result Taken Check
  pub new : List Record
  pub is : o ≡ answered answer new
  pub cut : IsCutShort J new then

-- what a node answers where this is the outcome
abbrev pub Tells : Outcome → List Record → Result Taken TakeError → List Record → Type 0
Tells o J (Ok taken) then = IsTold o J (Ok taken) then
Tells o J (Err refused.Memory) then = then ≡ J
Tells o J (Err refused.Disk) then = IsBrokenOff o J then
Tells o J (Err refused.Stopped) then = then ≡ J
Tells o J (Err (refused.Full full)) then = (o ≡ no_room full) × (then ≡ J)
Tells o J (Err (refused.Refused c)) then = IsTold o J (Err c) then

-- what a text of a form gives
abbrev read_by : {V : Type 0} → Closed V → (V → Given) → List ℕ → Result Given ℕ
read_by f give text = f.read (at_start text) >>= λ v. Ok (give v)

-- a value's text gives the value
gives_value : {V : Type 0} (f : Closed V) (m : ℕ) → LawfulClosed f m → (give : V → Given) (text : List ℕ) (v : V) → f.fits v → text ≡ f.text v → read_by f give text ≡ Ok (give v)
gives_value f m l give text v fits is = ap (read_by f give) is ∙ ap (λ r. r >>= λ x. Ok (give x)) (l.again 0 v fits)

gives_fault : {V : Type 0} (f : Closed V) (m : ℕ) → LawfulClosed f m → (give : V → Given) (text : List ℕ) (at : ℕ) → f.fault text at → read_by f give text ≡ Err at
gives_fault f m l give text at fault = ap (λ r. r >>= λ x. Ok (give x)) (l.stops 0 text at fault) ∙ ap (λ n. Err n) (omega arith)

-- the outcome for what is given, with room and without
with_room : (here : Setting) (J : List Record) (x : Given) (answer : Result Taken Check) → answer_to here J x ≡ answer → full_by here.me J (growth here J x) ≡ None → outcome_of here J (Ok x) ≡ answered answer (growth here J x)
with_room here J x answer is room = ap (λ (o : Option Full). outcome_within o (answer_to here J x) (growth here J x)) room ∙ ap (λ (a : Result Taken Check). answered a (growth here J x)) is

without_room : (here : Setting) (J : List Record) (x : Given) (full : Full) → full_by here.me J (growth here J x) ≡ Some full → outcome_of here J (Ok x) ≡ no_room full
without_room here J x full is = ap (λ (o : Option Full). outcome_within o (answer_to here J x) (growth here J x)) is

-- what is answered to a text is what the outcome for it says
pub takes_tells : {V : Type 0} (f : Closed V) (m : ℕ) → LawfulClosed f m → (give : V → Given) (here : Setting) (J : List Record) (text : List ℕ) (result : Result Taken TakeError) (then : List Record)
    → Takes f give here J text result then → Tells (outcome_of here J (read_by f give text)) J result then
takes_tells f m l give here J text (Ok taken) then (v, (fits, (is, told))) =
    record { new = growth here J (give v); is = ap (outcome_of here J) (gives_value f m l give text v fits is) ∙ with_room here J (give v) (Ok taken) told.is told.room; grown = told.grown }
takes_tells f m l give here J text (Err refused.Memory) then t = t
takes_tells f m l give here J text (Err refused.Disk) then (v, (fits, (is, broken))) = record {
  answer = answer_to here J (give v);
  new = growth here J (give v);
  is = ap (outcome_of here J) (gives_value f m l give text v fits is) ∙ with_room here J (give v) (answer_to here J (give v)) refl broken.room;
  cut = broken.cut;
}
takes_tells f m l give here J text (Err refused.Stopped) then t = t
takes_tells f m l give here J text (Err (refused.Full full)) then (v, (fits, (is, none))) = (ap (outcome_of here J) (gives_value f m l give text v fits is) ∙ without_room here J (give v) full none.is, none.same)
takes_tells f m l give here J text (Err (refused.Refused (check.IllFormed at))) then t = record { new = []; is = ap (outcome_of here J) (gives_fault f m l give text at t.0); grown = t.1 ∙ sym (append-nil J) }
takes_tells f m l give here J text (Err (refused.Refused c)) then (v, (fits, (is, told))) =
    record { new = growth here J (give v); is = ap (outcome_of here J) (gives_value f m l give text v fits is) ∙ with_room here J (give v) (Err c) told.is told.room; grown = told.grown }

-- ---- the three sorts of frames

pub proof_frame_tells : (here : Setting) (J : List Record) (payload : List ℕ) (result : Result Taken TakeError) (then : List Record) → TakesProof here J payload result then → Tells (take_frame here J (record { tag = 1; payload = payload })) J result then
unfolding take_frame given_by given_as
proof_frame_tells here J payload result then t = takes_tells (closing proof) _ (closing_lawful proof _ proof_lawful) (λ p. given_proof p) here J payload result then t

pub statement_frame_tells : (here : Setting) (J : List Record) (payload : List ℕ) (result : Result Taken TakeError) (then : List Record) → TakesStatement here J payload result then → Tells (take_frame here J (record { tag = 2; payload = payload })) J result then
unfolding take_frame given_by given_as
statement_frame_tells here J payload result then t = takes_tells (closing signed) _ (closing_lawful signed _ signed_lawful) (λ s. given_statement s) here J payload result then t

pub value_frame_tells : (here : Setting) (J : List Record) (payload : List ℕ) (result : Result Taken TakeError) (then : List Record) → TakesValue here J payload result then → Tells (take_frame here J (record { tag = 3; payload = payload })) J result then
unfolding take_frame given_by given_as
value_frame_tells here J payload result then t = takes_tells (rest_of 65536) _ (rest_lawful 65536) (λ v. given_value v) here J payload result then t

-- ---- no room

-- ---- the answer as a function

-- what an outcome says is its answer, and what it appends
told_is_answer : (o : Outcome) (J : List Record) (result : Result Taken TakeError) (then : List Record) → Tells o J result then → IsUndisturbed result → (result ≡ answer_of o) × (then ≡ J ++ appended_by o)
told_is_answer o J (Ok taken) then t s = (ap answer_of (sym t.is), t.grown ∙ ap (λ (o : Outcome). J ++ appended_by o) (sym t.is))
told_is_answer o J (Err refused.Memory) then t s = absurd s
told_is_answer o J (Err refused.Disk) then t s = absurd s
told_is_answer o J (Err refused.Stopped) then t s = absurd s
told_is_answer o J (Err (refused.Full full)) then t s = (ap answer_of (sym t.0), t.1 ∙ sym (append-nil J) ∙ ap (λ (o : Outcome). J ++ appended_by o) (sym t.0))
told_is_answer o J (Err (refused.Refused c)) then t s = (ap answer_of (sym t.is), t.grown ∙ ap (λ (o : Outcome). J ++ appended_by o) (sym t.is))

-- what a node answers to a text is the function's answer
pub one_answer : (form : Form) (here : Setting) (J : List Record) (text : List ℕ) (result : Result Taken TakeError) (then : List Record)
    → TakesAs form here J text result then → IsUndisturbed result → (result ≡ answer_to_text here J form text) × (then ≡ J ++ growth_of_text here J form text)
unfolding answer_to_text growth_of_text given_as
one_answer as_statement here J text result then t s = told_is_answer _ J result then (takes_tells (closing signed) _ (closing_lawful signed _ signed_lawful) (λ s. given_statement s) here J text result then t) s
one_answer as_proof here J text result then t s = told_is_answer _ J result then (takes_tells (closing proof) _ (closing_lawful proof _ proof_lawful) (λ p. given_proof p) here J text result then t) s
one_answer as_value here J text result then t s = told_is_answer _ J result then (takes_tells (rest_of MOST_VALUE) _ (rest_lawful MOST_VALUE) (λ v. given_value v) here J text result then t) s
