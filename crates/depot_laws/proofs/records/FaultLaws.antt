-- A record that is allowed has no fault, and a text has one fault at most.
use Rattle.std.proofs.Common.{◌≡◌, ℕ, List, Some, None, Result, Ok, Err, refl, sym, ap, subst, ◌∙◌, inl, inr, ◌⊎◌}
use Rattle.depot_base.specs.Reading.{IsClosedReadInOneWay}
use Rattle.depot_base.specs.declared.record.Record.{Record}
use Rattle.depot_base.specs.declared.record.Record.TheVariants.{Birth, OwnPut, OwnVoucher, Foreign, Conviction, Held}
use Rattle.depot_base.proofs.Decoding.{closed_in_one_way}
use Rattle.depot_model.specs.declared.record_fault.RecordFault.{RecordFault}
use Rattle.depot_model.specs.declared.record_fault.RecordFault.TheVariants as fault
use Rattle.depot_base.specs.declared.check.Check.{Check}
use Rattle.depot_model.specs.declared.taken.Taken.{Taken}
use Rattle.depot_model.specs.declared.taken.Taken.TheVariants.{New, Known}
use Rattle.depot_model.specs.checks.Checks.{Setting, Given, given_statement, given_proof, given_value, answer_to}
use Rattle.depot_model.specs.journals.Lawful.{MayFollow, IsAllowed, is_birth, is_empty}
use Rattle.depot_model.specs.checks.RecordFaults.{taken_by_record, IsAtPlace, IsFaultOf, IsFault, IsWrongBirth, IsNotNext, IsWrongVoucher, IsProofDue}
use Rattle.depot_model.specs.texts.Records.{record_text, IsRecord, text_of_record}
use Rattle.depot_model.proofs.of_texts.RecordLaws.{record_text_lawful}

-- ---- texts

one_way : IsClosedReadInOneWay record_text
one_way = closed_in_one_way record_text 1096360 record_text_lawful

-- two records with one text are one
pub one_record : (r s : Record) → IsRecord r → IsRecord s → text_of_record r ≡ text_of_record s → r ≡ s
one_record r s fits fits_too same = one_way.value r s fits fits_too same

-- ---- a record that is allowed

-- what may follow and took something of others, took it as new
took_new : (here : Setting) (J : List Record) (r : Record) (x : Given) → MayFollow here J r → taken_by_record r ≡ Some x → answer_to here J x ≡ Ok New
took_new here J (Birth node roster) x may is = absurd cc
took_new here J (OwnPut u value) x may is = absurd cc
took_new here J (OwnVoucher v) x may is = absurd cc
took_new here J (Foreign s) x may is = let same : given_statement s ≡ x = cc in subst (λ (y : Given). answer_to here J y ≡ Ok New) same may.0
took_new here J (Conviction p) x may is = let same : given_proof p ≡ x = cc in subst (λ (y : Given). answer_to here J y ≡ Ok New) same may
took_new here J (Held value) x may is = let same : given_value value ≡ x = cc in subst (λ (y : Given). answer_to here J y ≡ Ok New) same may

right_birth : (here : Setting) (J : List Record) (r : Record) → is_birth r ≡ is_empty J → MayFollow here J r → IsWrongBirth here J r → ⊥
right_birth here J (Birth node roster) place may wrong = wrong place may
right_birth here J (OwnPut u value) place may wrong = wrong place
right_birth here J (OwnVoucher v) place may wrong = wrong place
right_birth here J (Foreign s) place may wrong = wrong place
right_birth here J (Conviction p) place may wrong = wrong place
right_birth here J (Held value) place may wrong = wrong place

next_put : (here : Setting) (J : List Record) (r : Record) → MayFollow here J r → IsNotNext here J r → ⊥
next_put here J (OwnPut u value) may wrong = wrong may
next_put here J r may wrong = wrong

right_voucher : (here : Setting) (J : List Record) (r : Record) → MayFollow here J r → IsWrongVoucher here J r → ⊥
right_voucher here J (OwnVoucher v) may wrong = wrong may
right_voucher here J r may wrong = wrong

no_proof_due : (here : Setting) (J : List Record) (r : Record) → MayFollow here J r → IsProofDue here J r → ⊥
no_proof_due here J (Foreign s) may due = due.1 may.1
no_proof_due here J r may due = due

no_fault_of : (here : Setting) (J : List Record) (r : Record) (f : RecordFault) → IsAllowed here J r → IsFaultOf here J r f → ⊥
no_fault_of here J r (fault.Ill at) a w = w
no_fault_of here J r fault.Birth a w = right_birth here J r a.first a.may w
no_fault_of here J r fault.NotNext a w = next_put here J r a.may w.1
no_fault_of here J r fault.OwnVoucher a w = right_voucher here J r a.may w.1
no_fault_of here J r (fault.Refused c) a (place, (x, (by, is))) = let new = took_new here J r x a.may by in let never : Ok New ≡ Err c = sym new ∙ is in absurd cc
no_fault_of here J r fault.ProofDue a w = no_proof_due here J r a.may w.1
no_fault_of here J r fault.Idle a (place, (x, (by, is))) = let new = took_new here J r x a.may by in let never : Ok New ≡ Ok Known = sym new ∙ is in absurd cc
no_fault_of here J r fault.NoRoom a w = w.1.1 a.room

of_record : (here : Setting) (J : List Record) (r : Record) (f : RecordFault) → IsAllowed here J r → ((s : Record) × (IsRecord s × ((text_of_record r ≡ text_of_record s) × IsFaultOf here J s f))) → ⊥
of_record here J r f a (s, (fits, (text, wrong))) =
    let same : s ≡ r = one_record s r fits a.text (sym text) in
    no_fault_of here J r f a (subst (λ (x : Record). IsFaultOf here J x f) same wrong)

-- the text of a record that is allowed has no fault
pub no_fault : (here : Setting) (J : List Record) (r : Record) (f : RecordFault) → IsAllowed here J r → IsFault here J (text_of_record r) f → ⊥
no_fault here J r (fault.Ill at) a w = one_way.good r at a.text w
no_fault here J r fault.Birth a w = of_record here J r fault.Birth a w
no_fault here J r fault.NotNext a w = of_record here J r fault.NotNext a w
no_fault here J r fault.OwnVoucher a w = of_record here J r fault.OwnVoucher a w
no_fault here J r (fault.Refused c) a w = of_record here J r (fault.Refused c) a w
no_fault here J r fault.ProofDue a w = of_record here J r fault.ProofDue a w
no_fault here J r fault.Idle a w = of_record here J r fault.Idle a w
no_fault here J r fault.NoRoom a w = of_record here J r fault.NoRoom a w

-- ---- one fault at most

-- what took nothing of others has no answer
took_none : (r : Record) (P : Given → Type 0) → taken_by_record r ≡ None → ((x : Given) × ((taken_by_record r ≡ Some x) × P x)) → ⊥
took_none r P none (x, (by, holds)) = let never : None ≡ Some x = sym none ∙ by in cc

-- a birth that is wrong has no other fault
only_birth : (here : Setting) (J : List Record) (r : Record) (g : RecordFault) → IsWrongBirth here J r → IsFaultOf here J r g → g ≡ fault.Birth
only_birth here J r (fault.Ill at) wrong w = absurd w
only_birth here J r fault.Birth wrong w = refl
only_birth here J (Birth node h) fault.NotNext wrong w = absurd w.1
only_birth here J (OwnPut u value) fault.NotNext wrong w = absurd (wrong w.0)
only_birth here J (OwnVoucher v) fault.NotNext wrong w = absurd w.1
only_birth here J (Foreign s) fault.NotNext wrong w = absurd w.1
only_birth here J (Conviction p) fault.NotNext wrong w = absurd w.1
only_birth here J (Held v) fault.NotNext wrong w = absurd w.1
only_birth here J (Birth node h) fault.OwnVoucher wrong w = absurd w.1
only_birth here J (OwnPut u value) fault.OwnVoucher wrong w = absurd w.1
only_birth here J (OwnVoucher v) fault.OwnVoucher wrong w = absurd (wrong w.0)
only_birth here J (Foreign s) fault.OwnVoucher wrong w = absurd w.1
only_birth here J (Conviction p) fault.OwnVoucher wrong w = absurd w.1
only_birth here J (Held v) fault.OwnVoucher wrong w = absurd w.1
only_birth here J (Birth node h) (fault.Refused c) wrong w = absurd (took_none (Birth node h) (λ x. answer_to here J x ≡ Err c) refl w.1)
only_birth here J (OwnPut u value) (fault.Refused c) wrong w = absurd (wrong w.0)
only_birth here J (OwnVoucher v) (fault.Refused c) wrong w = absurd (wrong w.0)
only_birth here J (Foreign s) (fault.Refused c) wrong w = absurd (wrong w.0)
only_birth here J (Conviction p) (fault.Refused c) wrong w = absurd (wrong w.0)
only_birth here J (Held v) (fault.Refused c) wrong w = absurd (wrong w.0)
only_birth here J (Birth node h) fault.ProofDue wrong w = absurd w.1
only_birth here J (OwnPut u value) fault.ProofDue wrong w = absurd w.1
only_birth here J (OwnVoucher v) fault.ProofDue wrong w = absurd w.1
only_birth here J (Foreign s) fault.ProofDue wrong w = absurd (wrong w.0)
only_birth here J (Conviction p) fault.ProofDue wrong w = absurd w.1
only_birth here J (Held v) fault.ProofDue wrong w = absurd w.1
only_birth here J (Birth node h) fault.Idle wrong w = absurd (took_none (Birth node h) (λ x. answer_to here J x ≡ Ok Known) refl w.1)
only_birth here J (OwnPut u value) fault.Idle wrong w = absurd (wrong w.0)
only_birth here J (OwnVoucher v) fault.Idle wrong w = absurd (wrong w.0)
only_birth here J (Foreign s) fault.Idle wrong w = absurd (wrong w.0)
only_birth here J (Conviction p) fault.Idle wrong w = absurd (wrong w.0)
only_birth here J (Held v) fault.Idle wrong w = absurd (wrong w.0)
only_birth here J r fault.NoRoom wrong w = absurd (right_birth here J r w.0 w.1.0 wrong)

-- nor has one that may follow, but for the room
only_room : (here : Setting) (J : List Record) (r : Record) (g : RecordFault) → IsAtPlace J r → MayFollow here J r → IsFaultOf here J r g → g ≡ fault.NoRoom
only_room here J r (fault.Ill at) place may w = absurd w
only_room here J r fault.Birth place may w = absurd (right_birth here J r place may w)
only_room here J r fault.NotNext place may w = absurd (next_put here J r may w.1)
only_room here J r fault.OwnVoucher place may w = absurd (right_voucher here J r may w.1)
only_room here J r (fault.Refused c) place may (at, (x, (by, is))) = let never : Ok New ≡ Err c = sym (took_new here J r x may by) ∙ is in absurd cc
only_room here J r fault.ProofDue place may w = absurd (no_proof_due here J r may w.1)
only_room here J r fault.Idle place may (at, (x, (by, is))) = let never : Ok New ≡ Ok Known = sym (took_new here J r x may by) ∙ is in absurd cc
only_room here J r fault.NoRoom place may w = refl

-- what it took has one answer
one_given : (r : Record) (x y : Given) → taken_by_record r ≡ Some x → taken_by_record r ≡ Some y → x ≡ y
one_given r x y one two = let same : Some x ≡ Some y = sym one ∙ two in cc

same_refusal : (here : Setting) (J : List Record) (r : Record) (a b : Result Taken Check) → ((x : Given) × ((taken_by_record r ≡ Some x) × (answer_to here J x ≡ a))) → ((x : Given) × ((taken_by_record r ≡ Some x) × (answer_to here J x ≡ b))) → a ≡ b
same_refusal here J r a b (x, (x_by, x_is)) (y, (y_by, y_is)) = sym x_is ∙ ap (answer_to here J) (one_given r x y x_by y_by) ∙ y_is

-- what is due after a statement that is new
due_is_new : (here : Setting) (J : List Record) (r : Record) → IsProofDue here J r → (x : Given) × ((taken_by_record r ≡ Some x) × (answer_to here J x ≡ Ok New))
due_is_new here J (Foreign s) w = (given_statement s, (refl, w.0))
due_is_new here J (Birth node h) w = absurd w
due_is_new here J (OwnPut u value) w = absurd w
due_is_new here J (OwnVoucher v) w = absurd w
due_is_new here J (Conviction p) w = absurd w
due_is_new here J (Held v) w = absurd w

not_next_took_none : (here : Setting) (J : List Record) (r : Record) → IsNotNext here J r → taken_by_record r ≡ None
not_next_took_none here J (OwnPut u value) w = refl
not_next_took_none here J (Birth node h) w = absurd w
not_next_took_none here J (OwnVoucher v) w = absurd w
not_next_took_none here J (Foreign s) w = absurd w
not_next_took_none here J (Conviction p) w = absurd w
not_next_took_none here J (Held v) w = absurd w

voucher_took_none : (here : Setting) (J : List Record) (r : Record) → IsWrongVoucher here J r → taken_by_record r ≡ None
voucher_took_none here J (OwnVoucher v) w = refl
voucher_took_none here J (Birth node h) w = absurd w
voucher_took_none here J (OwnPut u value) w = absurd w
voucher_took_none here J (Foreign s) w = absurd w
voucher_took_none here J (Conviction p) w = absurd w
voucher_took_none here J (Held v) w = absurd w

not_both_own : (here : Setting) (J : List Record) (r : Record) → IsNotNext here J r → IsWrongVoucher here J r → ⊥
not_both_own here J (OwnPut u value) w v = v
not_both_own here J (Birth node h) w v = w
not_both_own here J (OwnVoucher x) w v = w
not_both_own here J (Foreign s) w v = w
not_both_own here J (Conviction p) w v = w
not_both_own here J (Held x) w v = w

-- a record has one fault
one_fault_of : (here : Setting) (J : List Record) (r : Record) (f g : RecordFault) → IsFaultOf here J r f → IsFaultOf here J r g → f ≡ g
one_fault_of here J r (fault.Ill at) g w v = absurd w
one_fault_of here J r f (fault.Ill at) w v = absurd v
one_fault_of here J r fault.Birth g w v = sym (only_birth here J r g w v)
one_fault_of here J r f fault.Birth w v = only_birth here J r f v w
one_fault_of here J r fault.NoRoom g w v = sym (only_room here J r g w.0 w.1.0 v)
one_fault_of here J r f fault.NoRoom w v = only_room here J r f v.0 v.1.0 w
one_fault_of here J r fault.NotNext fault.NotNext w v = refl
one_fault_of here J r fault.NotNext fault.OwnVoucher w v = absurd (not_both_own here J r w.1 v.1)
one_fault_of here J r fault.NotNext (fault.Refused c) w v = absurd (took_none r (λ x. answer_to here J x ≡ Err c) (not_next_took_none here J r w.1) v.1)
one_fault_of here J r fault.NotNext fault.ProofDue w v = absurd (took_none r (λ x. answer_to here J x ≡ Ok New) (not_next_took_none here J r w.1) (due_is_new here J r v.1))
one_fault_of here J r fault.NotNext fault.Idle w v = absurd (took_none r (λ x. answer_to here J x ≡ Ok Known) (not_next_took_none here J r w.1) v.1)
one_fault_of here J r fault.OwnVoucher fault.NotNext w v = absurd (not_both_own here J r v.1 w.1)
one_fault_of here J r fault.OwnVoucher fault.OwnVoucher w v = refl
one_fault_of here J r fault.OwnVoucher (fault.Refused c) w v = absurd (took_none r (λ x. answer_to here J x ≡ Err c) (voucher_took_none here J r w.1) v.1)
one_fault_of here J r fault.OwnVoucher fault.ProofDue w v = absurd (took_none r (λ x. answer_to here J x ≡ Ok New) (voucher_took_none here J r w.1) (due_is_new here J r v.1))
one_fault_of here J r fault.OwnVoucher fault.Idle w v = absurd (took_none r (λ x. answer_to here J x ≡ Ok Known) (voucher_took_none here J r w.1) v.1)
one_fault_of here J r (fault.Refused c) fault.NotNext w v = absurd (took_none r (λ x. answer_to here J x ≡ Err c) (not_next_took_none here J r v.1) w.1)
one_fault_of here J r (fault.Refused c) fault.OwnVoucher w v = absurd (took_none r (λ x. answer_to here J x ≡ Err c) (voucher_took_none here J r v.1) w.1)
one_fault_of here J r (fault.Refused c) (fault.Refused d) w v = let same : Err c ≡ Err d = same_refusal here J r (Err c) (Err d) w.1 v.1 in let e : c ≡ d = cc in ap (λ (x : Check). fault.Refused x) e
one_fault_of here J r (fault.Refused c) fault.ProofDue w v = let never : Err c ≡ Ok New = same_refusal here J r (Err c) (Ok New) w.1 (due_is_new here J r v.1) in absurd cc
one_fault_of here J r (fault.Refused c) fault.Idle w v = let never : Err c ≡ Ok Known = same_refusal here J r (Err c) (Ok Known) w.1 v.1 in absurd cc
one_fault_of here J r fault.ProofDue fault.NotNext w v = absurd (took_none r (λ x. answer_to here J x ≡ Ok New) (not_next_took_none here J r v.1) (due_is_new here J r w.1))
one_fault_of here J r fault.ProofDue fault.OwnVoucher w v = absurd (took_none r (λ x. answer_to here J x ≡ Ok New) (voucher_took_none here J r v.1) (due_is_new here J r w.1))
one_fault_of here J r fault.ProofDue (fault.Refused d) w v = let never : Ok New ≡ Err d = same_refusal here J r (Ok New) (Err d) (due_is_new here J r w.1) v.1 in absurd cc
one_fault_of here J r fault.ProofDue fault.ProofDue w v = refl
one_fault_of here J r fault.ProofDue fault.Idle w v = let never : Ok New ≡ Ok Known = same_refusal here J r (Ok New) (Ok Known) (due_is_new here J r w.1) v.1 in absurd cc
one_fault_of here J r fault.Idle fault.NotNext w v = absurd (took_none r (λ x. answer_to here J x ≡ Ok Known) (not_next_took_none here J r v.1) w.1)
one_fault_of here J r fault.Idle fault.OwnVoucher w v = absurd (took_none r (λ x. answer_to here J x ≡ Ok Known) (voucher_took_none here J r v.1) w.1)
one_fault_of here J r fault.Idle (fault.Refused d) w v = let never : Ok Known ≡ Err d = same_refusal here J r (Ok Known) (Err d) w.1 v.1 in absurd cc
one_fault_of here J r fault.Idle fault.ProofDue w v = let never : Ok Known ≡ Ok New = same_refusal here J r (Ok Known) (Ok New) w.1 (due_is_new here J r v.1) in absurd cc
one_fault_of here J r fault.Idle fault.Idle w v = refl

-- what a text with another fault than Ill has wrong
abbrev HasFault : Setting → List Record → List ℕ → RecordFault → Type 0
HasFault here J text f = (r : Record) × (IsRecord r × ((text ≡ text_of_record r) × IsFaultOf here J r f))

is_ill_or : (here : Setting) (J : List Record) (text : List ℕ) (f : RecordFault) → IsFault here J text f → ((at : ℕ) × ((f ≡ fault.Ill at) × record_text.fault text at)) ⊎ HasFault here J text f
is_ill_or here J text (fault.Ill at) w = inl (at, (refl, w))
is_ill_or here J text fault.Birth w = inr w
is_ill_or here J text fault.NotNext w = inr w
is_ill_or here J text fault.OwnVoucher w = inr w
is_ill_or here J text (fault.Refused c) w = inr w
is_ill_or here J text fault.ProofDue w = inr w
is_ill_or here J text fault.Idle w = inr w
is_ill_or here J text fault.NoRoom w = inr w

-- a text has one fault
pub one_fault : (here : Setting) (J : List Record) (text : List ℕ) (f g : RecordFault) → IsFault here J text f → IsFault here J text g → f ≡ g
one_fault here J text f g w v = elim (is_ill_or here J text f w) [
  | inl ill ↦ elim (is_ill_or here J text g v) [
    | inl too ↦ ill.1.0 ∙ ap (λ (n : ℕ). fault.Ill n) (one_way.place text ill.0 too.0 ill.1.1 too.1.1) ∙ sym too.1.0
    | inr h ↦ absurd (one_way.good h.0 ill.0 h.1.0 (subst (λ (x : List ℕ). record_text.fault x ill.0) h.1.1.0 ill.1.1))
  ]
  | inr h ↦ elim (is_ill_or here J text g v) [
    | inl ill ↦ absurd (one_way.good h.0 ill.0 h.1.0 (subst (λ (x : List ℕ). record_text.fault x ill.0) h.1.1.0 ill.1.1))
    | inr k ↦
        let same : k.0 ≡ h.0 = one_record k.0 h.0 k.1.0 h.1.0 (sym k.1.1.0 ∙ h.1.1.0) in
        one_fault_of here J h.0 f g h.1.1.1 (subst (λ (x : Record). IsFaultOf here J x g) same k.1.1.1)
  ]
]
