-- What a node says of a proof that is new to it: what a judge says, and that the node isn't the accused.
use Rattle.std.proofs.Common.{◌≡◌, List, false, eqb, None, Ok, refl, sym}
use Rattle.std.proofs.lemmas.Bool.{eqb-false, false_from_ne_true}
use Rattle.std.proofs.lemmas.Bool.{eqb-true}
use Rattle.depot_base.specs.declared.proof.Proof.{Proof}
use Rattle.depot_base.specs.declared.record.Record.{Record}
use Rattle.depot_base.specs.declared.record.Record.TheVariants.{Conviction}
use Rattle.depot_model.specs.declared.taken.Taken.TheVariants.{New}
use Rattle.depot_model.specs.lists.Lists.{first}
use Rattle.depot_model.specs.updates.Judgement.{first_failed_point}
use Rattle.depot_model.specs.journals.Journal.{accused, is_convicted}
use Rattle.depot_model.specs.checks.Checks.{Setting, given_proof, proof_checks, first_failed_check, is_known, answer_to}
use Rattle.depot_model.specs.journals.Lawful.{IsAllowed, is_empty}
use Rattle.depot_model.proofs.lists.FirstLaws.{each_is_none, when-none}
use Rattle.depot_base.proofs.GeneralLaws.{mapped-none}
use Rattle.depot_laws.specs.Verdicts.{IsVerdict}
use Rattle.depot_laws.proofs.records.Taken.{AllNone, new_from_answer}
use Rattle.depot_laws.proofs.convicting.Contrary.{checks_of_good}
use Rattle.depot_laws.proofs.records.LawfulRecords.{IsRecord-Conviction, IsProof-from_record}

-- no point of the judge fails, and the accused is another node
pub record IsGoodAt (here : Setting) (p : Proof) : Type 0 where
  pub good : first_failed_point here.verifies here.listed p ≡ None
  pub other : eqb (accused p) here.me ≡ false

pub good_from_checks : (here : Setting) (p : Proof) → first (proof_checks here p) ≡ None → IsGoodAt here p
unfolding proof_checks
good_from_checks here p e =
    let each : AllNone (proof_checks here p) = each_is_none (proof_checks here p) e in
    record { good = mapped-none _ _ each.0; other = when-none _ _ each.1.0 }

-- a proof that is new is good, and its accused isn't convicted
pub record IsNewProof (here : Setting) (J : List Record) (p : Proof) : Type 0 where
  pub passes : first (proof_checks here p) ≡ None
  pub new : is_convicted J (accused p) ≡ false

new_proof_is : (here : Setting) (J : List Record) (p : Proof) → answer_to here J (given_proof p) ≡ Ok New → IsNewProof here J p
unfolding answer_to is_known first_failed_check
new_proof_is here J p e =
    let n = new_from_answer (is_known here J (given_proof p)) (first_failed_check here J (given_proof p)) e in
    let passes : first (proof_checks here p) ≡ None = n.1 in
    record { passes = passes; new = rw passes at n.0 }

pub new_is_good : (here : Setting) (J : List Record) (p : Proof) → answer_to here J (given_proof p) ≡ Ok New → IsGoodAt here p
new_is_good here J p e = good_from_checks here p (new_proof_is here J p e).passes

-- and the other way
pub new_from_good : (here : Setting) (J : List Record) (p : Proof) → IsGoodAt here p → is_convicted J (accused p) ≡ false → answer_to here J (given_proof p) ≡ Ok New
unfolding answer_to is_known first_failed_check
new_from_good here J p g free = rw (checks_of_good here p g.other g.good, free) refl

-- ---- conviction records

pub verdict_from_allowed : (here : Setting) (J : List Record) (p : Proof) → IsAllowed here J (Conviction p) → IsVerdict here J p
verdict_from_allowed here J p allowed =
    let n = new_proof_is here J p allowed.may in
    let g = good_from_checks here p n.passes in
    record {
      text = IsProof-from_record p allowed.text;
      good = g.good;
      other = eqb-false _ _ g.other;
      new = n.new;
      room = allowed.room;
    }

pub allowed_from_verdict : (here : Setting) (J : List Record) (p : Proof) → is_empty J ≡ false → IsVerdict here J p → IsAllowed here J (Conviction p)
allowed_from_verdict here J p some v = record {
  first = sym some;
  text = IsRecord-Conviction p v.text;
  may = new_from_good here J p (record { good = v.good; other = false_from_ne_true _ (λ e. v.other (eqb-true _ _ e)) }) v.new;
  room = v.room;
}
