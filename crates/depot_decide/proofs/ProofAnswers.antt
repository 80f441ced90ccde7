-- What a node decides of a proof.
use Rattle.std.proofs.Common.{◌≡◌, ℕ, Bool, true, false, eqb, List, [], ◌∷◌, Some, None, Ok, Err, refl, sym, ap, ◌∙◌}
use Rattle.std.specs.List.{list_any}
use Rattle.depot_base.specs.declared.check.Check.{Check}
use Rattle.depot_base.specs.declared.proof.Proof.{Proof}
use Rattle.depot_base.specs.declared.record.Record.{Record}
use Rattle.depot_base.specs.declared.record.Record.TheVariants.{Conviction}
use Rattle.depot_model.specs.declared.taken.Taken.TheVariants.{New, Known}
use Rattle.depot_model.specs.lists.Lists.{first}
use Rattle.depot_model.specs.checks.Checks.{Setting, given_proof, proof_checks, first_failed_check, is_known, answer_to, added}
use Rattle.depot_model.specs.journals.Journal.{accused, is_convicted}
use Rattle.depot_accept.specs.StateView.{View, IsStateOf}
use Rattle.depot_decide.specs.Deciding.{IsDecided}
use Rattle.depot_decide.proofs.Decided.{decided_by}

-- ---- the answer

when_refused : (here : Setting) (J : List Record) (p : Proof) (c : Check) → first (proof_checks here p) ≡ Some c → answer_to here J (given_proof p) ≡ Err c
unfolding answer_to is_known first_failed_check
when_refused here J p c failed = rw failed refl

when_known : (here : Setting) (J : List Record) (p : Proof) → first (proof_checks here p) ≡ None → is_convicted J (accused p) ≡ true → answer_to here J (given_proof p) ≡ Ok Known
unfolding answer_to is_known first_failed_check
when_known here J p passed convicted = rw (passed, convicted) refl

when_new : (here : Setting) (J : List Record) (p : Proof) → first (proof_checks here p) ≡ None → is_convicted J (accused p) ≡ false → answer_to here J (given_proof p) ≡ Ok New
unfolding answer_to is_known first_failed_check
when_new here J p passed free = rw (passed, free) refl

-- whether the accused is convicted, by the state
pub accused_in_state : {S : Type 0} (J : List Record) (v : View S) (p : Proof) (n : ℕ) (told convicted : Bool) → IsStateOf J v → n ≡ accused p → told ≡ list_any (λ m. eqb m n) v.convicted → told ≡ convicted → is_convicted J (accused p) ≡ convicted
accused_in_state J v p n told convicted state name is answer = ap (is_convicted J) (sym name) ∙ state.convicted n ∙ sym is ∙ answer

-- ---- what is decided

-- a check fails
pub proof_refused : (here : Setting) (J : List Record) (p : Proof) (c : Check) → Some c ≡ first (proof_checks here p) → IsDecided here J (given_proof p) (Err c) []
proof_refused here J p c failed = decided_by here J (given_proof p) (Err c) [] (when_refused here J p c (sym failed)) refl

-- none fails, and the accused is convicted
pub proof_known : (here : Setting) (J : List Record) (p : Proof) → None ≡ first (proof_checks here p) → is_convicted J (accused p) ≡ true → IsDecided here J (given_proof p) (Ok Known) []
proof_known here J p passes convicted = decided_by here J (given_proof p) (Ok Known) [] (when_known here J p (sym passes) convicted) refl

-- none fails, and the accused isn't
pub proof_new : (here : Setting) (J : List Record) (p : Proof) → None ≡ first (proof_checks here p) → is_convicted J (accused p) ≡ false → IsDecided here J (given_proof p) (Ok New) (Conviction p ∷ [])
unfolding added
proof_new here J p passes free = decided_by here J (given_proof p) (Ok New) (Conviction p ∷ []) (when_new here J p (sym passes) free) refl
