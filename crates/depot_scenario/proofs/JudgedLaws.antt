-- What is printed of a judgement is what is defined of the bytes that were judged.
use Rattle.std.proofs.Common.{◌≡◌, ◌≢◌, ℕ, zero-add, List, [], drop, Option, Some, None, Result, Ok, Err, refl, sym, ap, ◌∙◌}
use Rattle.std.specs.Prelude.{IfOk}
use Rattle.depot_base.specs.Format.{whole, FirstFault}
use Rattle.depot_base.specs.declared.key.RosterEntry.{RosterEntry}
use Rattle.depot_base.specs.declared.proof.Proof.{Proof}
use Rattle.depot_base.proofs.Combined.{whole_again, whole_stops}
use Rattle.depot_model.specs.declared.judgement.JudgeError.{JudgeError}
use Rattle.depot_model.specs.declared.judgement.JudgeError.TheVariants as point
use Rattle.depot_model.specs.declared.judgement.Verdict.{Verdict}
use Rattle.depot_model.specs.updates.Judgement.{first_failed_point, verdict_of, IsJudgementOf, IsTextOfProof}
use Rattle.depot_model.specs.texts.Lines.{text_of_point, text_of_verdict}
use Rattle.depot_model.specs.texts.Roster.{Verifies}
use Rattle.depot_model.specs.texts.Texts.{proof}
use Rattle.depot_model.proofs.of_texts.TextLaws.{proof_lawful}
use Rattle.depot_answers.specs.AnswerTexts.{spaced}
use Rattle.depot_world.specs.Run.{Run}
use Rattle.depot_world.specs.FaultySigning.{proof_in}
use Rattle.depot_world.specs.Setups.{Setup}
use Rattle.depot_world.specs.Transcript.{judged_with}

-- what is printed after the arrow, without the space
abbrev pub answer_of : Result Verdict JudgeError → List ℕ
answer_of (Ok v) = text_of_verdict v
answer_of (Err e) = text_of_point e

abbrev IsPrinted : Setup → Run → List ℕ → List ℕ → Type 0
IsPrinted setup run bytes answer = spaced answer ≡ (judged_with setup run (proof_in bytes)).answer

-- ---- what reading gives

read_is : (bytes : List ℕ) (p : Proof) → IsTextOfProof (drop 5 bytes) p → proof_in bytes ≡ Ok p
read_is bytes p text = ap (λ (t : List ℕ). whole proof (record { at = 0; rest = t })) text.is ∙ whole_again proof 121521 proof_lawful 0 p text.fits

fault_is : (bytes : List ℕ) (at : ℕ) → FirstFault proof (drop 5 bytes) at → proof_in bytes ≡ Err at
fault_is bytes at fault = whole_stops proof 121521 proof_lawful 0 (drop 5 bytes) at fault ∙ ap (λ (n : ℕ). Err n) (zero-add at)

-- ---- what is printed

ill_formed_is : (setup : Setup) (run : Run) (bytes : List ℕ) (at : ℕ) → FirstFault proof (drop 5 bytes) at → IsPrinted setup run bytes (text_of_point (point.IllFormed at))
ill_formed_is setup run bytes at fault = rw (fault_is bytes at fault) refl

failed_is : (setup : Setup) (run : Run) (bytes : List ℕ) (e : JudgeError) → (p : Proof) × (IsTextOfProof (drop 5 bytes) p × (first_failed_point setup.suite.verifies setup.listed p ≡ Some e)) → IsPrinted setup run bytes (text_of_point e)
failed_is setup run bytes e (p, shown) = rw (read_is bytes p shown.0) (rw (shown.1, judged_with) refl)

verdict_is : (setup : Setup) (run : Run) (bytes : List ℕ) (v : Verdict) → (p : Proof) × (IsTextOfProof (drop 5 bytes) p × ((first_failed_point setup.suite.verifies setup.listed p ≡ None) × (v ≡ verdict_of p))) → IsPrinted setup run bytes (text_of_verdict v)
verdict_is setup run bytes v (p, shown) = rw (read_is bytes p shown.0, shown.1.1) (rw (shown.1.0, judged_with) refl)

-- where a judge answers anything but want of memory, that is printed
on_setup : (setup : Setup) (run : Run) (bytes : List ℕ) (result : Result Verdict JudgeError) → (result ≡ Err point.Memory → ⊥) → IsJudgementOf setup.suite.verifies setup.listed (drop 5 bytes) result → IsPrinted setup run bytes (answer_of result)
on_setup setup run bytes (Ok v) other is = verdict_is setup run bytes v is
on_setup setup run bytes (Err point.Memory) other is = absurd (other refl)
on_setup setup run bytes (Err (point.IllFormed at)) other is = ill_formed_is setup run bytes at is
on_setup setup run bytes (Err (point.UnknownWriter n)) other is = failed_is setup run bytes (point.UnknownWriter n) is
on_setup setup run bytes (Err (point.BadSignature h)) other is = failed_is setup run bytes (point.BadSignature h) is
on_setup setup run bytes (Err (point.TwoWriters a b)) other is = failed_is setup run bytes (point.TwoWriters a b) is
on_setup setup run bytes (Err point.Same) other is = failed_is setup run bytes point.Same is
on_setup setup run bytes (Err point.WrongOrder) other is = failed_is setup run bytes point.WrongOrder is
on_setup setup run bytes (Err (point.NotContradictory k)) other is = failed_is setup run bytes (point.NotContradictory k) is

-- ---- what a judge answers under a roster, by a scheme

-- the text is that after the arrow, in each setup with these and in each run
abbrev pub IsAnswer : Verifies → List RosterEntry → List ℕ → List ℕ → Type 0
IsAnswer verifies roster bytes text = (setup : Setup) (run : Run) → setup.suite.verifies ≡ verifies → setup.listed ≡ roster → text ≡ (judged_with setup run (proof_in bytes)).answer

answer_is : (verifies : Verifies) (roster : List RosterEntry) (bytes payload : List ℕ) (result : Result Verdict JudgeError) → payload ≡ drop 5 bytes → (result ≡ Err point.Memory → ⊥) → IsJudgementOf verifies roster payload result → IsAnswer verifies roster bytes (spaced (answer_of result))
answer_is verifies roster bytes payload result same other is setup run scheme listed = on_setup setup run bytes result other (rw (scheme, listed, sym same) is)

pub verdict_told : {E : Type 0} (verifies : Verifies) (roster : List RosterEntry) (bytes payload : List ℕ) (v : Verdict) (result : Result (List ℕ) E) → payload ≡ drop 5 bytes → IsJudgementOf verifies roster payload (Ok v) → IfOk result (λ text. text ≡ spaced (text_of_verdict v)) → IfOk result (λ text. IsAnswer verifies roster bytes text)
verdict_told verifies roster bytes payload v (Ok text) same is told = λ setup run scheme listed. told ∙ answer_is verifies roster bytes payload (Ok v) same (λ e. cc) is setup run scheme listed
verdict_told verifies roster bytes payload v (Err e) same is told = tt

pub point_told : {E : Type 0} (verifies : Verifies) (roster : List RosterEntry) (bytes payload : List ℕ) (failed : JudgeError) (result : Result (List ℕ) E) → payload ≡ drop 5 bytes → IsJudgementOf verifies roster payload (Err failed) → IfOk result (λ text. failed ≢ point.Memory) → IfOk result (λ text. text ≡ spaced (text_of_point failed)) → IfOk result (λ text. IsAnswer verifies roster bytes text)
point_told verifies roster bytes payload failed (Ok text) same is other told = λ setup run scheme listed. told ∙ answer_is verifies roster bytes payload (Err failed) same (λ e. other cc) is setup run scheme listed
point_told verifies roster bytes payload failed (Err e) same is other told = tt

-- ---- after the line

quiet : (setup : Setup) (run : Run) (p : Proof) (o : Option JudgeError) → first_failed_point setup.suite.verifies setup.listed p ≡ o → (judged_with setup run (Ok p)).behind ≡ []
quiet setup run p (Some e) is = rw (is, judged_with) refl
quiet setup run p None is = rw (is, judged_with) refl

-- nothing is printed after the line of a judgement
pub nothing_behind : (setup : Setup) (run : Run) (read : Result Proof ℕ) → (judged_with setup run read).behind ≡ []
nothing_behind setup run (Err at) = refl
nothing_behind setup run (Ok p) = quiet setup run p (first_failed_point setup.suite.verifies setup.listed p) refl
