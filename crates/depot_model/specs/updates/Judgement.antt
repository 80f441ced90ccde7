-- What a judge says of a proof.
use Rattle.std.specs.Prelude.{◌≡◌, List, [], ◌∷◌, ℕ, Bool, true, not, ◌==◌, Option, Some, None, Result, Ok, Err}
use Rattle.std.specs.Str.{bytes_eq}
use Rattle.depot_base.specs.Format.{FirstFault}
use Rattle.depot_base.specs.Parts.{is_below}
use Rattle.depot_base.specs.Statement.{writer_of}
use Rattle.depot_base.specs.declared.statement.Signed.{Signed}
use Rattle.depot_base.specs.declared.proof.Kind.TheVariants.{NotUpdate}
use Rattle.depot_base.specs.declared.proof.Proof.{Proof}
use Rattle.depot_base.specs.declared.proof.Proof.TheVariants.{Pair, Hollow}
use Rattle.depot_base.specs.declared.key.RosterEntry.{RosterEntry}
use Rattle.depot_model.specs.declared.judgement.Verdict.{Verdict}
use Rattle.depot_model.specs.declared.judgement.Half.{Half}
use Rattle.depot_model.specs.declared.judgement.Half.TheVariants.{First, Second}
use Rattle.depot_model.specs.declared.judgement.JudgeError.{JudgeError}
use Rattle.depot_model.specs.declared.judgement.JudgeError.TheVariants as point
use Rattle.depot_model.specs.lists.Lists.{when, first}
use Rattle.depot_model.specs.texts.Contents.{accused, shown_first, shown_second, kind_shown}
use Rattle.depot_model.specs.texts.Texts.{IsProof, text_of_proof, proof}
use Rattle.depot_model.specs.updates.Contradictions.{contradicts, is_hollow}
use Rattle.depot_model.specs.texts.Roster.{Verifies, has_node, is_signed}

-- the half of a proof; of a hollow one, its voucher
abbrev pub half_of : Half → Proof → Signed
half_of First p = shown_first p
half_of Second p = shown_second p

-- the halves of a pair contradict each other in its kind, or the voucher of a hollow proof names its text, which is no update's; as
-- a test and as a fact
abbrev pub is_contrary : Proof → Bool
is_contrary (Pair kind a b) = contradicts kind a.statement b.statement
is_contrary (Hollow voucher text) = is_hollow voucher.statement text

abbrev pub IsContrary : Proof → Type 0
IsContrary p = is_contrary p ≡ true

-- the points of a proof in their order, each with what it carries where it fails
unfoldable pub points : Verifies → List RosterEntry → Proof → List (Option JudgeError)
points verifies r (Pair kind first second) =
    let a = writer_of first.statement in
    let b = writer_of second.statement in
    when (not (has_node r a)) (point.UnknownWriter a) ∷
    when (not (has_node r b)) (point.UnknownWriter b) ∷
    when (not (is_signed verifies r first)) (point.BadSignature First) ∷
    when (not (is_signed verifies r second)) (point.BadSignature Second) ∷
    when (not (a == b)) (point.TwoWriters a b) ∷
    when (bytes_eq first.body second.body) point.Same ∷
    when (not (is_below first.body second.body)) point.WrongOrder ∷
    when (not (contradicts kind first.statement second.statement)) (point.NotContradictory kind) ∷ []
points verifies r (Hollow voucher text) =
    when (not (has_node r (writer_of voucher.statement))) (point.UnknownWriter (writer_of voucher.statement)) ∷
    when (not (is_signed verifies r voucher)) (point.BadSignature First) ∷
    when (not (is_hollow voucher.statement text)) (point.NotContradictory NotUpdate) ∷ []

-- the first point that fails, or none
abbrev pub first_failed_point : Verifies → List RosterEntry → Proof → Option JudgeError
first_failed_point verifies r p = first (points verifies r p)

-- the verdict of a proof that fails no point
abbrev pub verdict_of : Proof → Verdict
verdict_of p = record { node = accused p; kind = kind_shown p }

-- the first point that fails, and where none does the verdict
abbrev pub judged_by : Option JudgeError → Proof → Result Verdict JudgeError
judged_by (Some failed) p = Err failed
judged_by None p = Ok (verdict_of p)

-- the text is that of a proof
pub record IsTextOfProof (text : List ℕ) (p : Proof) : Type 0 where
  pub fits : IsProof p
  pub is : text ≡ text_of_proof p

-- A text that is no proof's is ill-formed at its first fault. A proof's answer is the first point that fails, and where
-- none does the verdict. Memory may come in place of each answer.
abbrev pub IsJudgementOf : Verifies → List RosterEntry → List ℕ → Result Verdict JudgeError → Type 0
IsJudgementOf verifies r text (Ok verdict) = (p : Proof) × (IsTextOfProof text p × ((first_failed_point verifies r p ≡ None) × (verdict ≡ verdict_of p)))
IsJudgementOf verifies r text (Err point.Memory) = Unit {0}
IsJudgementOf verifies r text (Err (point.IllFormed at)) = FirstFault proof text at
IsJudgementOf verifies r text (Err other) = (p : Proof) × (IsTextOfProof text p × (first_failed_point verifies r p ≡ Some other))
