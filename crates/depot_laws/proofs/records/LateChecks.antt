-- Statements that are refused by a check after those of the writer and the signature.
use Rattle.std.proofs.Common.{◌≡◌, Bool, true, false, not, eqb, List, [], ◌∷◌, ◌++◌, Option, Some, Err, refl, sym, subst}
use Rattle.depot_base.specs.Statement.{writer_of}
use Rattle.depot_base.specs.declared.statement.Signed.{Signed}
use Rattle.depot_base.specs.declared.record.Record.{Record}
use Rattle.depot_base.specs.declared.check.Check.{Check}
use Rattle.depot_base.specs.declared.check.Check.TheVariants as check
use Rattle.depot_model.specs.lists.Lists.{when, first}
use Rattle.depot_model.specs.texts.Texts.{id_of_statement}
use Rattle.depot_model.specs.texts.Roster.{has_node, is_signed}
use Rattle.depot_model.specs.checks.Checks.{Setting, given_statement, forked, refused_as_convicted, content_of, statement_checks, first_failed_check, is_kept, is_known, answer_to}
use Rattle.depot_base.proofs.GeneralLaws.{second_fails}
use Rattle.depot_laws.proofs.lists.Tests.{holds_from_not}
use Rattle.depot_laws.proofs.records.Taken.{refused_from_answer}
use Rattle.depot_laws.proofs.convicting.Contrary.{IsGenuine}

-- a check after those of the writer and the signature
abbrev pub IsLate : Check → Type 0
IsLate (check.UnknownWriter n) = ⊥
IsLate (check.NotMine h) = ⊥
IsLate (check.BadSignature n) = ⊥
IsLate c = Unit {0}

skipped : (test : Bool) (e c : Check) (os : List (Option Check)) → (IsLate e → ⊥) → IsLate c → first (when test e ∷ os) ≡ Some c → (test ≡ false) × (first os ≡ Some c)
skipped true e c os early late shown = let same : e ≡ c = cc in absurd (early (subst IsLate (sym same) late))
skipped false e c os early late shown = (refl, shown)

-- the checks of the content, and then those of forks and convictions
abbrev pub late_checks : List Record → Signed → List (Option Check)
late_checks J s = content_of J s.statement ++ (forked J s.statement ∷ refused_as_convicted J s.statement ∷ [])

-- the statement is genuine and isn't kept, and this is the first of the later checks that fails
pub record IsRefusedLate (here : Setting) (J : List Record) (s : Signed) (c : Check) : Type 0 where
  pub genuine : IsGenuine here s
  pub new : is_kept J s.statement ≡ false
  pub first_failed : first (late_checks J s) ≡ Some c

-- the first check that fails is a later one
record IsLateCheck (here : Setting) (J : List Record) (s : Signed) (c : Check) : Type 0 where
  pub genuine : IsGenuine here s
  pub first_failed : first (late_checks J s) ≡ Some c

late_check : (here : Setting) (J : List Record) (s : Signed) (c : Check) → IsLate c → first (statement_checks here J s) ≡ Some c → IsLateCheck here J s c
unfolding statement_checks
late_check here J s c late e =
    let rest = late_checks J s in
    let signature = when (not (is_signed here.verifies here.listed s)) (check.BadSignature (writer_of s.statement)) in
    let mine = when (eqb (writer_of s.statement) here.me) (check.NotMine (id_of_statement s.statement)) in
    let one = skipped (not (has_node here.listed (writer_of s.statement))) (check.UnknownWriter (writer_of s.statement)) c (mine ∷ signature ∷ rest) (λ h. h) late e in
    let two = skipped (eqb (writer_of s.statement) here.me) (check.NotMine (id_of_statement s.statement)) c (signature ∷ rest) (λ h. h) late one.1 in
    let three = skipped (not (is_signed here.verifies here.listed s)) (check.BadSignature (writer_of s.statement)) c rest (λ h. h) late two.1 in
    record { genuine = record { known = holds_from_not _ one.0; other = two.0; signed = holds_from_not _ three.0 }; first_failed = three.1 }

pub refused_late : (here : Setting) (J : List Record) (s : Signed) (c : Check) → IsLate c → answer_to here J (given_statement s) ≡ Err c → IsRefusedLate here J s c
unfolding answer_to first_failed_check is_known
refused_late here J s c late e =
    let r = refused_from_answer (is_known here J (given_statement s)) (first_failed_check here J (given_statement s)) c e in
    let l = late_check here J s c late r.1 in
    record {
      genuine = l.genuine;
      new = second_fails (has_node here.listed (writer_of s.statement)) (is_kept J s.statement) l.genuine.known r.0;
      first_failed = l.first_failed;
    }
