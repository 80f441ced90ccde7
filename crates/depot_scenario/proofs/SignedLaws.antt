-- Statements that were just signed, and the halves of a proof, have texts.
use Rattle.std.proofs.Common.{◌≡◌, ℕ, ◌≤◌, List, length, sym, ap, subst, ◌∙◌}
use Rattle.depot_base.specs.Shown.{IsPairKind}
use Rattle.depot_base.specs.Statement.{seq_of}
use Rattle.depot_base.specs.declared.proof.Kind.{Kind}
use Rattle.depot_base.specs.declared.proof.Proof.TheVariants.{Hollow, Pair}
use Rattle.depot_base.specs.declared.statement.Signed.{Signed}
use Rattle.depot_base.specs.declared.statement.Statement.{Statement}
use Rattle.depot_model.specs.exchange.Bundle.{Signs, signed_with}
use Rattle.depot_model.specs.texts.Texts.{IsProof, IsSigned, IsStatement, text_of_statement}
use Rattle.depot_laws.proofs.exchanges.Candidates.{signed_fits}
use Rattle.depot_model.proofs.of_updates.JudgementLaws.{pair_fits, hollow_fits}

-- ---- a statement, signed

-- its text and the signature of that make it
pub signed_by_parts : (sign : Signs) (s : Statement) (body given signature : List ℕ) (seq : ℕ) → body ≡ text_of_statement s → given ≡ body → seq ≡ seq_of s → signature ≡ sign seq given → record { statement = s; body = body; signature = signature } ≡ signed_with sign s
unfolding signed_with
signed_by_parts sign s body given signature seq text same number signed =
    let signature_is : signature ≡ sign (seq_of s) (text_of_statement s) = signed ∙ ap (λ (n : ℕ). sign n given) number ∙ ap (sign (seq_of s)) (same ∙ text) in
    λ i. record { statement = s; body = text i; signature = signature_is i }

-- it has a text, where signatures aren't too long
pub parts_have_text : (sign : Signs) (s : Statement) (body given signature : List ℕ) (seq : ℕ) → body ≡ text_of_statement s → given ≡ body → seq ≡ seq_of s → signature ≡ sign seq given → IsStatement s → ((n : ℕ) (b : List ℕ) → length (sign n b) ≤ 8192)
    → IsSigned (record { statement = s; body = body; signature = signature })
unfolding signed_with
parts_have_text sign s body given signature seq text same number signed fits short =
    subst (λ (x : Signed). IsSigned x) (sym (signed_by_parts sign s body given signature seq text same number signed)) (signed_fits sign s fits (short (seq_of s) (text_of_statement s)))

-- ---- the halves of a proof

-- whatever two signed statements are made the halves of, it has a text
pub halves_have_text : (k : Kind) (a b first second : Signed) → first ≡ a → second ≡ b → IsPairKind k → IsSigned a → IsSigned b → IsProof (Pair k first second)
halves_have_text k a b first second first_is second_is pair a_fits b_fits = pair_fits k first second pair (rw first_is a_fits) (rw second_is b_fits)

-- and so it has, whatever text a signed voucher is said to be hollow for
pub hollow_has_text : (s voucher : Signed) (t text : List ℕ) → voucher ≡ s → text ≡ t → IsSigned s → length t ≤ 65536 → IsProof (Hollow voucher text)
hollow_has_text s voucher t text voucher_is text_is fits short = hollow_fits voucher text (rw voucher_is fits) (rw text_is short)
