-- What the ranges of a text say of its parts.
use Rattle.std.proofs.Common.{◌≡◌, ℕ, ◌≤◌, true, List, Result, Ok, Err, refl, ap, ◌∙◌, arith}
use Rattle.std.specs.Prelude.{is_ok}
use Rattle.depot_base.specs.Format.{whole}
use Rattle.depot_base.proofs.FormatLaws.{IsBytes, cursor}
use Rattle.depot_base.proofs.Combined.{whole_takes, whole_again}
use Rattle.depot_model.specs.updates.Contradictions.{is_update_text}
use Rattle.depot_model.proofs.of_texts.TextLaws.{update_body_lawful}
use Rattle.std.proofs.lemmas.Bool.Decides.{nat_tests}
use Rattle.depot_base.specs.Shown.{shown_first, shown_second}
use Rattle.depot_base.specs.Format.{number}
use Rattle.depot_base.specs.declared.update.Update.{Update}
use Rattle.depot_base.specs.declared.statement.Statement.{Statement}
use Rattle.depot_base.specs.declared.statement.Statement.TheVariants as statements
use Rattle.depot_base.specs.declared.statement.Signed.{Signed}
use Rattle.depot_base.specs.declared.proof.Proof.{Proof}
use Rattle.depot_model.specs.texts.Texts.{statement, update_body, most_kind, version_of, IsUpdate, IsStatement, IsSigned, IsProof, text_of_update, text_of_statement, id_of_update, id_of_statement}
use Rattle.depot_model.proofs.of_texts.FieldFacts.{signed_facts, first_facts, second_facts}

-- an update has the same body as the statement that it is
pub text_of_statement-Update : (u : Update) → text_of_statement (statements.Update u) ≡ text_of_update u
unfolding statement update_body number
text_of_statement-Update u = refl

-- and the same id
pub update_id : (u : Update) → id_of_statement (statements.Update u) ≡ id_of_update u
unfolding id_of_statement id_of_update statement update_body number
update_id u = refl

pub id_of_its_update : (s : Statement) (u : Update) (h : List ℕ) → h ≡ id_of_statement s → s ≡ statements.Update u → h ≡ id_of_update u
id_of_its_update s u h is same = is ∙ ap (λ (t : Statement). id_of_statement t) same ∙ update_id u

-- and is in the ranges of the one where it is in those of the other
pub IsUpdate-from_statement : (u : Update) → IsStatement (statements.Update u) → IsUpdate u
unfolding statement update_body number
IsUpdate-from_statement u fits = (fits.0, ((omega arith, omega arith), fits.1.1))

some_kind : (version : ℕ) → 1 ≤ most_kind version
some_kind version = grind (arith, nat_tests)

pub IsStatement-from_update : (u : Update) → IsUpdate u → IsStatement (statements.Update u)
unfolding statement update_body number
IsStatement-from_update u fits = (fits.0, ((omega arith, omega (arith, some_kind (version_of u.writes))), fits.1.1))

-- the body of a signed statement is the text of its statement
pub body_is_text : (s : Signed) → IsSigned s → s.body ≡ text_of_statement s.statement
body_is_text s fits = (signed_facts s fits).body

-- and its statement is in its ranges
pub IsStatement-from_signed : (s : Signed) → IsSigned s → IsStatement s.statement
IsStatement-from_signed s fits = (signed_facts s fits).statement

-- what a proof shows is in its ranges
pub first_is_signed : (p : Proof) → IsProof p → IsSigned (shown_first p)
first_is_signed p fits = first_facts p fits

pub second_is_signed : (p : Proof) → IsProof p → IsSigned (shown_second p)
second_is_signed p fits = second_facts p fits

-- where it is an update, its body is the update's
pub body_is_text_of_update : (s : Signed) (u : Update) → IsSigned s → s.statement ≡ statements.Update u → s.body ≡ text_of_update u
body_is_text_of_update s u fits is = body_is_text s fits ∙ ap (λ (x : Statement). text_of_statement x) is ∙ text_of_statement-Update u

-- ---- texts of updates

-- the test of a text says that it is an update's
pub text_of_some_update : (text : List ℕ) → IsBytes text → is_update_text text ≡ true → (u : Update) × (IsUpdate u × (text ≡ text_of_update u))
unfolding is_update_text
text_of_some_update text bytes e = from_answer (whole update_body (cursor 0 text)) refl e where
  from_answer : (r : Result Update ℕ) → whole update_body (cursor 0 text) ≡ r → is_ok r ≡ true → (u : Update) × (IsUpdate u × (text ≡ text_of_update u))
  from_answer (Ok u) is e = (u, whole_takes update_body 47779 update_body_lawful (cursor 0 text) u bytes is)
  from_answer (Err at) is e = absurd cc

-- and of an update's it does
pub update_is_text : (u : Update) → IsUpdate u → is_update_text (text_of_update u) ≡ true
unfolding is_update_text
update_is_text u fits = ap is_ok (whole_again update_body 47779 update_body_lawful 0 u fits)
