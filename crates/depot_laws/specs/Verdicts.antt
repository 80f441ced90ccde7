-- What a conviction record shows, and what convicts a writer.
use Rattle.std.specs.Prelude.{◌≡◌, List, [], ◌∷◌, true, false, None, Err}
use Rattle.depot_base.specs.Statement.{writer_of}
use Rattle.depot_base.specs.declared.statement.Signed.{Signed}
use Rattle.depot_base.specs.declared.proof.Kind.{Kind}
use Rattle.depot_base.specs.declared.proof.Proof.{Proof}
use Rattle.depot_base.specs.declared.record.Record.{Record}
use Rattle.depot_base.specs.declared.record.Record.TheVariants.{Conviction}
use Rattle.depot_base.specs.declared.check.Check.{Check}
use Rattle.depot_model.specs.lists.Lists.{IsIn}
use Rattle.depot_model.specs.texts.Texts.{IsProof}
use Rattle.depot_model.specs.updates.Contradictions.{contradicts}
use Rattle.depot_model.specs.updates.Judgement.{first_failed_point}
use Rattle.depot_model.specs.journals.Journal.{foreign, accused, is_convicted}
use Rattle.depot_model.specs.checks.Checks.{Setting, given_statement, answer_to, growth}
use Rattle.depot_model.specs.checks.Room.{HasRoom}

-- The proof has a text and a verdict, its accused is another node that isn't convicted yet, and there is room for its record.
pub record IsVerdict (here : Setting) (J : List Record) (p : Proof) : Type 0 where
  pub text : IsProof p
  pub good : first_failed_point here.verifies here.listed p ≡ None
  pub other : accused p ≡ here.me → ⊥
  pub new : is_convicted J (accused p) ≡ false
  pub room : HasRoom here.me J (Conviction p ∷ [])

-- For the statement the journal grows by one conviction record, of the statement's writer.
pub record ConvictsWriter (here : Setting) (J : List Record) (s : Signed) : Type 0 where
  pub proof : Proof
  pub grown : growth here J (given_statement s) ≡ Conviction proof ∷ []
  pub names : accused proof ≡ writer_of s.statement

-- where the journal refuses the statement by this check, and nobody convicted its writer, it convicts the writer
abbrev pub RefusalConvicts : Setting → List Record → Signed → Check → Type 0
RefusalConvicts here J s fault = answer_to here J (given_statement s) ≡ Err fault
    → is_convicted J (writer_of s.statement) ≡ false → ConvictsWriter here J s

-- two statements of others in the journal that contradict each other, in whatever kind, have a convicted writer
abbrev pub ContradictionsConvict : List Record → Type 0
ContradictionsConvict J = (a b : Signed) → IsIn a (foreign J) → IsIn b (foreign J) → (k : Kind)
    → contradicts k a.statement b.statement ≡ true → is_convicted J (writer_of a.statement) ≡ true
