-- The node's own statements in a bundle.
use Rattle.std.specs.Prelude.{◌≡◌, ℕ, ◌≤◌, List, false, length}
use Rattle.depot_base.specs.declared.limits.TheConstants.{MOST_SIGNATURE}
use Rattle.depot_base.specs.declared.statement.Signed.{Signed}
use Rattle.depot_base.specs.declared.record.Record.{Record}
use Rattle.depot_base.specs.Statement.{seq_of, writer_of}
use Rattle.depot_model.specs.exchange.Bundle.{Bundle, Signs, bundle_answer, bundled, statement_frame}
use Rattle.depot_model.specs.checks.Checks.{Setting}
use Rattle.depot_model.specs.journals.Journal.{own}
use Rattle.depot_model.specs.journals.Lawful.{IsLawful, is_empty}
use Rattle.depot_model.specs.lists.Lists.{IsIn}
use Rattle.depot_model.specs.texts.Texts.{IsSigned}

-- all that the signer gives is short enough for a text
abbrev pub SignsShort : Signs → Type 0
SignsShort sign = (seq : ℕ) (body : List ℕ) → length (sign seq body) ≤ MOST_SIGNATURE

-- One of the node's own statements in this journal, with the signature that the signer gives for its seq and its body.
pub record IsSignedOwn (sign : Signs) (J : List Record) (s : Signed) : Type 0 where
  pub on : IsIn s.statement (own J)
  pub signature : s.signature ≡ sign (seq_of s.statement) s.body

-- A node answers some text with this bundle; its journal is this one, lawful and not empty.
pub record AnswersBundle (here : Setting) (sign : Signs) (J : List Record) (b : Bundle) : Type 0 where
  pub text : List ℕ
  pub lawful : IsLawful here J
  pub begun : is_empty J ≡ false
  pub short : SignsShort sign
  pub is : bundle_answer here sign J text ≡ bundled b

-- The bundle's bytes contain this signed statement, which is the node's own.
pub record HasOwnStatement (here : Setting) (b : Bundle) (s : Signed) : Type 0 where
  pub fits : IsSigned s
  pub on : IsIn (statement_frame s) b.frames
  pub mine : writer_of s.statement ≡ here.me
