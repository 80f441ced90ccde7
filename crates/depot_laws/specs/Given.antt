-- What a node is given where its text was read.
use Rattle.std.specs.Prelude.{◌≡◌, List, Ok}
use Rattle.depot_base.specs.Sized.{IsValue}
use Rattle.depot_base.specs.declared.update.Update.{Update}
use Rattle.depot_base.specs.declared.statement.Statement.TheVariants as statement
use Rattle.depot_base.specs.declared.statement.Signed.{Signed}
use Rattle.depot_base.specs.declared.record.Record.{Record}
use Rattle.depot_model.specs.declared.taken.Taken.TheVariants.{New}
use Rattle.depot_model.specs.texts.Texts.{IsSigned, IsProof}
use Rattle.depot_model.specs.checks.Checks.{Setting, Given, given_statement, given_proof, given_value, answer_to}

-- what is given has a text
abbrev pub HasText : Given → Type 0
HasText (given_statement s) = IsSigned s
HasText (given_proof p) = IsProof p
HasText (given_value v) = IsValue v

-- The statement is this update, and it is new to the journal.
pub record IsNewUpdate (here : Setting) (J : List Record) (s : Signed) (u : Update) : Type 0 where
  pub is : s.statement ≡ statement.Update u
  pub new : answer_to here J (given_statement s) ≡ Ok New
