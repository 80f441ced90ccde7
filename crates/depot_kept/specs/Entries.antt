-- What is kept of a signed statement.
use Rattle.std.specs.Prelude.{◌≡◌, List}
use Rattle.std.specs.List.{AllByRecursion}
use Rattle.depot_base.specs.declared.statement.Signed.{Signed}
use Rattle.depot_kept.specs.declared.kept_statement.KeptStatement.{KeptStatement}
use Rattle.depot_model.specs.texts.Texts.{IsSigned, text_of_statement, id_of_statement}

-- the signed statement that is kept, whose body is the text of its statement
abbrev pub kept_signed : KeptStatement → Signed
kept_signed e = record { statement = e.statement; body = text_of_statement e.statement; signature = e.signature }

-- it has a text, and the id is that of the statement
pub record IsEntry (e : KeptStatement) : Type 0 where
  pub signed : IsSigned (kept_signed e)
  pub id : e.id ≡ id_of_statement e.statement

-- of each, the same
abbrev pub AreEntries : List KeptStatement → Type 0
AreEntries es = AllByRecursion IsEntry es
