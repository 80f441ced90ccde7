-- What a record that has a text accepted has a text, too.
use Rattle.std.proofs.Common.{◌≡◌, subst}
use Rattle.depot_base.specs.declared.record.Record.TheVariants.{Foreign}
use Rattle.depot_base.specs.declared.statement.Signed.{Signed}
use Rattle.depot_base.specs.declared.statement.Statement.{Statement}
use Rattle.depot_base.specs.declared.statement.Statement.TheVariants as statements
use Rattle.depot_base.specs.declared.update.Update.{Update}
use Rattle.depot_model.specs.texts.Records.{IsRecord}
use Rattle.depot_model.specs.texts.Texts.{IsUpdate, IsStatement}
use Rattle.depot_model.proofs.of_texts.BodyLaws.{IsUpdate-from_statement, IsStatement-from_signed}
use Rattle.depot_laws.proofs.records.LawfulRecords.{IsSigned-from_record}

pub foreign_fits : (s : Signed) (u : Update) → s.statement ≡ statements.Update u → IsRecord (Foreign s) → IsUpdate u
foreign_fits s u is fits = IsUpdate-from_statement u (subst (λ (x : Statement). IsStatement x) is (IsStatement-from_signed s (IsSigned-from_record s fits)))
