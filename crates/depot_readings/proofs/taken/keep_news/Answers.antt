use Rattle.std.proofs.Common.{ap, subst}
use Rattle.std.specs.List.{AllByRecursion}
use Rattle.depot_model.specs.texts.Records.{IsRecord}
use Rattle.depot_laws.proofs.records.LawfulRecords.{IsSigned-from_record}
use Rattle.depot_readings.specs.NewRecords.{records_in}
use Rattle.depot_readings.specs.declared.news.News.{News}
use Rattle.depot_readings.proofs.TakenLaws.{none_taken, no_vouchers}
use Rattle.depot_readings.proofs.taken.keep_news.Goals as goal

pub add_foreign-requires-clause-text : goal.add_foreign-requires-clause-text
add_foreign-requires-clause-text g c = IsSigned-from_record c.in-Foreign.signed (subst (λ (n : News). AllByRecursion IsRecord (records_in n)) c.in-Foreign.is c.requires.texts).0

pub keep_both-requires-clause-text : goal.keep_both-requires-clause-text
keep_both-requires-clause-text g c = IsSigned-from_record c.in-Convicting.signed (subst (λ (n : News). AllByRecursion IsRecord (records_in n)) c.in-Convicting.is c.requires.texts).1.0

pub returns-in-Nothing-clause-ok : goal.returns-in-Nothing-clause-ok
returns-in-Nothing-clause-ok g c = λ J is. none_taken J (records_in c.args.news) _ (ap records_in c.in-Nothing.is) is

pub returns-in-Vouchers-clause-ok : goal.returns-in-Vouchers-clause-ok
returns-in-Vouchers-clause-ok g c = λ J is. none_taken J (records_in c.args.news) _ (no_vouchers c.args.state.now.listed c.args.news _ c.in-Vouchers.is c.requires.taken) is
