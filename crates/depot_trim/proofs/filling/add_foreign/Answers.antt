use Rattle.std.proofs.Common.{refl}
use Rattle.std.proofs.lemmas.Result.{on_ok_weaker}
use Rattle.depot_base.specs.declared.record.Record.TheVariants.{Foreign}
use Rattle.depot_model.specs.journals.Journal.{update_in}
use Rattle.depot_laws.proofs.records.LawfulRecords.{IsSigned-from_record}
use Rattle.depot_laws.proofs.lists.Splits.{lawful_last}
use Rattle.depot_trim.proofs.Fillings.{few, few_foreign, fill, fits, told_of_voucher}
use Rattle.depot_trim.proofs.filling.add_foreign.Goals as goal

pub id_of_body-id-requires : goal.id_of_body-id-requires
id_of_body-id-requires g c = IsSigned-from_record c.args.signed (lawful_last _ c.requires.1.0 (Foreign c.args.signed) c.requires.1.1.lawful).text

pub add_foreign-requires-clause-text : goal.add_foreign-requires-clause-text
add_foreign-requires-clause-text g c = IsSigned-from_record c.args.signed (lawful_last _ c.requires.1.0 (Foreign c.args.signed) c.requires.1.1.lawful).text

pub add_foreign-requires-clause-fits : goal.add_foreign-requires-clause-fits
add_foreign-requires-clause-fits g c = fits g.S.Scheme.verifies _ _ c.requires.0 c.requires.1.0 (Foreign c.args.signed) _ c.requires.1.1 (update_in c.args.signed.statement) refl

pub add_foreign-requires-clause-few_accepted : goal.add_foreign-requires-clause-few_accepted
add_foreign-requires-clause-few_accepted g c = few g.S.Scheme.verifies _ _ c.requires.0 c.requires.1.0 (Foreign c.args.signed) _ c.requires.1.1

pub add_foreign-requires-clause-few_foreign : goal.add_foreign-requires-clause-few_foreign
add_foreign-requires-clause-few_foreign g c = few_foreign g.S.Scheme.verifies _ _ c.requires.0 c.requires.1.0 (Foreign c.args.signed) _ c.requires.1.1

pub returns-in-Voucher-clause-ok : goal.returns-in-Voucher-clause-ok
returns-in-Voucher-clause-ok g c = on_ok_weaker c.add_foreign.result (λ ok ts J f. fill ts J (Foreign c.args.signed) (Foreign c.args.signed) _ (told_of_voucher ts c.args.signed _ c.in-Voucher.is) (ok _ f.state)) c.add_foreign.ensures.ok
