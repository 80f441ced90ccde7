use Rattle.std.proofs.Common.{◌∙◌, true, false, [], ◌∷◌, refl, sym, ap}
use Rattle.std.proofs.lemmas.Result.{on_ok_weaker}
use Rattle.depot_base.specs.declared.record.Record.TheVariants.{OwnPut, Foreign}
use Rattle.depot_model.specs.journals.Journal.{update_in}
use Rattle.depot_laws.proofs.records.LawfulRecords.{IsSigned-from_record}
use Rattle.depot_laws.proofs.lists.Splits.{lawful_last}
use Rattle.depot_model.specs.texts.Texts.{id_of_statement}
use Rattle.depot_readings.proofs.StateGrowth.{id_of_put}
use Rattle.depot_trim.proofs.Fillings.{few, few_foreign, fill, fits, flag, flag_inside, inside, is_update, next, told_of_update}
use Rattle.depot_trim.proofs.filling.add_foreign_update.Goals as goal

pub is_next_given_up-requires : goal.is_next_given_up-requires
is_next_given_up-requires g c = flag_inside g.S.Scheme.verifies _ _ c.requires.may.0 c.requires.may.1.0 (Foreign c.args.signed) _ c.requires.may.1.1 c.requires.update.0 (ap update_in c.requires.update.1)

pub next_id-id-requires : goal.next_id-id-requires
next_id-id-requires g c = inside g.S.Scheme.verifies _ _ c.requires.may.0 c.requires.may.1.0 (Foreign c.args.signed) _ c.requires.may.1.1 c.requires.update.0 (ap update_in c.requires.update.1)

pub add_foreign-requires-clause-text : goal.add_foreign-requires-clause-text
add_foreign-requires-clause-text g c = IsSigned-from_record c.args.signed (lawful_last _ c.requires.may.1.0 (Foreign c.args.signed) c.requires.may.1.1.lawful).text

pub add_foreign-requires-clause-id : goal.add_foreign-requires-clause-id
add_foreign-requires-clause-id g c =
    let at = next g.S.Scheme.verifies _ _ c.requires.may.0 c.requires.may.1.0 (Foreign c.args.signed) _ c.requires.may.1.1 c.requires.update.0 (ap update_in c.requires.update.1) in
    id_of_put c.requires.update.0 _ (c.next_id-id.ensures c.requires.update.0 at) ∙ ap id_of_statement (sym c.requires.update.1)

pub add_foreign-requires-clause-fits : goal.add_foreign-requires-clause-fits
add_foreign-requires-clause-fits g c = fits g.S.Scheme.verifies _ _ c.requires.may.0 c.requires.may.1.0 (Foreign c.args.signed) _ c.requires.may.1.1 (update_in c.args.signed.statement) refl

pub add_foreign-requires-clause-few_accepted : goal.add_foreign-requires-clause-few_accepted
add_foreign-requires-clause-few_accepted g c = few g.S.Scheme.verifies _ _ c.requires.may.0 c.requires.may.1.0 (Foreign c.args.signed) _ c.requires.may.1.1

pub add_foreign-requires-clause-few_foreign : goal.add_foreign-requires-clause-few_foreign
add_foreign-requires-clause-few_foreign g c = few_foreign g.S.Scheme.verifies _ _ c.requires.may.0 c.requires.may.1.0 (Foreign c.args.signed) _ c.requires.may.1.1

pub returns-then-not-is_next_given_up-clause-ok : goal.returns-then-not-is_next_given_up-clause-ok
returns-then-not-is_next_given_up-clause-ok g c = on_ok_weaker c.add_foreign.result (λ ok ts J f.
    let u = c.requires.update.0 in
    let left = flag g.S.Scheme.verifies _ _ ts J (Foreign c.args.signed) _ f u c.is_next_given_up.result (ap update_in c.requires.update.1) c.is_next_given_up.ensures ∙ c.if-not-is_next_given_up.true in
    fill ts J (Foreign c.args.signed) (Foreign c.args.signed) _ (told_of_update ts c.args.signed u false c.requires.update.1 left) (ok _ f.state)) c.add_foreign.ensures.ok

pub add_update-requires-clause-text : goal.add_update-requires-clause-text
add_update-requires-clause-text g c = is_update g.S.Scheme.verifies _ _ c.requires.may.0 c.requires.may.1.0 (Foreign c.args.signed) _ c.requires.may.1.1 c.in-Update.update (ap update_in c.in-Update.is)

pub add_update-requires-clause-next : goal.add_update-requires-clause-next
add_update-requires-clause-next g c = next g.S.Scheme.verifies _ _ c.requires.may.0 c.requires.may.1.0 (Foreign c.args.signed) _ c.requires.may.1.1 c.in-Update.update (ap update_in c.in-Update.is)

pub add_update-requires-clause-fits : goal.add_update-requires-clause-fits
add_update-requires-clause-fits g c = fits g.S.Scheme.verifies _ _ c.requires.may.0 c.requires.may.1.0 (Foreign c.args.signed) _ c.requires.may.1.1 (c.in-Update.update ∷ []) (ap update_in c.in-Update.is)

pub add_update-requires-clause-few : goal.add_update-requires-clause-few
add_update-requires-clause-few g c = few g.S.Scheme.verifies _ _ c.requires.may.0 c.requires.may.1.0 (Foreign c.args.signed) _ c.requires.may.1.1

pub returns-clause-ok : goal.returns-clause-ok
returns-clause-ok g c = on_ok_weaker c.add_update.result (λ ok ts J f.
    let u = c.in-Update.update in
    let gone = flag g.S.Scheme.verifies _ _ ts J (Foreign c.args.signed) _ f u c.is_next_given_up.result (ap update_in c.in-Update.is) c.is_next_given_up.ensures ∙ c.if-not-is_next_given_up.false in
    fill ts J (Foreign c.args.signed) (OwnPut u []) _ (told_of_update ts c.args.signed u true c.in-Update.is gone) (ok _ (OwnPut u []) refl f.state)) c.add_update.ensures.ok
