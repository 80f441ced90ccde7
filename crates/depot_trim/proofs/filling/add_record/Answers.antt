use Rattle.std.proofs.Common.{◌∙◌, [], ◌∷◌, ◌++◌, refl, sym, ap, subst}
use Rattle.std.proofs.lemmas.Result.{on_ok_weaker}
use Rattle.depot_base.specs.declared.record.Record.{Record}
use Rattle.depot_base.specs.declared.record.Record.TheVariants.{OwnVoucher, Conviction}
use Rattle.depot_model.specs.journals.Journal.{accepted_by}
use Rattle.depot_model.specs.journals.Lawful.{IsLawful}
use Rattle.depot_model.specs.readers.Pruning.{pruned_by}
use Rattle.depot_model.specs.texts.Records.{IsRecord}
use Rattle.depot_model.specs.texts.Roster.{has_node}
use Rattle.depot_laws.proofs.records.LawfulRecords.{IsStatement-from_own_voucher}
use Rattle.depot_laws.proofs.lists.Splits.{lawful_last}
use Rattle.depot_accept.specs.StateView.{setting}
use Rattle.depot_readings.proofs.StateGrowth.{accused_is_listed, silent_state}
use Rattle.depot_trim.proofs.Fillings.{few, fill, fits, is_update, next}
use Rattle.depot_trim.proofs.filling.add_record.Goals as goal

pub returns-in-Birth-clause-ok : goal.returns-in-Birth-clause-ok
returns-in-Birth-clause-ok g c = λ ts J f. fill ts J c.args.item _ _ (ap (pruned_by ts) c.in-Birth.is) (silent_state _ _ _ refl refl refl refl f.state)

pub returns-clause-ok : goal.returns-clause-ok
returns-clause-ok g c = λ ts J f. fill ts J c.args.item _ _ (ap (pruned_by ts) c.in-Held.is) (silent_state _ _ _ refl refl refl refl f.state)

pub add_update-requires-clause-text : goal.add_update-requires-clause-text
add_update-requires-clause-text g c = is_update g.S.Scheme.verifies _ _ c.requires.may.0 c.requires.may.1.0 c.args.item _ c.requires.may.1.1 c.in-OwnPut.update (ap accepted_by c.in-OwnPut.is)

pub add_update-requires-clause-next : goal.add_update-requires-clause-next
add_update-requires-clause-next g c = next g.S.Scheme.verifies _ _ c.requires.may.0 c.requires.may.1.0 c.args.item _ c.requires.may.1.1 c.in-OwnPut.update (ap accepted_by c.in-OwnPut.is)

pub add_update-requires-clause-fits : goal.add_update-requires-clause-fits
add_update-requires-clause-fits g c = fits g.S.Scheme.verifies _ _ c.requires.may.0 c.requires.may.1.0 c.args.item _ c.requires.may.1.1 (c.in-OwnPut.update ∷ []) (ap accepted_by c.in-OwnPut.is)

pub add_update-requires-clause-few : goal.add_update-requires-clause-few
add_update-requires-clause-few g c = few g.S.Scheme.verifies _ _ c.requires.may.0 c.requires.may.1.0 c.args.item _ c.requires.may.1.1

pub returns-in-OwnPut-clause-ok : goal.returns-in-OwnPut-clause-ok
returns-in-OwnPut-clause-ok g c = on_ok_weaker c.add_update.result (λ ok ts J f. fill ts J c.args.item _ _ (ap (pruned_by ts) c.in-OwnPut.is) (ok _ _ refl f.state)) c.add_update.ensures.ok

pub add_own-requires-clause-text : goal.add_own-requires-clause-text
add_own-requires-clause-text g c = IsStatement-from_own_voucher c.in-OwnVoucher.voucher (subst (λ (r : Record). IsRecord r) c.in-OwnVoucher.is (lawful_last _ c.requires.may.1.0 c.args.item c.requires.may.1.1.lawful).text)

pub add_own-requires-clause-fits : goal.add_own-requires-clause-fits
add_own-requires-clause-fits g c = fits g.S.Scheme.verifies _ _ c.requires.may.0 c.requires.may.1.0 c.args.item _ c.requires.may.1.1 [] (ap accepted_by c.in-OwnVoucher.is)

pub add_own-requires-clause-few : goal.add_own-requires-clause-few
add_own-requires-clause-few g c = few g.S.Scheme.verifies _ _ c.requires.may.0 c.requires.may.1.0 c.args.item _ c.requires.may.1.1

pub returns-in-OwnVoucher-clause-ok : goal.returns-in-OwnVoucher-clause-ok
returns-in-OwnVoucher-clause-ok g c = on_ok_weaker c.add_own.result (λ ok ts J f. fill ts J c.args.item (OwnVoucher c.in-OwnVoucher.voucher) _ (ap (pruned_by ts) c.in-OwnVoucher.is) (ok _ (OwnVoucher c.in-OwnVoucher.voucher) refl f.state)) c.add_own.ensures.ok

pub convict-requires : goal.convict-requires
convict-requires g c =
    let J = c.requires.may.1.0 in
    ap (has_node c.args.state.now.listed) c.accused.ensures ∙ accused_is_listed (setting g.S.Scheme.verifies c.args.state.now) J c.in-Conviction.proof (subst (λ (r : Record). IsLawful (setting g.S.Scheme.verifies c.args.state.now) (J ++ r ∷ [])) c.in-Conviction.is c.requires.may.1.1.lawful)

pub returns-in-Conviction-clause-ok : goal.returns-in-Conviction-clause-ok
returns-in-Conviction-clause-ok g c = λ ts J f. fill ts J c.args.item (Conviction c.in-Conviction.proof) _ (ap (pruned_by ts) c.in-Conviction.is) (c.convict.ensures.convicted _ c.in-Conviction.proof (sym c.accused.ensures) f.state)
