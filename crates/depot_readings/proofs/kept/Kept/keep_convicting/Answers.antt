use Rattle.std.proofs.Common.{◌∷◌, [], refl}
use Rattle.depot_base.specs.declared.record.Record.TheVariants.{Foreign}
use Rattle.depot_base.proofs.Writing.{on_err_from}
use Rattle.depot_laws.proofs.records.LawfulRecords.{IsSigned-from_record}
use Rattle.depot_laws.proofs.lists.Splits.{lawful_front, lawful_last}
use Rattle.depot_readings.proofs.BoundLaws.{few_statements, few_updates}
use Rattle.depot_readings.proofs.KeptLaws.{both_kept, still_keeps, same_state}
use Rattle.depot_readings.proofs.StateGrowth.{accepted_still, accused_is_listed, fits_behind, foreign_still, lawful_both}
use Rattle.depot_readings.proofs.kept.Kept.keep_convicting.Goals as goal

pub keep_both-requires-clause-text : goal.keep_both-requires-clause-text
keep_both-requires-clause-text g c =
    let l = lawful_both _ c.requires.may.0 c.args.proof.now c.args.signed c.requires.may.1.1 in
    IsSigned-from_record c.args.signed (lawful_last _ _ (Foreign c.args.signed) l).text

pub keep_both-requires-clause-fits : goal.keep_both-requires-clause-fits
keep_both-requires-clause-fits g c =
    let l = lawful_both _ c.requires.may.0 c.args.proof.now c.args.signed c.requires.may.1.1 in
    fits_behind _ _ (Foreign c.args.signed) _ _ l refl (accepted_still c.requires.may.0 c.args.proof.now _ c.requires.may.1.0.state.accepted)

pub keep_both-requires-clause-few_accepted : goal.keep_both-requires-clause-few_accepted
keep_both-requires-clause-few_accepted g c =
    let l = lawful_both _ c.requires.may.0 c.args.proof.now c.args.signed c.requires.may.1.1 in
    few_updates _ _ _ _ l (accepted_still c.requires.may.0 c.args.proof.now _ c.requires.may.1.0.state.accepted)

pub keep_both-requires-clause-few_foreign : goal.keep_both-requires-clause-few_foreign
keep_both-requires-clause-few_foreign g c =
    let l = lawful_both _ c.requires.may.0 c.args.proof.now c.args.signed c.requires.may.1.1 in
    few_statements _ _ _ _ l (foreign_still c.requires.may.0 c.args.proof.now _ c.requires.may.1.0.state.foreign)

pub keep_both-requires-clause-listed : goal.keep_both-requires-clause-listed
keep_both-requires-clause-listed g c =
    let l = lawful_both _ c.requires.may.0 c.args.proof.now c.args.signed c.requires.may.1.1 in
    accused_is_listed _ c.requires.may.0 c.args.proof.now (lawful_front _ _ (Foreign c.args.signed ∷ []) l)

pub returns-in_err-keep_both-clause-err : goal.returns-in_err-keep_both-clause-err
returns-in_err-keep_both-clause-err g c = on_err_from _ (still_keeps g.S.Scheme.verifies _ _ _ _ _ c.in_err-keep_both.ensures.stays (same_state _ _ c.in_err-keep_both.ensures.err) (λ h. refl))

pub returns-clause-ok : goal.returns-clause-ok
returns-clause-ok g c = λ J k l.
    both_kept g.S.Scheme.verifies J c.args.proof.now c.args.signed _ _ _ _ _ l (c.totals_with-totals.ensures J k) c.in_ok-keep_both.ensures.stays (c.in_ok-keep_both.ensures.ok J k.state) k
