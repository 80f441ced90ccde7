use Rattle.std.proofs.Common.{refl}
use Rattle.depot_base.specs.declared.record.Record.TheVariants.{Foreign}
use Rattle.depot_base.proofs.Writing.{on_err_from}
use Rattle.depot_laws.proofs.records.LawfulRecords.{IsSigned-from_record}
use Rattle.depot_laws.proofs.lists.Splits.{lawful_last}
use Rattle.depot_readings.proofs.BoundLaws.{few_statements, few_updates}
use Rattle.depot_readings.proofs.KeptLaws.{taken_kept, still_keeps, same_state}
use Rattle.depot_readings.proofs.StateGrowth.{fits_behind}
use Rattle.depot_readings.proofs.kept.Kept.keep_foreign.Goals as goal

pub add_foreign-requires-clause-text : goal.add_foreign-requires-clause-text
add_foreign-requires-clause-text g c = IsSigned-from_record c.args.signed (lawful_last _ c.requires.may.0 (Foreign c.args.signed) c.requires.may.1.1).text

pub add_foreign-requires-clause-fits : goal.add_foreign-requires-clause-fits
add_foreign-requires-clause-fits g c = fits_behind _ c.requires.may.0 (Foreign c.args.signed) _ _ c.requires.may.1.1 refl c.requires.may.1.0.state.accepted

pub add_foreign-requires-clause-few_accepted : goal.add_foreign-requires-clause-few_accepted
add_foreign-requires-clause-few_accepted g c = few_updates _ c.requires.may.0 (Foreign c.args.signed) _ c.requires.may.1.1 c.requires.may.1.0.state.accepted

pub add_foreign-requires-clause-few_foreign : goal.add_foreign-requires-clause-few_foreign
add_foreign-requires-clause-few_foreign g c = few_statements _ c.requires.may.0 (Foreign c.args.signed) _ c.requires.may.1.1 c.requires.may.1.0.state.foreign

pub returns-in_err-add_foreign-clause-err : goal.returns-in_err-add_foreign-clause-err
returns-in_err-add_foreign-clause-err g c = on_err_from _ (still_keeps g.S.Scheme.verifies _ _ _ _ _ c.in_err-add_foreign.ensures.stays (same_state _ _ c.in_err-add_foreign.ensures.err) (λ h. refl))

pub returns-clause-ok : goal.returns-clause-ok
returns-clause-ok g c = λ J k l.
    taken_kept g.S.Scheme.verifies J c.args.signed _ _ _ _ _ l (c.totals_with-totals.ensures J k) c.in_ok-add_foreign.ensures.stays (c.in_ok-add_foreign.ensures.ok J k.state) k
