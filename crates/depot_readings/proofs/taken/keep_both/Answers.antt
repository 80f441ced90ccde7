use Rattle.std.proofs.Common.{[], ◌∷◌, ◌++◌, sym}
use Rattle.depot_base.specs.declared.record.Record.TheVariants.{Foreign}
use Rattle.depot_readings.proofs.TakenLaws.{both_taken}
use Rattle.depot_readings.proofs.taken.keep_both.Goals as goal

pub returns-clause-ok : goal.returns-clause-ok
returns-clause-ok g c = λ J is.
    both_taken J c.args.proof.now c.args.signed _ (c.convict.ensures.convicted (J ++ Foreign c.args.signed ∷ []) c.args.proof.now (sym c.accused.ensures) (c.in_ok-add_foreign.ensures.ok J is))
