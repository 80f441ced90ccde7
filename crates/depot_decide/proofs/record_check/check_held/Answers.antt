use Rattle.depot_readings.specs.ReadingsView.{standing}
use Rattle.depot_decide.proofs.RecordChecks.{checked_value}
use Rattle.depot_decide.proofs.record_check.check_held.Goals as goal

pub returns-clause-checked : goal.returns-clause-checked
returns-clause-checked g c =
    checked_value (standing g.S.Scheme.verifies c.args.readings.now) c.args.readings.now.records c.args.value c.bytes.result.now c.in_ok-decision.decision.answer c.in_ok-decision.decision.growth c.fit_of_new.result
    c.requires.place c.bytes.ensures.same c.in_ok-decision.ensures.decided c.fit_of_new.ensures.taken
