use Rattle.std.proofs.Common.{sym, refl}
use Rattle.depot_decide.proofs.RecordChecks.{takes_new, takes_none}
use Rattle.depot_decide.proofs.record_check.fit_of_new.Goals as goal

pub returns-in-None-clause-taken : goal.returns-in-None-clause-taken
returns-in-None-clause-taken c = takes_new c.args.decision.answer c.args.decision.growth (record { growth = c.args.decision.growth; parents = c.args.decision.parents }) (sym c.in-None.ensures) refl

pub returns-in-Some-clause-taken : goal.returns-in-Some-clause-taken
returns-in-Some-clause-taken c = takes_none c.args.decision.answer c.args.decision.growth c.in-Some.fault (sym c.in-Some.ensures)
