use Rattle.depot_laws.proofs.of_audits.TracedWorlds.{traced_is_world}
use Rattle.depot_laws.proofs.of_audits.YesOfTraces.{yes_to, yes_from}
use Rattle.depot_laws.proofs.audits.traces_get_yes.Goals as goal

pub returns-clause-world : goal.returns-clause-world
returns-clause-world c verifies listed traces W are a = traced_is_world verifies listed traces W are.distinct are.members are.some a

pub returns-clause-yes : goal.returns-clause-yes
returns-clause-yes c verifies listed traces are = (λ f. yes_to verifies listed traces are.distinct are.members are.some f, λ w. yes_from verifies listed traces are.distinct are.members are.some w)
