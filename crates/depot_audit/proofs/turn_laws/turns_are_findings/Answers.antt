use Rattle.depot_audit.proofs.TracedNodes.{makes_world, turn_is_finding}
use Rattle.depot_audit.proofs.turn_laws.turns_are_findings.Goals as goal

pub returns-clause-found : goal.returns-clause-found
returns-clause-found c = turn_is_finding

pub returns-clause-world : goal.returns-clause-world
returns-clause-world c = makes_world
