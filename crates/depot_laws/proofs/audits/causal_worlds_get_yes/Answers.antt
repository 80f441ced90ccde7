use Rattle.depot_laws.proofs.of_audits.AuditLaws.{causal_yes}
use Rattle.depot_laws.proofs.audits.causal_worlds_get_yes.Goals as goal

pub returns : goal.returns
returns x W world authentic free = causal_yes W world authentic free
