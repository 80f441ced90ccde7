use Rattle.depot_world.proofs.AuditedRuns.{run_is_audited}
use Rattle.depot_world.proofs.world_laws.audits_of_runs.Goals as goal

pub returns : goal.returns
returns c setup run found world is = run_is_audited setup run found world is
