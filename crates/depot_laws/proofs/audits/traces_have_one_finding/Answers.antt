use Rattle.depot_laws.proofs.of_audits.OneFinding.{one_finding}
use Rattle.depot_laws.proofs.audits.traces_have_one_finding.Goals as goal

pub returns : goal.returns
returns c verifies listed traces f g one two = one_finding verifies listed traces f g one two
