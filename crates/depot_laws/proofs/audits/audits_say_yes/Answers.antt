use Rattle.depot_laws.proofs.of_audits.AuditLaws.{says_yes, yes_is_causal}
use Rattle.depot_laws.proofs.audits.audits_say_yes.Goals as goal

pub returns : goal.returns
returns x W world none = (λ e. yes_is_causal W world none e, λ both. says_yes W world both.0 both.1)
