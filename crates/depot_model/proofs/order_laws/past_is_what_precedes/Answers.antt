use Rattle.depot_model.proofs.of_updates.Pasts.{past_of_listed, past_of_next}
use Rattle.depot_model.proofs.order_laws.past_is_what_precedes.Goals as goal

pub returns-clause-listed : goal.returns-clause-listed
returns-clause-listed c us u t causal on = past_of_listed us u t causal on

pub returns-clause-next : goal.returns-clause-next
returns-clause-next c us u t causal = past_of_next us u t causal
