use Rattle.depot_graph.proofs.Reaching.{closure_precedes, precedes_closure}
use Rattle.depot_graph.proofs.history_laws.closure_is_what_precedes.Goals as goal

pub returns : goal.returns
returns c = λ us places t causal. (closure_precedes us places t causal, precedes_closure us places t causal)
