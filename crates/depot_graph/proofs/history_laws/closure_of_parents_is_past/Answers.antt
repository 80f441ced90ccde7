use Rattle.std.proofs.Common.{◌∙◌, ap, sym, List, ℕ}
use Rattle.depot_graph.specs.Closure.{closure_of, reached}
use Rattle.depot_graph.proofs.Reaching.{past_is_reached}
use Rattle.depot_graph.proofs.history_laws.closure_of_parents_is_past.Goals as goal

pub returns : goal.returns
unfolding closure_of
returns c = λ us u places named. ap (λ (ids : List (List ℕ)). reached ids us) named ∙ sym (past_is_reached u us)
