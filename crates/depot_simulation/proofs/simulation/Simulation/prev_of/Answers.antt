use Rattle.std.proofs.Common.{List, ℕ, Some, sym, ap, ◌∙◌}
use Rattle.std.proofs.lemmas.Result.{IfOk-weaker}
use Rattle.depot_world.specs.FaultySigning.{prev_of_ref}
use Rattle.depot_simulation.proofs.simulation.Simulation.prev_of.Goals as goal

pub returns-in-Some : goal.returns-in-Some
returns-in-Some g c = IfOk-weaker c.update_id.result _ _ (λ id made setup run at. made setup run at ∙ ap (prev_of_ref run) (sym c.in-Some.is)) c.update_id.ensures

pub returns-in-None : goal.returns-in-None
returns-in-None g c = λ setup run at. ap (λ (id : List ℕ). Some id) c.zeros.ensures ∙ ap (prev_of_ref run) (sym c.in-None.is)
