use Rattle.std.proofs.lemmas.Result.{IfOk-weaker}
use Rattle.depot_simulation.proofs.LabelledUpdates.{id_of_plain, id_of_named}
use Rattle.depot_simulation.proofs.simulation.Simulation.id_referred.Goals as goal

pub returns-in-Some : goal.returns-in-Some
returns-in-Some g c = λ setup run at. id_of_plain run c.args.r.now c.in-Some.bytes.now c.hash_of.result (c.in-Some.ensures setup run at) c.hash_of.ensures

pub returns-in-None : goal.returns-in-None
returns-in-None g c = IfOk-weaker c.update_id.result _ _ (λ id made setup run at. id_of_named run c.args.r.now id (c.in-None.ensures setup run at) (made setup run at)) c.update_id.ensures
