use Rattle.std.proofs.Common.{List, ℕ, Some, option_map, ap, ◌∙◌}
use Rattle.depot_model.specs.texts.Texts.{id_of_update}
use Rattle.depot_simulation.proofs.LabelledUpdates.{fits_here}
use Rattle.depot_simulation.proofs.simulation.Simulation.update_id.Goals as goal

pub id_of-requires : goal.id_of-requires
id_of-requires g c = fits_here g.A.Actor.view g.A.Reader.Reading.reads c.args.self.now g.met.A.Actor.lawful c.requires c.args.r.now c.in-Some.update.now c.in-Some.ensures

pub returns-in_default : goal.returns-in_default
returns-in_default g c = λ setup run at. ap (option_map id_of_update) (c.in_default.ensures setup run at)

pub returns : goal.returns
returns g c = λ setup run at. ap (λ (id : List ℕ). Some id) c.in_ok-id_of.ensures ∙ ap (option_map id_of_update) (c.in-Some.ensures setup run at)
