use Rattle.depot_world.specs.Run.{referred}
use Rattle.depot_simulation.proofs.simulation.Simulation.referred.Goals as goal

pub returns-in-Label : goal.returns-in-Label
unfolding referred
returns-in-Label g c = λ setup run at. rw c.in-Label.is (c.update.ensures run.labels at.labels_are)

pub returns-in-Own : goal.returns-in-Own
unfolding referred
returns-in-Own g c = λ setup run at. rw c.in-Own.is (c.own_update.ensures setup run at)
