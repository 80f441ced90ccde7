use Rattle.std.proofs.Common.{refl}
use Rattle.depot_simulation.proofs.simulation.Simulation.plain_referred.Goals as goal

pub returns-in-Label : goal.returns-in-Label
returns-in-Label g c = λ setup run at. rw c.in-Label.is (c.plain.ensures run.labels at.labels_are)

pub returns-in-Own : goal.returns-in-Own
returns-in-Own g c = λ setup run at. rw c.in-Own.is refl
