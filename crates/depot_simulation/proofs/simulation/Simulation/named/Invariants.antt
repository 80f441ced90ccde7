use Rattle.std.proofs.Common.{take}
use Rattle.depot_world.specs.Run.{Run}
use Rattle.depot_world.specs.Setups.{Setup}
use Rattle.depot_simulation.specs.Playing.{IsSimulationAt}
use Rattle.depot_simulation.proofs.LabelledUpdates.{AreNamed}
use Rattle.depot_simulation.proofs.simulation.Simulation.named.Given as goal

abbrev pub invariant-loop-r : goal.invariant-loop-r
invariant-loop-r g l = (setup : Setup) (run : Run) → IsSimulationAt g.A.Actor.view g.A.Reader.Reading.reads setup run l.self → AreNamed run (take l.r-index l.refs) l.named
