use Rattle.std.proofs.Common.{map, take}
use Rattle.depot_world.specs.Setups.{setup_of}
use Rattle.depot_simulation.specs.Acting.{AreHosted}
use Rattle.depot_simulation.specs.Playing.{participant_by}
use Rattle.depot_simulation.proofs.BegunRuns.{hosts_of}
use Rattle.depot_simulation.proofs.playing.begun.Given as goal

abbrev pub invariant-loop-place : goal.invariant-loop-place
invariant-loop-place g l = AreHosted (setup_of l.schedule) (hosts_of (setup_of l.schedule) (take l.place l.scenario.members.now)) (map (participant_by g.A.Actor.view) l.participants.items)
