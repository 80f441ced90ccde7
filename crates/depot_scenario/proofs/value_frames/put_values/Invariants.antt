use Rattle.std.proofs.Common.{◌≡◌, ◌++◌, take}
use Rattle.depot_model.specs.checks.Own.{values_of}
use Rattle.depot_world.specs.FaultySigning.{text_of_values}
use Rattle.depot_scenario.proofs.value_frames.put_values.Given as goal

abbrev pub invariant-loop-place : goal.invariant-loop-place
invariant-loop-place l = l.out ≡ l.initial.out ++ text_of_values (values_of (take l.place l.changes))
