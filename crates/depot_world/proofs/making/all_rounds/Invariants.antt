use Rattle.std.proofs.Common.{◌≡◌, ◌≤◌}
use Rattle.depot_world.specs.Loads.{begun, round, steps}
use Rattle.depot_world.proofs.making.all_rounds.Given as goal

abbrev pub invariant-loop-t : goal.invariant-loop-t
invariant-loop-t l = record { so_far : l.draft ≡ steps round l.t (begun l.number); few : l.draft.updates ≤ l.t }
