use Rattle.std.proofs.Common.{◌≡◌}
use Rattle.depot_world.specs.Loads.{greet, steps}
use Rattle.depot_world.proofs.making.all_hellos.Given as goal

abbrev pub invariant-loop-i : goal.invariant-loop-i
invariant-loop-i l = l.draft ≡ steps greet l.i l.initial.draft
