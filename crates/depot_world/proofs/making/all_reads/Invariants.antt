use Rattle.std.proofs.Common.{◌≡◌}
use Rattle.depot_world.specs.Loads.{read, steps}
use Rattle.depot_world.proofs.making.all_reads.Given as goal

abbrev pub invariant-loop-i : goal.invariant-loop-i
invariant-loop-i l = l.draft ≡ steps read l.i l.initial.draft
