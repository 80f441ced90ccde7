use Rattle.std.proofs.Common.{◌≡◌}
use Rattle.depot_world.specs.Loads.{exchange, steps}
use Rattle.depot_world.proofs.making.all_exchanges.Given as goal

abbrev pub invariant-loop-j : goal.invariant-loop-j
invariant-loop-j l = l.draft ≡ steps exchange l.j l.initial.draft
