use Rattle.std.proofs.Common.{◌≡◌, ◌+◌}
use Rattle.depot_tests_orders.proofs.long_chains.ask.Given as goal

abbrev pub invariant-loop-asked : goal.invariant-loop-asked
invariant-loop-asked g l = l.steps ≡ l.initial.steps + l.asked
