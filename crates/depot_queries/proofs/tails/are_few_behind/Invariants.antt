use Rattle.std.proofs.Common.{◌≤◌}
use Rattle.depot_queries.proofs.tails.are_few_behind.Given as goal

abbrev pub invariant-loop-chain : goal.invariant-loop-chain
invariant-loop-chain l = 0 ≤ l.left
