use Rattle.std.proofs.Common.{◌≤◌, ◌-◌, length}
use Rattle.depot_order.specs.KeptRows.{AreAbove}
use Rattle.depot_order.proofs.row.entries_above.Given as goal

abbrev pub invariant-loop-chain : goal.invariant-loop-chain
invariant-loop-chain l = record {
  inside : l.at ≤ length l.row;
  above : AreAbove l.row l.before l.at l.entries.items;
}

abbrev pub decreases-loop-chain : goal.decreases-loop-chain
decreases-loop-chain l = length l.row - l.at
