use Rattle.std.proofs.Common.{◌≡◌, ◌≤◌, length, map}
use Rattle.depot_search.specs.Rows.{over_each}
use Rattle.depot_search.proofs.table.close.Given as goal

abbrev pub invariant-loop-at : goal.invariant-loop-at
invariant-loop-at l = record {
  left : over_each (map (λ r. r.items) l.table.items) l.at ≡ over_each (map (λ r. r.items) l.fn.table.items) (length l.fn.table.items);
  within : l.at ≤ length l.table.items;
}

abbrev pub decreases-loop-at : goal.decreases-loop-at
decreases-loop-at l = l.at
