use Rattle.std.proofs.Common.{◌≡◌, drop, map}
use Rattle.depot_search.specs.Rows.{first_own}
use Rattle.depot_search.proofs.circles.first_own.Given as goal

abbrev pub invariant-loop-at : goal.invariant-loop-at
invariant-loop-at l = first_own l.at (map (λ r. r.items) (drop l.at l.table)) ≡ first_own 0 (map (λ r. r.items) l.table)
