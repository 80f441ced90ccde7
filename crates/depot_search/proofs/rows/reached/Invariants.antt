use Rattle.std.proofs.Common.{◌≡◌, map, take}
use Rattle.depot_search.specs.Rows.{is_met}
use Rattle.depot_search.proofs.rows.reached.Given as goal

abbrev pub invariant-loop-r : goal.invariant-loop-r
invariant-loop-r l = l.row.items ≡ map (λ r. is_met r.items l.set) (take l.r-index l.table)
