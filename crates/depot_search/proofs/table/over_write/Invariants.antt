use Rattle.std.proofs.Common.{◌≡◌, [], map, take, get_or}
use Rattle.depot_search.specs.Rows.{over}
use Rattle.depot_search.proofs.table.over_write.Given as goal

abbrev pub invariant-loop-row : goal.invariant-loop-row
invariant-loop-row l = map (λ r. r.items) l.made.items ≡ map (λ r. over r.items (get_or (map (λ q. q.items) l.table) l.at []) l.at) (take l.row-index l.table)
