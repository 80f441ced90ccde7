use Rattle.std.proofs.Common.{Bool, List, [], map, get_or}
use Rattle.depot_search.proofs.Tests.{map_ends}
use Rattle.depot_search.specs.Rows.{over}
use Rattle.depot_search.proofs.table.over_write.Goals as goal

pub returns : goal.returns
returns c = map_ends (λ r. r.items) (λ (row : List Bool). over row (get_or (map (λ q. q.items) c.args.table.now) c.args.at []) c.args.at) c.loop-row.row-index c.args.table.now _ c.loop-row-test.false c.loop-row.invariant
