use Rattle.std.proofs.Common.{Bool, List}
use Rattle.depot_search.proofs.Tests.{map_ends}
use Rattle.depot_search.specs.Rows.{is_met}
use Rattle.depot_search.proofs.rows.reached.Goals as goal

pub returns : goal.returns
returns c = map_ends (λ r. r.items) (λ (row : List Bool). is_met row c.args.set.now) c.loop-r.r-index c.args.table.now c.loop-r.row.items c.loop-r-test.false c.loop-r.invariant
