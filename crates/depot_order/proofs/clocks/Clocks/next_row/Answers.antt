use Rattle.std.proofs.Common.{◌<◌, arith}
use Rattle.depot_order.specs.ChainItems.{ChainItem}
use Rattle.depot_order.proofs.ChainCounts.{goes_on}
use Rattle.depot_order.proofs.RowMaking.{next_row_made}
use Rattle.depot_order.proofs.clocks.Clocks.next_row.Goals as goal

pub put_own-requires-clause-chain : goal.put_own-requires-clause-chain
put_own-requires-clause-chain c = λ not_first.
    let x : ChainItem = record { chain = c.args.chain; place = c.args.place; parents = c.args.parents.now } in
    let later : 0 < c.args.place = omega arith in
    let low = goes_on c.args.self.now x c.in_ok-row.ensures.chained c.requires.next later in
    omega (arith, low, c.in_ok-row.ensures.joined.long)

pub returns-clause-row : goal.returns-clause-row
returns-clause-row c =
    let x : ChainItem = record { chain = c.args.chain; place = c.args.place; parents = c.args.parents.now } in
    rw c.in_ok-put_own.ensures (next_row_made c.args.self.now x c.in_ok-row.row.items c.in_ok-row.ensures.chained c.requires.next c.in_ok-row.ensures.joined)
