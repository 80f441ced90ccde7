use Rattle.std.proofs.Common.{arith, get_or, refl}
use Rattle.depot_order.specs.declared.row.RowEntry.{RowEntry}
use Rattle.depot_order.proofs.EntryLaws.{above_more}
use Rattle.depot_order.proofs.row.entries_above.Goals as goal

pub loop-chain-preserved : goal.loop-chain-preserved
loop-chain-preserved c =
    let place = c.in-Some.ensures.some in
    let entry : RowEntry = record { chain = c.in-Some.chain; count = get_or c.args.row.now c.in-Some.chain 0 } in
    record {
      inside = omega (arith, place.inside);
      above = rw c.in_ok-push.ensures.items (above_more c.args.row.now c.args.before.now c.loop-chain.entries.items c.loop-chain.at entry c.loop-chain.invariant.above place refl);
    }
