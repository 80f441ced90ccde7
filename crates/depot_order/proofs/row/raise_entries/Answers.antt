use Rattle.std.proofs.Common.{arith, get_or}
use Rattle.std.proofs.lemmas.Option.{slice_get-get_or}
use Rattle.depot_order.proofs.EntryLaws.{raised_more, raised_all}
use Rattle.depot_order.proofs.row.raise_entries.Goals as goal

pub loop-entry-preserved : goal.loop-entry-preserved
loop-entry-preserved c =
    let entries = c.args.entries.now in
    let i = c.loop-entry.entry-index in
    let e = get_or entries i (record { chain = 0; count = 0 }) in
    let at = slice_get-get_or entries i (record { chain = 0; count = 0 }) c.loop-entry-test.true in
    rw c.max.ensures (raised_more entries i c.args.row.now c.loop-entry.row e c.loop-entry.invariant at (omega (arith, c.requires i e at, c.loop-entry.auto.row)))

pub returns : goal.returns
returns c = raised_all c.args.entries.now c.loop-entry.entry-index c.args.row.now c.loop-entry.row c.loop-entry.invariant (omega (arith, c.loop-entry-test.false))
