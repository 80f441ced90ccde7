use Rattle.std.proofs.Common.{List, subst, arith}
use Rattle.depot_order.specs.ChainItems.{ChainItem}
use Rattle.depot_order.specs.declared.row.RowEntry.{RowEntry}
use Rattle.depot_order.specs.KeptRows.{ArePut, KeepsItems}
use Rattle.depot_order.proofs.KeptCounts.{row_of, count_put}
use Rattle.depot_order.proofs.clocks.Clocks.+fill_row.Goals as goal

pub returns-in-Changed : goal.returns-in-Changed
returns-in-Changed t c = λ chain low.
    let keeps = subst (λ (l : List ChainItem). KeepsItems l c.self.inside.kept.items c.self.inside.chains) c.self.view_is c.self.invariant.0 in
    let row = row_of c.args.self.now c.self.inside.kept.items c.self.inside.chains c.args.item c.index.result.now _ keeps c.requires.item c.index.ensures c.in-Changed.is in
    let put = subst (λ (es : List RowEntry). ArePut es c.fill_row.new.row c.put_entries.new.row) c.as_slice-in-Changed.ensures.value c.put_entries.ensures in
    count_put c.args.self.now c.args.item c.in-Changed.behind c.in-Changed.entries.items c.fill_row.new.row c.put_entries.new.row chain keeps.chained row put (c.fill_row.ensures chain (omega arith))
