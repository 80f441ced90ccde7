use Rattle.std.proofs.Common.{List, subst, arith}
use Rattle.depot_order.specs.ChainItems.{ChainItem}
use Rattle.depot_order.specs.declared.row.RowEntry.{RowEntry}
use Rattle.depot_order.specs.KeptRows.{AreRaised, KeepsItems}
use Rattle.depot_order.proofs.KeptCounts.{row_of, joined_changed}
use Rattle.depot_order.proofs.clocks.Clocks.+join_with.Goals as goal

pub returns-in-Changed : goal.returns-in-Changed
returns-in-Changed t c = λ chain low.
    let keeps = subst (λ (l : List ChainItem). KeepsItems l c.self.inside.kept.items c.self.inside.chains) c.self.view_is c.self.invariant.0 in
    let row = row_of c.args.self.now c.self.inside.kept.items c.self.inside.chains c.args.item c.index.result.now _ keeps c.requires.item c.index.ensures c.in-Changed.is in
    let raised = subst (λ (es : List RowEntry). AreRaised es c.join_with.new.row c.raise_entries.new.row) c.as_slice-in-Changed.ensures.value c.raise_entries.ensures in
    joined_changed c.args.self.now c.args.item c.in-Changed.behind c.in-Changed.entries.items c.args.row.now c.join_with.new.row c.raise_entries.new.row chain keeps.chained row (c.join_with.ensures chain (omega arith)) raised
