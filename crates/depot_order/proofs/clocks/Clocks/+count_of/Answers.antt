use Rattle.std.proofs.Common.{List, sym, subst}
use Rattle.depot_order.specs.ChainItems.{ChainItem}
use Rattle.depot_order.specs.declared.row.RowEntry.{RowEntry}
use Rattle.depot_order.specs.KeptRows.{HasEntry, HasCount, KeepsItems}
use Rattle.depot_order.proofs.KeptCounts.{row_of, count_by_entry, count_from_behind}
use Rattle.depot_order.proofs.clocks.Clocks.+count_of.Goals as goal

pub returns-in-Some : goal.returns-in-Some
returns-in-Some t c =
    let keeps = subst (λ (l : List ChainItem). KeepsItems l c.self.inside.kept.items c.self.inside.chains) c.self.view_is c.self.invariant.0 in
    let row = row_of c.args.self.now c.self.inside.kept.items c.self.inside.chains c.args.item c.index.result.now _ keeps c.requires c.index.ensures c.in-Changed.is in
    count_by_entry c.args.self.now c.args.item c.in-Changed.behind c.in-Changed.entries.items c.args.chain c.in-Some.count row
    (subst (λ (es : List RowEntry). HasCount es c.args.chain c.in-Some.count) c.as_slice-in-Changed.ensures.value c.in-Some.ensures.some)

pub returns-in-None : goal.returns-in-None
returns-in-None t c =
    let keeps = subst (λ (l : List ChainItem). KeepsItems l c.self.inside.kept.items c.self.inside.chains) c.self.view_is c.self.invariant.0 in
    let row = row_of c.args.self.now c.self.inside.kept.items c.self.inside.chains c.args.item c.index.result.now _ keeps c.requires c.index.ensures c.in-Changed.is in
    count_from_behind c.args.self.now c.args.item c.in-Changed.behind c.in-Changed.entries.items c.args.chain c.count_of.result keeps.chained row
    (λ has. c.in-None.ensures.none (subst (λ (es : List RowEntry). HasEntry es c.args.chain) (sym c.as_slice-in-Changed.ensures.value) has)) c.count_of.ensures
