use Rattle.std.proofs.Common.{◌≡◌, ◌∙◌, ℕ, List, length, take, subst, sym, ap}
use Rattle.depot_order.specs.Lanes.{all_leq}
use Rattle.depot_order.specs.ChainItems.{ChainItem}
use Rattle.depot_order.specs.declared.row.RowEntry.{RowEntry}
use Rattle.depot_order.specs.KeptRows.{AreEntriesWithin, KeepsItems}
use Rattle.depot_order.proofs.KeptCounts.{row_of, within_whole, within_behind, not_within}
use Rattle.depot_order.proofs.clocks.Clocks.+is_counted.Goals as goal

pub returns-in-Whole : goal.returns-in-Whole
returns-in-Whole t c =
    let keeps = subst (λ (l : List ChainItem). KeepsItems l c.self.inside.kept.items c.self.inside.chains) c.self.view_is c.self.invariant.0 in
    let row = row_of c.args.self.now c.self.inside.kept.items c.self.inside.chains c.args.item c.index.result.now _ keeps c.requires.item c.index.ensures c.in-Whole.is in
    let items = c.in-Whole.entries.items in
    let len_is : c.len.result ≡ length items = c.len.ensures ∙ (sym c.as_slice.ensures.len ∙ ap (λ (l : List ℕ). length l) c.as_slice.ensures.value) in
    let is = c.all_leq.ensures ∙ (ap (λ (l : List ℕ). all_leq l (take c.len.result c.args.row.now)) c.as_slice.ensures.value ∙ ap (λ (n : ℕ). all_leq items (take n c.args.row.now)) len_is) in
    within_whole c.args.self.now c.args.item items c.args.row.now c.all_leq.result keeps.chained row c.requires.row is

pub returns-then-are_within : goal.returns-then-are_within
returns-then-are_within t c =
    let keeps = subst (λ (l : List ChainItem). KeepsItems l c.self.inside.kept.items c.self.inside.chains) c.self.view_is c.self.invariant.0 in
    let row = row_of c.args.self.now c.self.inside.kept.items c.self.inside.chains c.args.item c.index.result.now _ keeps c.requires.item c.index.ensures c.in-Changed.is in
    let within = subst (λ (es : List RowEntry). AreEntriesWithin es c.args.row.now) c.as_slice-in-Changed.ensures.value (c.are_within.ensures.0 c.if-are_within.true) in
    within_behind c.args.self.now c.args.item c.in-Changed.behind c.in-Changed.entries.items c.args.row.now c.is_counted.result keeps.chained row within c.is_counted.ensures

pub returns-else-are_within : goal.returns-else-are_within
returns-else-are_within t c =
    let keeps = subst (λ (l : List ChainItem). KeepsItems l c.self.inside.kept.items c.self.inside.chains) c.self.view_is c.self.invariant.0 in
    let row = row_of c.args.self.now c.self.inside.kept.items c.self.inside.chains c.args.item c.index.result.now _ keeps c.requires.item c.index.ensures c.in-Changed.is in
    not_within c.args.self.now c.args.item c.in-Changed.behind c.in-Changed.entries.items c.args.row.now c.are_within.result keeps.chained row
    (λ within. c.are_within.ensures.1 (subst (λ (es : List RowEntry). AreEntriesWithin es c.args.row.now) (sym c.as_slice-in-Changed.ensures.value) within)) c.if-are_within.false
