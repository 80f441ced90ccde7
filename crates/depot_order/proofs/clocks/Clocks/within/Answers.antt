use Rattle.std.proofs.Common.{List, subst}
use Rattle.depot_order.specs.ChainItems.{ChainItem}
use Rattle.depot_order.specs.KeptRows.{KeepsItems}
use Rattle.depot_order.proofs.KeptCounts.{within_by_entries}
use Rattle.depot_order.proofs.clocks.Clocks.within.Goals as goal

pub returns-clause-rows : goal.returns-clause-rows
returns-clause-rows c =
    let keeps = subst (λ (l : List ChainItem). KeepsItems l c.self.inside.kept.items c.self.inside.chains) c.self.view_is c.self.invariant.0 in
    within_by_entries c.args.self.now c.self.inside.kept.items c.self.inside.chains c.args.item c.args.row.now c.is_counted.result keeps c.requires.item c.is_counted.ensures
