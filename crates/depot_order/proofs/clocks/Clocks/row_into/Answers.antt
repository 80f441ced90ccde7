use Rattle.std.proofs.Common.{List, get_or, subst}
use Rattle.depot_order.specs.ChainItems.{ChainItem}
use Rattle.depot_order.specs.KeptRows.{KeepsItems}
use Rattle.depot_order.proofs.HowMany.{count_is_how_many}
use Rattle.depot_order.proofs.clocks.Clocks.row_into.Goals as goal

pub returns-clause-many : goal.returns-clause-many
returns-clause-many c = λ chain low.
    let keeps = subst (λ (l : List ChainItem). KeepsItems l c.self.inside.kept.items c.self.inside.chains) c.self.view_is c.self.invariant.0 in
    count_is_how_many c.args.self.now chain c.args.item (get_or c.fill_row.new.row chain 0) keeps.chained (c.fill_row.ensures chain low)
