use Rattle.std.proofs.Common.{◌∙◌, ap}
use Rattle.std.specs.Ordering.{is_lt}
use Rattle.depot_graph.specs.Kept.{updates_in}
use Rattle.depot_graph.proofs.KinLaws.{key_is_id, update_at}
use Rattle.depot_graph.proofs.ListedUpdates.{listed_tells}
use Rattle.depot_graph.proofs.listed_order.OrderPrecedes.lists_first.Goals as goal

pub compare-requires-clause-id : goal.compare-requires-clause-id
compare-requires-clause-id c = let o = c.args.self.now in key_is_id o.items.now.entries c.args.a c.item_at.result.0.now c.item_at.result.1.now o.ids c.item_at.ensures

pub compare-requires-clause-other_id : goal.compare-requires-clause-other_id
compare-requires-clause-other_id c = let o = c.args.self.now in key_is_id o.items.now.entries c.args.b c.item_at-2.result.0.now c.item_at-2.result.1.now o.ids c.item_at-2.ensures

pub returns : goal.returns
returns c =
    let es = c.args.self.now.items.now.entries in
    listed_tells (updates_in es) c.args.a c.args.b c.item_at.result.1.now c.item_at-2.result.1.now c.is_lt.result
    (update_at es c.args.a c.item_at.result.0.now c.item_at.result.1.now c.item_at.ensures) (update_at es c.args.b c.item_at-2.result.0.now c.item_at-2.result.1.now c.item_at-2.ensures) (c.is_lt.ensures ∙ ap is_lt c.compare.ensures)
