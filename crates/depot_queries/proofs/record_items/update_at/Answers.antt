use Rattle.std.proofs.Common.{sym, ◌∙◌}
use Rattle.depot_graph.specs.Kept.{updates_in}
use Rattle.depot_queries.proofs.RecordItems.{item_within, item_update}
use Rattle.depot_queries.proofs.record_items.update_at.Goals as goal

pub update-requires : goal.update-requires
update-requires g c = item_within c.args.readings.now.records (updates_in c.graph.result.now.items.entries) c.args.place c.in-Some.item c.item_at.result (c.state.ensures.state.accepted ∙ sym c.graph.ensures) c.item_at.ensures c.in-Some.is

pub returns-in-Some : goal.returns-in-Some
returns-in-Some g c =
    item_update c.args.readings.now.records (updates_in c.graph.result.now.items.entries) c.args.place c.in-Some.item c.item_at.result c.update.result.now (c.state.ensures.state.accepted ∙ sym c.graph.ensures) c.item_at.ensures c.in-Some.is c.update.ensures
