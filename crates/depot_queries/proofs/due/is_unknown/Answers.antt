use Rattle.depot_graph.specs.Kept.{updates_in}
use Rattle.depot_queries.proofs.DueReceipts.{is_lost}
use Rattle.depot_queries.proofs.due.is_unknown.Goals as goal

pub returns : goal.returns
returns c = is_lost (updates_in c.args.graph.now.items.entries) c.args.id.now c.find.result c.is_none.result c.find.ensures c.is_none.ensures
