use Rattle.depot_graph.proofs.KinLaws.{id_at}
use Rattle.depot_graph.proofs.graph.GraphPast.id.Goals as goal

pub returns : goal.returns
returns c = id_at c.args.self.now.items.entries c.args.item c.item_at.result.0.now c.item_at.result.1.now c.args.self.now.ids c.item_at.ensures
