use Rattle.depot_graph.specs.Kept.{updates_in}
use Rattle.depot_trim.proofs.KnownLeaves.{found_is, lost_is}
use Rattle.depot_trim.proofs.opening.is_unknown.Goals as goal

pub returns-in-Some : goal.returns-in-Some
returns-in-Some c = found_is (updates_in c.args.graph.now.items.entries) c.args.leaf.now c.in-Some.item c.update.result.now c.ne.result c.in-Some.ensures c.update.ensures c.ne.ensures

pub returns-in-None : goal.returns-in-None
returns-in-None c = lost_is (updates_in c.args.graph.now.items.entries) c.args.leaf.now c.in-None.ensures
