use Rattle.std.proofs.Common.{Some, None}
use Rattle.depot_laws.proofs.records.HeldByHash.{held_by_hash}
use Rattle.depot_queries.proofs.due.holds.Goals as goal

pub returns-in-Some : goal.returns-in-Some
returns-in-Some g c = held_by_hash (g.P.NodeState.records c.args.node.now) c.args.name.now.hash c.args.name.now.size (Some c.in-Some.value.now) c.in-Some.ensures

pub returns-in-None : goal.returns-in-None
returns-in-None g c = held_by_hash (g.P.NodeState.records c.args.node.now) c.args.name.now.hash c.args.name.now.size None c.in-None.ensures
