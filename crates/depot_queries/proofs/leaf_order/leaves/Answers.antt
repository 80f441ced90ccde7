use Rattle.depot_queries.proofs.LeafInserts.{told_names}
use Rattle.depot_queries.proofs.leaf_order.leaves.Goals as goal

pub returns : goal.returns
returns g c = told_names c.args.readings.now.records c.in_ok-leaves.leaves.keys c.names_of.result c.in_ok-leaves.ensures c.names_of.ensures
