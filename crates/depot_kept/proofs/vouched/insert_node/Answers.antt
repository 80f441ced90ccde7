use Rattle.depot_kept.proofs.ConvictedNodes.{node_last, where_ok}
use Rattle.depot_kept.proofs.vouched.insert_node.Goals as goal

pub returns-clause-last : goal.returns-clause-last
returns-clause-last c = node_last _ c.args.node _ c.requires.new (where_ok _ c.insert.result (c.insert.ensures.succeeds c.requires.room) c.insert.ensures.keys)
