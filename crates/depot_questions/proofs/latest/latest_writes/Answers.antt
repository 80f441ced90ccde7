use Rattle.std.proofs.Common.{get_or, refl}
use Rattle.depot_graph.specs.Kept.{updates_in}
use Rattle.depot_questions.proofs.ToldLatest.{all_told, id_is, one_write}
use Rattle.depot_questions.proofs.latest.latest_writes.Goals as goal

pub add_write-requires-clause-id : goal.add_write-requires-clause-id
add_write-requires-clause-id g c = id_is (updates_in c.graph-graph.result.now.items.entries) (get_or c.latest-item-items.result.now c.loop-item.item-index 0) c.id.result.now c.update.result.now c.id.ensures c.update.ensures

pub loop-item-preserved : goal.loop-item-preserved
loop-item-preserved g c =
    one_write (g.N.NodeState.records c.args.node.now) (updates_in c.graph-graph.result.now.items.entries) c.args.key.now c.latest-item-items.result.now c.loop-item.item-index _ c.update.result.now c.loop-item.list c.add_write.new.list c.loop-item-test.true refl c.update.ensures c.loop-item.invariant c.in_ok-add_write.ensures

pub returns : goal.returns
returns g c =
    all_told (g.N.NodeState.stands c.args.node.now) (g.N.NodeState.records c.args.node.now) (updates_in c.graph-graph.result.now.items.entries) c.args.key.now c.latest-item-items.result.now c.loop-item.item-index c.loop-item.list (g.met.N.Replica.lawful c.args.node.now) c.graph-graph.ensures c.latest-item-items.ensures.latest c.loop-item-test.false c.loop-item.invariant
