use Rattle.std.proofs.Common.{sym}
use Rattle.depot_graph.specs.Kept.{updates_in}
use Rattle.depot_gossip.proofs.FarPlaces.{put_none, put_step}
use Rattle.depot_gossip.proofs.far.put_items.Goals as goal

pub loop-item-init : goal.loop-item-init
loop-item-init c = sym (put_none c.args.leaves.now.items)

pub loop-item-preserved : goal.loop-item-preserved
loop-item-preserved c =
    put_step (updates_in c.args.graph.now.items.entries) c.args.items.now c.loop-item.item-index c.update.result.now c.id.result.now c.args.leaves.now.items c.loop-item.leaves.items c.put_leaf.new.leaves.items c.loop-item-test.true
    c.update.ensures c.id.ensures c.loop-item.invariant c.in_ok-put_leaf.ensures
