use Rattle.std.proofs.Common.{take, sym, ap, ◌∙◌}
use Rattle.depot_graph.specs.Kept.{updates_in}
use Rattle.depot_gossip.proofs.FarPlaces.{far_nil, far_step}
use Rattle.depot_gossip.proofs.far.far_items.Goals as goal

pub loop-leaf-init : goal.loop-leaf-init
loop-leaf-init c = ap (take c.args.most) (c.new-items.ensures.items ∙ sym (far_nil (updates_in c.args.graph.now.items.entries)))

pub loop-leaf-preserved : goal.loop-leaf-preserved
loop-leaf-preserved c =
    far_step (updates_in c.args.graph.now.items.entries) c.args.most c.args.leaves.now c.loop-leaf.leaf-index c.leaf-item.result c.loop-leaf.items.items c.add_far_of.new.items.items c.loop-leaf-test.true c.leaf-item.is c.loop-leaf.invariant c.in_ok-add_far_of.ensures
