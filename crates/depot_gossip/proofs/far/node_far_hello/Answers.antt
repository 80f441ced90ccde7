use Rattle.depot_graph.specs.Kept.{updates_in}
use Rattle.depot_gossip.proofs.FarPlaces.{far_is}
use Rattle.depot_gossip.proofs.far.node_far_hello.Goals as goal

pub returns : goal.returns
returns g c =
    far_is (g.N.NodeState.stands c.args.node.now) (g.N.NodeState.records c.args.node.now) c.in_ok-me.field-0 (updates_in c.graph.result.now.items.entries) c.in_ok-leaves.leaves c.in_ok-me.ensures.told c.graph.ensures c.in_ok-leaves.ensures
