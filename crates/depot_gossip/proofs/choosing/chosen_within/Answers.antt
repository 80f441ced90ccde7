use Rattle.depot_gossip.proofs.WithinLaws.{is_within}
use Rattle.depot_gossip.proofs.choosing.chosen_within.Goals as goal

pub choose_for-requires-clause-none : goal.choose_for-requires-clause-none
choose_for-requires-clause-none g c = c.new-choice.ensures (g.N.NodeState.stands c.args.node.now).me (g.N.NodeState.records c.args.node.now) c.of-room.result

pub returns : goal.returns
returns g c = is_within (g.N.NodeState.stands c.args.node.now) (g.N.NodeState.signature_of c.args.node.now) (g.N.NodeState.records c.args.node.now) c.args.hello.now c.args.bounds.now c.choose_for.new.choice c.in_ok-all.all (rw c.of-room.ensures at c.in_ok-all.ensures)
