use Rattle.depot_base.specs.declared.record.Record.TheVariants.{Conviction}
use Rattle.depot_gossip.proofs.ChoiceLaws.{read_at}
use Rattle.depot_gossip.proofs.FrontLaws.{rest_is_proof, some_text}
use Rattle.depot_gossip.proofs.front.proof_text.Goals as goal

pub returns-in_default : goal.returns-in_default
returns-in_default g c = λ p at.
    let read = read_at (g.R.NodeState.stands c.args.node.now) (g.R.NodeState.records c.args.node.now) c.args.place (Conviction p) c.record_text-text.result.now (g.met.R.Replica.lawful c.args.node.now) at c.record_text-text.ensures in
    absurd (some_text p c.record_text-text.result.now read.is c.in_default.len_below)

pub returns : goal.returns
returns g c = λ p at.
    let read = read_at (g.R.NodeState.stands c.args.node.now) (g.R.NodeState.records c.args.node.now) c.args.place (Conviction p) c.record_text-text.result.now (g.met.R.Replica.lawful c.args.node.now) at c.record_text-text.ensures in
    rest_is_proof p c.record_text-text.result.now read.is
