use Rattle.std.proofs.Common.{arith}
use Rattle.depot_base.specs.declared.tags.FrameTag.TheVariants as tag
use Rattle.depot_model.specs.checks.Taking.{as_proof, as_statement, as_value}
use Rattle.depot_streams.specs.NodeCalls.{frame_of}
use Rattle.depot_streams.proofs.GivenLaws.{proof_answers, statement_answers, value_answers}
use Rattle.depot_streams.proofs.FrameGrowth.{proof_brings, statement_brings, value_brings, given_call}
use Rattle.depot_streams.proofs.tally.give.Goals as goal

pub returns-in-Proof-clause-answers : goal.returns-in-Proof-clause-answers
returns-in-Proof-clause-answers g c =
    rw (c.in-Proof.is, c.as_feed_answer.ensures) (proof_answers (g.R.NodeState.stands c.args.node.now) (g.R.NodeState.records c.args.node.now) c.args.payload.now c.take_proof.result (g.R.NodeState.records c.take_proof.new.self) c.take_proof.ensures.takes)

pub returns-in-Statement-clause-answers : goal.returns-in-Statement-clause-answers
returns-in-Statement-clause-answers g c =
    rw (c.in-Statement.is, c.as_feed_answer-in-Statement.ensures) (statement_answers (g.R.NodeState.stands c.args.node.now) (g.R.NodeState.records c.args.node.now) c.args.payload.now c.take_statement.result (g.R.NodeState.records c.take_statement.new.self) c.take_statement.ensures.takes)

pub returns-in-Value-clause-answers : goal.returns-in-Value-clause-answers
returns-in-Value-clause-answers g c =
    rw (c.in-Value.is, c.as_feed_answer-in-Value.ensures) (value_answers (g.R.NodeState.stands c.args.node.now) (g.R.NodeState.records c.args.node.now) c.args.payload.now c.take_value.result (g.R.NodeState.records c.take_value.new.self) c.take_value.ensures.takes)

-- ---- what the node is left as

pub returns-in-Proof-clause-call : goal.returns-in-Proof-clause-call
returns-in-Proof-clause-call g c =
    let here = g.R.NodeState.stands c.args.node.now in
    let J = g.R.NodeState.records c.args.node.now in
    rw (c.in-Proof.is, c.as_feed_answer.ensures) (given_call g.R.NodeState (frame_of tag.Proof c.args.payload.now) c.args.node.now c.take_proof.new.self (omega arith) (g.met.R.Replica.lawful c.args.node.now) (g.met.R.Replica.some c.args.node.now) (λ i. omega (arith, c.type_inv.payload i))
    as_proof c.take_proof.result c.requires.running (proof_brings here J c.args.payload.now) (proof_answers here J c.args.payload.now c.take_proof.result (g.R.NodeState.records c.take_proof.new.self) c.take_proof.ensures.takes) c.take_proof.ensures.call)

pub returns-in-Statement-clause-call : goal.returns-in-Statement-clause-call
returns-in-Statement-clause-call g c =
    let here = g.R.NodeState.stands c.args.node.now in
    let J = g.R.NodeState.records c.args.node.now in
    rw (c.in-Statement.is, c.as_feed_answer-in-Statement.ensures) (given_call g.R.NodeState (frame_of tag.Statement c.args.payload.now) c.args.node.now c.take_statement.new.self (omega arith) (g.met.R.Replica.lawful c.args.node.now) (g.met.R.Replica.some c.args.node.now) (λ i. omega (arith, c.type_inv.payload i))
    as_statement c.take_statement.result c.requires.running (statement_brings here J c.args.payload.now) (statement_answers here J c.args.payload.now c.take_statement.result (g.R.NodeState.records c.take_statement.new.self) c.take_statement.ensures.takes) c.take_statement.ensures.call)

pub returns-in-Value-clause-call : goal.returns-in-Value-clause-call
returns-in-Value-clause-call g c =
    let here = g.R.NodeState.stands c.args.node.now in
    let J = g.R.NodeState.records c.args.node.now in
    rw (c.in-Value.is, c.as_feed_answer-in-Value.ensures) (given_call g.R.NodeState (frame_of tag.Value c.args.payload.now) c.args.node.now c.take_value.new.self (omega arith) (g.met.R.Replica.lawful c.args.node.now) (g.met.R.Replica.some c.args.node.now) (λ i. omega (arith, c.type_inv.payload i))
    as_value c.take_value.result c.requires.running (value_brings here J c.args.payload.now) (value_answers here J c.args.payload.now c.take_value.result (g.R.NodeState.records c.take_value.new.self) c.take_value.ensures.takes) c.take_value.ensures.call)
