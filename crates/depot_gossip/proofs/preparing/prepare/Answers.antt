use Rattle.std.proofs.Common.{sym, ◌∙◌}
use Rattle.std.proofs.lemmas.Result.{err_from_is_err_and}
use Rattle.depot_model.specs.exchange.Bundle.{sent_for}
use Rattle.depot_gossip.proofs.BundleAnswers.{answer_for, answered_by, not_prepared, left_is_unvouched}
use Rattle.depot_gossip.proofs.preparing.prepare.Goals as goal

pub returns-in_err-hello-clause-prepares : goal.returns-in_err-hello-clause-prepares
returns-in_err-hello-clause-prepares g c =
    let p = err_from_is_err_and c.from_residual.result c.from_residual.ensures.1 in
    rw (p.1, p.2) (not_prepared (g.R.NodeState.stands c.args.node.now) (g.R.NodeState.signature_of c.args.node.now) (g.R.NodeState.records c.args.node.now) c.args.text.now (g.R.NodeState.stopped c.args.node.now) c.in_err-hello.field-0.0 (sym c.is_stopped.ensures.stopped ∙ c.if-is_stopped.false) (c.in_err-hello.ensures (answer_for (g.R.NodeState.stands c.args.node.now) (g.R.NodeState.signature_of c.args.node.now) (g.R.NodeState.records c.args.node.now) c.args.text.now)))

pub returns-in_err-sending-clause-prepares : goal.returns-in_err-sending-clause-prepares
returns-in_err-sending-clause-prepares g c =
    let p = err_from_is_err_and c.from_residual-in_err-sending.result c.from_residual-in_err-sending.ensures.1 in
    rw (p.1, p.2) (sym c.is_stopped.ensures.stopped ∙ c.if-is_stopped.false)

pub returns-in_err-unvouched-clause-prepares : goal.returns-in_err-unvouched-clause-prepares
returns-in_err-unvouched-clause-prepares g c =
    let p = err_from_is_err_and c.from_residual-in_err-unvouched.result c.from_residual-in_err-unvouched.ensures.1 in
    rw (p.1, p.2) (sym c.is_stopped.ensures.stopped ∙ c.if-is_stopped.false)

pub returns-clause-prepares : goal.returns-clause-prepares
returns-clause-prepares g c = record {
  runs = sym c.is_stopped.ensures.stopped ∙ c.if-is_stopped.false;
  heard = answered_by (g.R.NodeState.stands c.args.node.now) (g.R.NodeState.signature_of c.args.node.now) (g.R.NodeState.records c.args.node.now) c.args.text.now ∙ c.in_ok-hello.ensures (answer_for (g.R.NodeState.stands c.args.node.now) (g.R.NodeState.signature_of c.args.node.now) (g.R.NodeState.records c.args.node.now) c.args.text.now);
  holds = c.in_ok-sending.ensures.holds;
  more = c.in_ok-sending.ensures.more;
  ids = left_is_unvouched (g.R.NodeState.stands c.args.node.now).me (g.R.NodeState.records c.args.node.now) (sent_for (g.R.NodeState.signature_of c.args.node.now) (g.R.NodeState.records c.args.node.now) c.in_ok-hello.hello) c.in_ok-sending.sending.ids c.in_ok-unvouched.unvouched c.in_ok-sending.ensures.holds.ids c.in_ok-unvouched.ensures;
}
