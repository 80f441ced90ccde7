use Rattle.std.proofs.lemmas.Result.{err_from_is_err_and}
use Rattle.depot_gossip.proofs.SentCalls.{answer_within, chosen_is_ready, unheard_so}
use Rattle.depot_gossip.proofs.bounded_bundle.prepare_within.Goals as goal

pub returns-in_err-hello : goal.returns-in_err-hello
returns-in_err-hello g c =
    let here = g.N.NodeState.stands c.args.node.now in
    let sign = g.N.NodeState.signature_of c.args.node.now in
    let J = g.N.NodeState.records c.args.node.now in
    let p = err_from_is_err_and c.from_residual.result c.from_residual.ensures.1 in
    rw (p.1, p.2) (unheard_so here sign J c.args.text.now c.args.bounds.now c.in_err-hello.field-0.0 (c.in_err-hello.ensures (answer_within here sign J c.args.text.now c.args.bounds.now)))

pub returns : goal.returns
returns g c =
    let here = g.N.NodeState.stands c.args.node.now in
    let sign = g.N.NodeState.signature_of c.args.node.now in
    let J = g.N.NodeState.records c.args.node.now in
    chosen_is_ready here sign J c.args.text.now c.args.bounds.now c.in_ok-hello.hello c.in_ok-sending.field-0 (g.met.N.Replica.lawful c.args.node.now)
    (c.in_ok-hello.ensures (answer_within here sign J c.args.text.now c.args.bounds.now)) c.in_ok-sending.ensures
