use Rattle.std.proofs.Common.{refl, sym, ◌∙◌}
use Rattle.depot_gossip.specs.declared.send_request.SendRequest.TheVariants as request
use Rattle.depot_gossip.proofs.SentCalls.{uncalled_sends}
use Rattle.depot_gossip.proofs.far.far_hello.Goals as goal

pub returns-then-is_stopped-clause-call : goal.returns-then-is_stopped-clause-call
returns-then-is_stopped-clause-call g c =
    let n = c.args.node.now in
    uncalled_sends g.N.NodeState request.FarHello _ (g.met.N.Replica.only_now) (g.met.N.Replica.after_none) n (g.met.N.Replica.lawful n) c.is_stopped.ensures.stable
    (λ _. sym c.is_stopped.ensures.stopped ∙ c.if-is_stopped.true, λ _. refl) (λ e. cc)
