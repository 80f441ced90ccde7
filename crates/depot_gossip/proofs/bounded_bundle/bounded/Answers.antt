use Rattle.std.proofs.Common.{refl, sym, ◌∙◌}
use Rattle.depot_gossip.specs.declared.send_request.SendRequest.TheVariants as request
use Rattle.depot_gossip.proofs.SentCalls.{bounded_call, bounded_sends, uncalled_sends}
use Rattle.depot_gossip.proofs.bounded_bundle.bounded.Goals as goal

pub returns-then-is_stopped-clause-call : goal.returns-then-is_stopped-clause-call
returns-then-is_stopped-clause-call g c =
    let n = c.args.node.now in
    uncalled_sends g.N.NodeState (request.Bounded c.args.hello.now c.args.bounds.now) _ (g.met.N.Replica.only_now) (g.met.N.Replica.after_none) n (g.met.N.Replica.lawful n) c.is_stopped.ensures.stable
    (λ _. sym c.is_stopped.ensures.stopped ∙ c.if-is_stopped.true, λ _. refl) (λ e. cc)

pub returns-clause-sends : goal.returns-clause-sends
returns-clause-sends g c = rw c.reply_of.ensures (bounded_sends (g.N.NodeState.stands c.args.node.now) (g.N.NodeState.signature_of c.args.node.now) (g.N.NodeState.records c.args.node.now) c.args.hello.now c.args.bounds.now c.bundle_within.result (g.N.NodeState.records c.bundle_within.new.node) c.bundle_within.ensures.bundles)

pub returns-clause-call : goal.returns-clause-call
returns-clause-call g c = rw c.reply_of.ensures (bounded_call g.N.NodeState c.args.node.now c.bundle_within.new.node c.args.hello.now c.args.bounds.now c.bundle_within.result c.bundle_within.ensures.call)
