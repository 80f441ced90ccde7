use Rattle.std.proofs.Common.{refl, sym, ◌∙◌}
use Rattle.depot_model.specs.texts.Frames.{frame_at}
use Rattle.depot_streams.proofs.FedCalls.{nothing_fed}
use Rattle.depot_streams.proofs.feed.Feed.piece.Goals as goal

pub invariant_of-self : goal.invariant_of-self
unfolding frame_at
invariant_of-self g c = (c.self.invariant.0, rw c.clear.ensures.items refl)

pub invariant_of-self-then-is_err : goal.invariant_of-self-then-is_err
unfolding frame_at
invariant_of-self-then-is_err g c = (c.feed_piece-fed.ensures.tally, rw c.clear-then-is_err.ensures.items refl)

pub returns-then-is_stopped-clause-call : goal.returns-then-is_stopped-clause-call
returns-then-is_stopped-clause-call g c =
    let is = sym c.is_stopped.ensures.stopped ∙ c.if-is_stopped.true in
    nothing_fed g.R.NodeState (g.met.R.Replica.only_now) (g.met.R.Replica.after_none) _ _ c.args.node.now refl (g.met.R.Replica.lawful c.args.node.now) c.is_stopped.ensures.stable (λ _. is, λ _. refl) (λ e. cc)
