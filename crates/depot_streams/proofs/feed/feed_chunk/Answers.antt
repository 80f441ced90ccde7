use Rattle.std.proofs.Common.{◌≡◌, ℕ, List, ◌++◌, length, false, Ok, Err, refl, sym, ap, subst, ◌∙◌, arith, length-append}
use Rattle.std.proofs.lemmas.Result.{err_from_is_err_and}
use Rattle.depot_model.specs.texts.Frames.{frame_at, open_frame, no_frame, whole_frame}
use Rattle.depot_streams.specs.Pieces.{Feeds, at_work}
use Rattle.depot_streams.specs.NodeCalls.{stream_by, frame_of, TakesFrame}
use Rattle.depot_streams.proofs.ChunkLaws.{in_reach, stands_in}
use Rattle.depot_streams.proofs.FedCalls.{nothing_fed, frame_fed}
use Rattle.depot_model.proofs.of_journals.JournalCallLaws.{never_stopped}
use Rattle.depot_streams.proofs.PieceLaws.{over_is_ill, chunk_is_dropped, chunk_is_open, chunk_is_ill, frame_is_fed, chunk_is_taken}
use Rattle.depot_streams.proofs.feed.feed_chunk.Goals as goal

pub returns-then-is_over-clause-feeds : goal.returns-then-is_over-clause-feeds
returns-then-is_over-clause-feeds g c = over_is_ill (g.R.NodeState.stands c.args.node.now) c.args.tally.now c.args.begun.now.items c.args.chunk.now (g.R.NodeState.records c.args.node.now) (sym c.is_over.ensures ∙ c.if-is_over.true) c.requires.some

pub returns-in_err-extend_from_slice-clause-feeds : goal.returns-in_err-extend_from_slice-clause-feeds
returns-in_err-extend_from_slice-clause-feeds g c =
    let p = err_from_is_err_and c.from_residual.result c.from_residual.ensures.1 in
    rw (p.1, p.2) (chunk_is_dropped (g.R.NodeState.stands c.args.node.now) c.args.tally.now c.args.tally.now c.args.begun.now.items c.args.chunk.now (g.R.NodeState.records c.args.node.now) (g.R.NodeState.records c.args.node.now) refl refl)

pub returns-in-Open-clause-feeds : goal.returns-in-Open-clause-feeds
returns-in-Open-clause-feeds g c =
    let items = c.in_ok-extend_from_slice.ensures.items in
    let at : frame_at (c.args.begun.now.items ++ c.args.chunk.now) ≡ open_frame = stands_in c.as_slice-frame.result.now (c.args.begun.now.items ++ c.args.chunk.now) open_frame (c.as_slice-frame.ensures.value ∙ items) c.in-Open.ensures in
    let s = at_work (stream_by c.args.tally.now c.args.begun.now.items false) (g.R.NodeState.records c.args.node.now) in
    subst (λ (b : List ℕ). Feeds (g.R.NodeState.stands c.args.node.now) s c.args.chunk.now (Ok tt) (stream_by c.args.tally.now b false) (g.R.NodeState.records c.args.node.now)) (sym {b = c.args.begun.now.items ++ c.args.chunk.now} items)
    (chunk_is_open (g.R.NodeState.stands c.args.node.now) c.args.tally.now c.args.begun.now.items c.args.chunk.now (g.R.NodeState.records c.args.node.now) (sym c.is_over.ensures ∙ c.if-is_over.false) c.requires.begun c.requires.some c.requires.short at)

pub returns-in-Open-clause-begun : goal.returns-in-Open-clause-begun
returns-in-Open-clause-begun g c = ap frame_at (sym c.as_slice-frame.ensures.value) ∙ c.in-Open.ensures

pub returns-in-Nothing-clause-feeds : goal.returns-in-Nothing-clause-feeds
returns-in-Nothing-clause-feeds g c =
    let at : frame_at (c.args.begun.now.items ++ c.args.chunk.now) ≡ no_frame = stands_in c.as_slice-frame.result.now (c.args.begun.now.items ++ c.args.chunk.now) no_frame (c.as_slice-frame.ensures.value ∙ c.in_ok-extend_from_slice.ensures.items) c.in-Nothing.ensures in
    chunk_is_ill (g.R.NodeState.stands c.args.node.now) c.args.tally.now c.args.begun.now.items c.args.chunk.now (g.R.NodeState.records c.args.node.now) (sym c.is_over.ensures ∙ c.if-is_over.false) c.requires.begun c.requires.some c.requires.short at

pub take-requires-clause-short : goal.take-requires-clause-short
take-requires-clause-short g c =
    let reach = in_reach c.args.begun.now.items c.requires.begun in
    let long : length c.as_slice-frame.result.now ≡ length (c.args.begun.now.items ++ c.args.chunk.now) = ap length (c.as_slice-frame.ensures.value ∙ c.in_ok-extend_from_slice.ensures.items) in
    omega (arith, long, length-append c.args.begun.now.items c.args.chunk.now, reach.most, c.requires.short)

pub returns-in_err-take-in-Whole-clause-feeds : goal.returns-in_err-take-in-Whole-clause-feeds
returns-in_err-take-in-Whole-clause-feeds g c =
    let p = err_from_is_err_and c.from_residual-in_err-take-in-Whole.result c.from_residual-in_err-take-in-Whole.ensures.1 in
    let items : c.as_slice-frame.result.now ≡ c.args.begun.now.items ++ c.args.chunk.now = c.as_slice-frame.ensures.value ∙ c.in_ok-extend_from_slice.ensures.items in
    let at : frame_at (c.args.begun.now.items ++ c.args.chunk.now) ≡ whole_frame (frame_of c.in-Whole.tag c.in-Whole.payload.now) = stands_in c.as_slice-frame.result.now (c.args.begun.now.items ++ c.args.chunk.now) (whole_frame (frame_of c.in-Whole.tag c.in-Whole.payload.now)) items c.in-Whole.ensures in
    let takes = subst (λ (n : ℕ). TakesFrame (g.R.NodeState.stands c.args.node.now) n (frame_of c.in-Whole.tag c.in-Whole.payload.now) c.args.tally.now (g.R.NodeState.records c.args.node.now) (Err c.in_err-take-in-Whole.field-0.0) c.take.new.self (g.R.NodeState.records c.take.new.node)) (ap length items) c.in_err-take-in-Whole.ensures.takes in
    rw (p.1, p.2) (chunk_is_taken (g.R.NodeState.stands c.args.node.now) c.args.tally.now c.take.new.self c.args.begun.now.items c.args.chunk.now (g.R.NodeState.records c.args.node.now) (g.R.NodeState.records c.take.new.node) (frame_of c.in-Whole.tag c.in-Whole.payload.now) (Err c.in_err-take-in-Whole.field-0.0)
    (sym c.is_over.ensures ∙ c.if-is_over.false) c.requires.begun c.requires.some c.requires.short at takes)

pub returns-clause-feeds : goal.returns-clause-feeds
returns-clause-feeds g c =
    let items : c.as_slice-frame.result.now ≡ c.args.begun.now.items ++ c.args.chunk.now = c.as_slice-frame.ensures.value ∙ c.in_ok-extend_from_slice.ensures.items in
    let at : frame_at (c.args.begun.now.items ++ c.args.chunk.now) ≡ whole_frame (frame_of c.in-Whole.tag c.in-Whole.payload.now) = stands_in c.as_slice-frame.result.now (c.args.begun.now.items ++ c.args.chunk.now) (whole_frame (frame_of c.in-Whole.tag c.in-Whole.payload.now)) items c.in-Whole.ensures in
    let takes = subst (λ (n : ℕ). TakesFrame (g.R.NodeState.stands c.args.node.now) n (frame_of c.in-Whole.tag c.in-Whole.payload.now) c.args.tally.now (g.R.NodeState.records c.args.node.now) (Ok tt) c.take.new.self (g.R.NodeState.records c.take.new.node)) (ap length items) c.in_ok-take-in-Whole.ensures.takes in
    let s = at_work (stream_by c.args.tally.now c.args.begun.now.items false) (g.R.NodeState.records c.args.node.now) in
    subst (λ (b : List ℕ). Feeds (g.R.NodeState.stands c.args.node.now) s c.args.chunk.now (Ok tt) (stream_by c.take.new.self b false) (g.R.NodeState.records c.take.new.node)) (sym c.clear.ensures.items)
    (chunk_is_taken (g.R.NodeState.stands c.args.node.now) c.args.tally.now c.take.new.self c.args.begun.now.items c.args.chunk.now (g.R.NodeState.records c.args.node.now) (g.R.NodeState.records c.take.new.node) (frame_of c.in-Whole.tag c.in-Whole.payload.now) (Ok tt)
    (sym c.is_over.ensures ∙ c.if-is_over.false) c.requires.begun c.requires.some c.requires.short at takes)

pub returns-clause-begun : goal.returns-clause-begun
unfolding frame_at
returns-clause-begun g c = rw c.clear.ensures.items refl

-- ---- what the node is left as

pub returns-then-is_over-clause-call : goal.returns-then-is_over-clause-call
returns-then-is_over-clause-call g c = nothing_fed g.R.NodeState (g.met.R.Replica.only_now) (g.met.R.Replica.after_none) _ _ c.args.node.now refl (g.met.R.Replica.lawful c.args.node.now) c.requires.stable (never_stopped _ c.requires.running (λ e. cc)) (λ e. cc)

pub returns-in_err-extend_from_slice-clause-call : goal.returns-in_err-extend_from_slice-clause-call
returns-in_err-extend_from_slice-clause-call g c =
    let p = err_from_is_err_and c.from_residual.result c.from_residual.ensures.1 in
    rw (p.1, p.2) (nothing_fed g.R.NodeState (g.met.R.Replica.only_now) (g.met.R.Replica.after_none) _ _ c.args.node.now refl (g.met.R.Replica.lawful c.args.node.now) c.requires.stable (never_stopped _ c.requires.running (λ e. cc)) (λ e. cc))

pub returns-in-Open-clause-call : goal.returns-in-Open-clause-call
returns-in-Open-clause-call g c = nothing_fed g.R.NodeState (g.met.R.Replica.only_now) (g.met.R.Replica.after_none) _ _ c.args.node.now refl (g.met.R.Replica.lawful c.args.node.now) c.requires.stable (never_stopped _ c.requires.running (λ e. cc)) (λ e. cc)

pub returns-in-Nothing-clause-call : goal.returns-in-Nothing-clause-call
returns-in-Nothing-clause-call g c = nothing_fed g.R.NodeState (g.met.R.Replica.only_now) (g.met.R.Replica.after_none) _ _ c.args.node.now refl (g.met.R.Replica.lawful c.args.node.now) c.requires.stable (never_stopped _ c.requires.running (λ e. cc)) (λ e. cc)

pub returns-in_err-take-in-Whole-clause-call : goal.returns-in_err-take-in-Whole-clause-call
returns-in_err-take-in-Whole-clause-call g c =
    let p = err_from_is_err_and c.from_residual-in_err-take-in-Whole.result c.from_residual-in_err-take-in-Whole.ensures.1 in
    let items : c.as_slice-frame.result.now ≡ c.args.begun.now.items ++ c.args.chunk.now = c.as_slice-frame.ensures.value ∙ c.in_ok-extend_from_slice.ensures.items in
    let at : frame_at (c.args.begun.now.items ++ c.args.chunk.now) ≡ whole_frame (frame_of c.in-Whole.tag c.in-Whole.payload.now) = stands_in c.as_slice-frame.result.now (c.args.begun.now.items ++ c.args.chunk.now) (whole_frame (frame_of c.in-Whole.tag c.in-Whole.payload.now)) items c.in-Whole.ensures in
    rw (p.1, p.2) (frame_fed g.R.NodeState _ _ c.args.chunk.now _ (frame_of c.in-Whole.tag c.in-Whole.payload.now) c.args.node.now c.take.new.node
    (frame_is_fed (g.R.NodeState.stands c.args.node.now) c.args.tally.now c.args.begun.now.items c.args.chunk.now (g.R.NodeState.records c.args.node.now) (frame_of c.in-Whole.tag c.in-Whole.payload.now)
    (sym c.is_over.ensures ∙ c.if-is_over.false) c.requires.begun c.requires.some c.requires.short at)
    refl c.in_err-take-in-Whole.ensures.call)

pub returns-clause-call : goal.returns-clause-call
returns-clause-call g c =
    let items : c.as_slice-frame.result.now ≡ c.args.begun.now.items ++ c.args.chunk.now = c.as_slice-frame.ensures.value ∙ c.in_ok-extend_from_slice.ensures.items in
    let at : frame_at (c.args.begun.now.items ++ c.args.chunk.now) ≡ whole_frame (frame_of c.in-Whole.tag c.in-Whole.payload.now) = stands_in c.as_slice-frame.result.now (c.args.begun.now.items ++ c.args.chunk.now) (whole_frame (frame_of c.in-Whole.tag c.in-Whole.payload.now)) items c.in-Whole.ensures in
    frame_fed g.R.NodeState _ _ c.args.chunk.now _ (frame_of c.in-Whole.tag c.in-Whole.payload.now) c.args.node.now c.take.new.node
    (frame_is_fed (g.R.NodeState.stands c.args.node.now) c.args.tally.now c.args.begun.now.items c.args.chunk.now (g.R.NodeState.records c.args.node.now) (frame_of c.in-Whole.tag c.in-Whole.payload.now)
    (sym c.is_over.ensures ∙ c.if-is_over.false) c.requires.begun c.requires.some c.requires.short at)
    refl c.in_ok-take-in-Whole.ensures.call
