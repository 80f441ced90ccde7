use Rattle.std.proofs.Common.{◌≡◌, [], length, true, false, refl, ap, ◌∙◌, arith}
use Rattle.std.proofs.lemmas.List.{nil_from_length}
use Rattle.std.proofs.lemmas.Result.{err_from_is_err_and}
use Rattle.std.proofs.lemmas.Grind.{common_steps}
use Rattle.std.proofs.lemmas.Bool.Decides.{nat_tests}
use Rattle.depot_streams.specs.FrameHeads.{bytes_missing}
use Rattle.depot_streams.specs.Pieces.{at_work}
use Rattle.depot_streams.specs.NodeCalls.{stream_by}
use Rattle.depot_streams.proofs.ChunkLaws.{in_reach}
use Rattle.depot_streams.proofs.FedCalls.{none_left, runs_left, chunk_left, chunk_fails, all_fed}
use Rattle.depot_model.proofs.of_journals.JournalCallLaws.{never_answered}
use Rattle.depot_streams.proofs.PieceLaws.{under_way_first, under_way_on, under_way_fails}
use Rattle.depot_streams.proofs.feed.feed_piece.Goals as goal

pub loop-rest-init : goal.loop-rest-init
loop-rest-init g c = record {
  under_way = under_way_first (g.R.NodeState.stands c.args.node.now) (at_work (stream_by c.args.tally.now c.args.begun.now.items false) (g.R.NodeState.records c.args.node.now)) c.args.bytes.now;
  left = none_left g.R.NodeState (g.met.R.Replica.only_now) (g.met.R.Replica.after_none) c.args.node.now (g.met.R.Replica.lawful c.args.node.now) c.requires.stable c.requires.running;
  tally = c.requires.tally;
  begun = c.requires.begun;
}

pub feed_chunk-requires-clause-some : goal.feed_chunk-requires-clause-some
feed_chunk-requires-clause-some g c =
    let reach = in_reach c.loop-rest.begun.items c.loop-rest.invariant.begun in
    let same : c.missing.result ≡ bytes_missing c.loop-rest.begun.items = c.missing.ensures ∙ ap bytes_missing c.as_slice.ensures.value in
    grind (arith, common_steps, nat_tests, reach.some, same, c.min-count.ensures, c.split_at.ensures.front_len, c.is_empty.ensures, c.loop-rest-test)

pub feed_chunk-requires-clause-running : goal.feed_chunk-requires-clause-running
feed_chunk-requires-clause-running g c = runs_left g.R.NodeState c.args.node.now c.loop-rest.node c.requires.running c.loop-rest.invariant.left

pub feed_chunk-requires-clause-stable : goal.feed_chunk-requires-clause-stable
feed_chunk-requires-clause-stable g c = c.loop-rest.invariant.left.left.node.journal.lasts.stable

pub returns-in_err-feed_chunk-clause-feeds : goal.returns-in_err-feed_chunk-clause-feeds
returns-in_err-feed_chunk-clause-feeds g c =
    let p = err_from_is_err_and c.from_residual.result c.from_residual.ensures.1 in
    let left = c.loop-rest.invariant.left in
    let runs = runs_left g.R.NodeState c.args.node.now c.loop-rest.node c.requires.running left in
    rw (p.1, p.2) (under_way_fails (g.R.NodeState.stands c.args.node.now) (g.R.NodeState.stands c.loop-rest.node) (at_work (stream_by c.args.tally.now c.args.begun.now.items false) (g.R.NodeState.records c.args.node.now)) c.args.bytes.now c.loop-rest.rest.now c.split_at.result.0.now c.split_at.result.1.now (at_work (stream_by c.loop-rest.tally c.loop-rest.begun.items false) (g.R.NodeState.records c.loop-rest.node))
    c.in_err-feed_chunk.field-0.0 (stream_by c.feed_chunk.new.tally [] true) (g.R.NodeState.records c.feed_chunk.new.node) left.left.node.same.stands c.loop-rest.invariant.under_way c.split_at.ensures.by_index.0 (never_answered _ runs c.in_err-feed_chunk.ensures.call.left.node.journal.stops) c.in_err-feed_chunk.ensures.feeds)

pub returns-in_err-feed_chunk-clause-call : goal.returns-in_err-feed_chunk-clause-call
returns-in_err-feed_chunk-clause-call g c =
    let p = err_from_is_err_and c.from_residual.result c.from_residual.ensures.1 in
    rw (p.1, p.2) (chunk_fails g.R.NodeState (g.met.R.Replica.after_more) c.args.node.now c.loop-rest.node c.feed_chunk.new.node c.requires.running c.loop-rest.invariant.left _ _ c.args.bytes.now c.loop-rest.rest.now c.split_at.result.0.now c.split_at.result.1.now
    c.loop-rest.invariant.under_way c.split_at.ensures.by_index.0 c.in_err-feed_chunk.ensures.call)

pub returns-clause-call : goal.returns-clause-call
returns-clause-call g c =
    let none : length c.loop-rest.rest.now ≡ 0 = grind (arith, nat_tests, c.is_empty.ensures, c.loop-rest-test) in
    all_fed g.R.NodeState _ _ c.args.bytes.now c.loop-rest.rest.now c.args.node.now c.loop-rest.node (nil_from_length c.loop-rest.rest.now none) c.loop-rest.invariant.under_way refl c.loop-rest.invariant.left

pub loop-rest-smaller : goal.loop-rest-smaller
loop-rest-smaller g c =
    let reach = in_reach c.loop-rest.begun.items c.loop-rest.invariant.begun in
    let same : c.missing.result ≡ bytes_missing c.loop-rest.begun.items = c.missing.ensures ∙ ap bytes_missing c.as_slice.ensures.value in
    grind (arith, common_steps, nat_tests, reach.some, same, c.min-count.ensures, c.split_at.ensures.back_len, c.is_empty.ensures, c.loop-rest-test)

pub loop-rest-preserved : goal.loop-rest-preserved
loop-rest-preserved g c =
    let left = c.loop-rest.invariant.left in
    let feeds = c.in_ok-feed_chunk.ensures.feeds in
    record {
      under_way = under_way_on (g.R.NodeState.stands c.args.node.now) (g.R.NodeState.stands c.loop-rest.node) (at_work (stream_by c.args.tally.now c.args.begun.now.items false) (g.R.NodeState.records c.args.node.now)) c.args.bytes.now c.loop-rest.rest.now c.split_at.result.0.now c.split_at.result.1.now (at_work (stream_by c.loop-rest.tally c.loop-rest.begun.items false) (g.R.NodeState.records c.loop-rest.node))
          c.feed_chunk.new.tally c.feed_chunk.new.begun.items (g.R.NodeState.records c.feed_chunk.new.node) left.left.node.same.stands c.loop-rest.invariant.under_way c.split_at.ensures.by_index.0 feeds;
      left = chunk_left g.R.NodeState (g.met.R.Replica.after_more) c.args.node.now c.loop-rest.node c.feed_chunk.new.node c.requires.running left _ c.split_at.result.0.now feeds.1.journal c.in_ok-feed_chunk.ensures.call;
      tally = c.feed_chunk.ensures.tally;
      begun = c.in_ok-feed_chunk.ensures.begun;
    }
