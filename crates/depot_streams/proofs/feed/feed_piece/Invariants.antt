use Rattle.std.proofs.Common.{◌≡◌, length, false}
use Rattle.depot_model.specs.texts.Frames.{frame_at, open_frame}
use Rattle.depot_streams.specs.Pieces.{at_work}
use Rattle.depot_streams.specs.NodeCalls.{stream_by, IsTally}
use Rattle.depot_streams.proofs.FedCalls.{IsLeftWith}
use Rattle.depot_streams.proofs.PieceLaws.{IsUnderWay}
use Rattle.depot_streams.proofs.feed.feed_piece.Given as goal

abbrev pub invariant-loop-rest : goal.invariant-loop-rest
invariant-loop-rest g l = record {
  under_way : IsUnderWay (g.R.NodeState.stands l.fn.node) (at_work (stream_by l.fn.tally l.fn.begun.items false) (g.R.NodeState.records l.fn.node)) l.fn.bytes l.rest (at_work (stream_by l.tally l.begun.items false) (g.R.NodeState.records l.node));
  left : IsLeftWith g.R.NodeState l.fn.node l.node;
  tally : IsTally l.tally;
  begun : frame_at l.begun.items ≡ open_frame;
}

abbrev pub decreases-loop-rest : goal.decreases-loop-rest
decreases-loop-rest g l = length l.rest
