use Rattle.std.proofs.Common.{◌≡◌, length, false}
use Rattle.depot_model.specs.exchange.Feeding.{feeding_from}
use Rattle.depot_streams.specs.Pieces.{at_work}
use Rattle.depot_streams.proofs.FedCalls.{IsLeftWith}
use Rattle.depot_streams.proofs.PieceLaws.{IsUnderWay}
use Rattle.depot_service.proofs.feeds.feed_all.Given as goal

abbrev pub invariant-loop-rest : goal.invariant-loop-rest
invariant-loop-rest g l = record {
  under_way : IsUnderWay (g.R.NodeState.stands l.fn.node) (feeding_from (g.R.NodeState.records l.fn.node)) l.fn.stream l.rest (at_work l.feed (g.R.NodeState.records l.node));
  going : l.feed.closed ≡ false;
  left : IsLeftWith g.R.NodeState l.fn.node l.node;
}

abbrev pub decreases-loop-rest : goal.decreases-loop-rest
decreases-loop-rest g l = length l.rest
