use Rattle.std.proofs.Common.{[], take}
use Rattle.depot_model.specs.exchange.Bundle.{candidate_parcels, hashes_of}
use Rattle.depot_streams.specs.Sendings.{Holds}
use Rattle.depot_gossip.specs.Choosing.{AreAlike, records_at}
use Rattle.depot_gossip.proofs.choose.add_candidates.Given as goal

abbrev pub invariant-loop-place : goal.invariant-loop-place
invariant-loop-place g l = record {
  holds : Holds (g.R.NodeState.stands l.node).me (candidate_parcels (g.R.NodeState.signature_of l.node) (g.R.NodeState.records l.node) [] (records_at (g.R.NodeState.records l.node) (take l.place-index l.places))) l.sending;
  alike : AreAlike l.hashes.keys (hashes_of (candidate_parcels (g.R.NodeState.signature_of l.node) (g.R.NodeState.records l.node) [] (records_at (g.R.NodeState.records l.node) (take l.place-index l.places))));
}
