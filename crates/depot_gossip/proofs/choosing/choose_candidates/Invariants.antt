use Rattle.std.proofs.Common.{[], take}
use Rattle.depot_model.specs.exchange.Bundle.{candidate_parcels, hashes_of}
use Rattle.depot_gossip.specs.Choosing.{AreAlike, records_at}
use Rattle.depot_gossip.specs.Choices.{IsChosenFrom}
use Rattle.depot_gossip.proofs.choosing.choose_candidates.Given as goal

abbrev pub invariant-loop-place : goal.invariant-loop-place
invariant-loop-place g l = record {
  chosen : IsChosenFrom (g.R.NodeState.stands l.node).me (g.R.NodeState.records l.node) l.room (candidate_parcels (g.R.NodeState.signature_of l.node) (g.R.NodeState.records l.node) [] (records_at (g.R.NodeState.records l.node) (take l.place-index l.places))) l.choice;
  alike : AreAlike l.hashes.keys (hashes_of (candidate_parcels (g.R.NodeState.signature_of l.node) (g.R.NodeState.records l.node) [] (records_at (g.R.NodeState.records l.node) (take l.place-index l.places))));
}
