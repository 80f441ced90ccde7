use Rattle.depot_gossip.proofs.BoundLaws.{sends_front}
use Rattle.depot_gossip.proofs.bound_laws.bounded_bundles_are_fronts.Goals as goal

pub returns : goal.returns
returns c = sends_front
