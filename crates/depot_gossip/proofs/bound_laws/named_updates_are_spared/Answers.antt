use Rattle.depot_gossip.proofs.BoundLaws.{spared}
use Rattle.depot_gossip.proofs.bound_laws.named_updates_are_spared.Goals as goal

pub returns : goal.returns
returns c = spared
