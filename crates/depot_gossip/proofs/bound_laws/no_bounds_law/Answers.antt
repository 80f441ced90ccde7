use Rattle.depot_gossip.proofs.BoundLaws.{unbounded_is_bundle}
use Rattle.depot_gossip.proofs.bound_laws.no_bounds_law.Goals as goal

pub returns : goal.returns
returns c = unbounded_is_bundle
