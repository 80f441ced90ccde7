use Rattle.depot_gossip.proofs.BoundLaws.{keeps_bounds, sends_first}
use Rattle.depot_gossip.proofs.bound_laws.bounds_are_kept.Goals as goal

pub returns-clause-kept : goal.returns-clause-kept
returns-clause-kept c = keeps_bounds

pub returns-clause-first : goal.returns-clause-first
returns-clause-first c = sends_first
