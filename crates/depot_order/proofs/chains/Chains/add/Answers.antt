use Rattle.depot_order.proofs.Tips.{spot_of_added}
use Rattle.depot_order.proofs.chains.Chains.add.Goals as goal

pub returns-clause-spot : goal.returns-clause-spot
returns-clause-spot c = rw (c.place.ensures, c.next_spot-spot.ensures, ← c.in_ok-reserve.ensures.same) (spot_of_added _ _)
