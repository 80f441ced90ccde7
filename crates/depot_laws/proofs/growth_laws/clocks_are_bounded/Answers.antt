use Rattle.depot_laws.proofs.orders.Clocks.{clocks_within}
use Rattle.depot_laws.proofs.growth_laws.clocks_are_bounded.Goals as goal

pub returns : goal.returns
returns c here J l = clocks_within here J l
