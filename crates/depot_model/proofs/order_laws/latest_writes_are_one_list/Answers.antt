use Rattle.depot_model.specs.lists.Lists.{IsIn}
use Rattle.depot_model.specs.updates.Order.{Precedes}
use Rattle.depot_model.proofs.of_updates.LatestLaws.{one_latest_list}
use Rattle.depot_model.proofs.order_laws.latest_writes_are_one_list.Goals as goal

pub returns : goal.returns
returns c wanted among us vs a b = one_latest_list wanted (λ u. IsIn u among) (Precedes among) us vs a b
