use Rattle.depot_order.proofs.Tips.{none_numbered}
use Rattle.depot_order.proofs.chains.Chains.new.Goals as goal

pub invariant_of-result : goal.invariant_of-result
invariant_of-result c = rw (c.new.ensures.items, c.new-2.ensures.items, c.new-3.ensures.items) none_numbered
