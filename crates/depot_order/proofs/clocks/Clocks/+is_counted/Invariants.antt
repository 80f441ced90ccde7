use Rattle.depot_order.proofs.clocks.Clocks.+is_counted.Given as goal

abbrev pub decreases-is_counted : goal.decreases-is_counted
decreases-is_counted l = l.item
