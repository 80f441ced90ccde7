use Rattle.depot_order.proofs.clocks.Clocks.+join_with.Given as goal

abbrev pub decreases-join_with : goal.decreases-join_with
decreases-join_with l = l.item
