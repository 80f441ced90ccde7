use Rattle.depot_order.proofs.clocks.Clocks.+fill_row.Given as goal

abbrev pub decreases-fill_row : goal.decreases-fill_row
decreases-fill_row l = l.item
