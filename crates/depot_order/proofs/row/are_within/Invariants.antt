use Rattle.depot_order.proofs.EntryLaws.{WithinUpTo}
use Rattle.depot_order.proofs.row.are_within.Given as goal

abbrev pub invariant-loop-entry : goal.invariant-loop-entry
invariant-loop-entry l = WithinUpTo l.entries l.entry-index l.row
