use Rattle.depot_order.proofs.EntryLaws.{NoneUpTo}
use Rattle.depot_order.proofs.row.count_among.Given as goal

abbrev pub invariant-loop-entry : goal.invariant-loop-entry
invariant-loop-entry l = NoneUpTo l.entries l.entry-index l.chain
