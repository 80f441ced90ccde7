use Rattle.depot_order.proofs.EntryLaws.{PutUpTo}
use Rattle.depot_order.proofs.row.put_entries.Given as goal

abbrev pub invariant-loop-entry : goal.invariant-loop-entry
invariant-loop-entry l = PutUpTo l.entries l.entry-index l.initial.row l.row
