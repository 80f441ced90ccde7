use Rattle.depot_order.proofs.EntryLaws.{RaisedUpTo}
use Rattle.depot_order.proofs.row.raise_entries.Given as goal

abbrev pub invariant-loop-entry : goal.invariant-loop-entry
invariant-loop-entry l = RaisedUpTo l.entries l.entry-index l.initial.row l.row
