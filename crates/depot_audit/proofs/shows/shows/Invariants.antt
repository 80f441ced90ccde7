use Rattle.depot_audit.proofs.ShownReads.{AreToldUpTo}
use Rattle.depot_audit.proofs.shows.shows.Given as goal

abbrev pub invariant-loop-place : goal.invariant-loop-place
invariant-loop-place g l = AreToldUpTo l.readings.records l.read.key l.answer l.items l.place
