-- What is gone from `rest` was written.
use Rattle.depot_outside.proofs.PieceWriting.{HasWritten}
use Rattle.depot_outside.proofs.transfer.write_whole.Given as goal

abbrev pub invariant-loop : goal.invariant-loop
invariant-loop g l = HasWritten (g.W.Write.contents l.initial.to) (g.W.Write.contents l.to) l.bytes l.rest
