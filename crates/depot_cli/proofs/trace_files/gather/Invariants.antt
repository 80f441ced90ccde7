use Rattle.std.proofs.Common.{take}
use Rattle.depot_cli.proofs.HandedTraces.{AreSoFar}
use Rattle.depot_cli.proofs.trace_files.gather.Given as goal

abbrev pub invariant-loop-place : goal.invariant-loop-place
invariant-loop-place g l = AreSoFar g.F.Shelf l.roster l.fn.shelf l.shelf (take l.place l.names) l.traces
