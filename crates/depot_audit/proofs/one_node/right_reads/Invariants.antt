use Rattle.std.proofs.Common.{length, map}
use Rattle.depot_traces.specs.SeenTraces.{read_of}
use Rattle.depot_audit.specs.OneNode.{AreRightUpTo}
use Rattle.depot_audit.proofs.one_node.right_reads.Given as goal

abbrev pub invariant-loop-place : goal.invariant-loop-place
invariant-loop-place g l = AreRightUpTo (length l.readings.records) l.readings.records (map read_of l.reads) l.place
