use Rattle.std.proofs.Common.{length}
use Rattle.depot_node.specs.Holdings.{node_setting}
use Rattle.depot_node.proofs.RecordReads.{IsReading}
use Rattle.depot_node.proofs.start_reading.read_all.Given as goal

abbrev pub invariant-loop : goal.invariant-loop
invariant-loop g l = IsReading (node_setting g.S.Scheme.verifies l.fn.store) l.fn.store l.store

abbrev pub decreases-loop : goal.decreases-loop
decreases-loop g l = length l.store.unread
