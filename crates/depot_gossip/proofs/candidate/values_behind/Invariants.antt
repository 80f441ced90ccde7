use Rattle.std.proofs.Common.{take}
use Rattle.depot_base.specs.Writes.{values_in}
use Rattle.depot_streams.specs.Sendings.{payloads_of}
use Rattle.depot_gossip.specs.Choosing.{Finds}
use Rattle.depot_gossip.proofs.candidate.values_behind.Given as goal

abbrev pub invariant-loop-write : goal.invariant-loop-write
invariant-loop-write g l = Finds (g.R.NodeState.records l.node) l.initial.hashes.keys (values_in (take l.write-index l.writes)) (payloads_of l.found.items) l.hashes.keys
