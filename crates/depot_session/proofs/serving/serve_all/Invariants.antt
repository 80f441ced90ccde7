-- These requests were answered, all records of the node are in the file, and nothing has failed.
use Rattle.std.proofs.Common.{◌≡◌, ◌++◌, IsTrue, List}
use Rattle.depot_outside.specs.Told.{sinks}
use Rattle.depot_source.specs.Inputs.{inputs}
use Rattle.depot_source.specs.Messages.{Message}
use Rattle.depot_session.specs.Answering.{serves_of}
use Rattle.depot_session.specs.Keeping.{IsAllKept, kept_state}
use Rattle.depot_session.specs.Serving.{AreAnswered, place_from}
use Rattle.depot_session.proofs.serving.serve_all.Given as goal

abbrev pub invariant-loop : goal.invariant-loop
invariant-loop g l = record {
  answered : (done : List Message) × AreAnswered (kept_state g.N.NodeState g.D.Disk) (serves_of (kept_state g.N.NodeState g.D.Disk) l.fn.node) l.fn.node l.node (inputs g.I.Source l.fn.input l.input) (sinks g.K.Sink l.fn.out l.out) done × (l.at ≡ place_from 0 done);
  kept : IsAllKept g.N.NodeState g.D.Disk l.node;
  same_sink : g.K.Sink.tells l.out ≡ g.K.Sink.tells l.fn.out;
  same_source : g.I.Source.tells l.input ≡ g.I.Source.tells l.fn.input;
  whole : IsTrue (g.I.Source.tells l.fn.input) → g.I.Source.given l.input ++ g.I.Source.rest l.input ≡ g.I.Source.given l.fn.input ++ g.I.Source.rest l.fn.input;
  handle : g.D.Disk.handle l.node.disk ≡ g.D.Disk.handle l.fn.node.disk;
  disk_quiet : g.D.Disk.faults l.node.disk ≡ g.D.Disk.faults l.fn.node.disk;
  sink_quiet : g.K.Sink.faults l.out ≡ g.K.Sink.faults l.fn.out;
  source_quiet : g.I.Source.faults l.input ≡ g.I.Source.faults l.fn.input;
}
