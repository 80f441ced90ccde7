-- These requests were answered, and nothing has failed.
use Rattle.std.proofs.Common.{◌≡◌, ◌++◌, IsTrue, List}
use Rattle.depot_source.specs.Inputs.{inputs}
use Rattle.depot_source.specs.Messages.{Message}
use Rattle.depot_session.specs.Answering.{serves_of}
use Rattle.depot_session.specs.Keeping.{in_memory}
use Rattle.depot_session.specs.Serving.{AreAnswered, place_from}
use Rattle.depot_session.proofs.serving.answer_waiting.Given as goal

abbrev pub invariant-loop : goal.invariant-loop
invariant-loop g l = record {
  answered : (done : List Message) × AreAnswered g.N.NodeState (serves_of g.N.NodeState l.fn.node) l.fn.node l.node (inputs g.I.Source l.fn.input l.input) (in_memory l.fn.replies.bytes l.replies.bytes) done × (l.next ≡ place_from l.fn.at done);
  same_source : g.I.Source.tells l.input ≡ g.I.Source.tells l.fn.input;
  whole : IsTrue (g.I.Source.tells l.fn.input) → g.I.Source.given l.input ++ g.I.Source.rest l.input ≡ g.I.Source.given l.fn.input ++ g.I.Source.rest l.fn.input;
  disk_quiet : g.N.NodeState.faults l.node ≡ g.N.NodeState.faults l.fn.node;
  source_quiet : g.I.Source.faults l.input ≡ g.I.Source.faults l.fn.input;
}
