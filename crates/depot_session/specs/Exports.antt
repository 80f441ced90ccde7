-- What a command exports.
use Rattle.std.specs.Prelude.{◌≡◌, ℕ, List, Some}
use Rattle.depot_model.specs.checks.Checks.{Setting}
use Rattle.depot_model.specs.checks.RecordFaults.{AreTextsOf}
use Rattle.depot_model.specs.worlds.Traces.{AreRightReads, Trace, at_node}
use Rattle.depot_session.specs.Sessions.{Files, Session}
use Rattle.depot_traces.specs.ToldTraces.{file_of_trace}

-- Under this name is a trace of the session's node: its texts are those of the node's lawful journal, and its reads are
-- what that journal showed.
pub record HasExported (here : Setting) (s : Session) (files : Files) (name : List ℕ) : Type 0 where
  pub trace : Trace
  pub node : trace.node ≡ s.correct.node
  pub stored : files name ≡ Some (file_of_trace trace)
  pub texts : AreTextsOf (at_node here.verifies here.listed trace) s.correct.journal trace.texts
  pub reads : AreRightReads s.correct.journal 0 trace.reads
