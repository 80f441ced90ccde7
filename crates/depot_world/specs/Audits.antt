-- The traces of correct nodes, and the world that an audit of them examines.
use Rattle.std.specs.Prelude.{◌<◌, ◌≤◌, List, [], length, map, Bool, not, nat_lt}
use Rattle.depot_base.specs.declared.limits.TheConstants.{MOST_CORRECT, MOST_LINES}
use Rattle.depot_model.specs.lists.Insertion.{order_by}
use Rattle.depot_model.specs.lists.Lists.{IsIn}
use Rattle.depot_model.specs.texts.Records.{text_of_record}
use Rattle.depot_model.specs.worlds.Traces.{ReadTrace, Trace, answered}
use Rattle.depot_model.specs.worlds.World.{Read, Correct, World, IsWorld}
use Rattle.depot_world.specs.Run.{Run, Host, world_by}
use Rattle.depot_world.specs.Setups.{Setup}

-- ---- traces

-- a read as a trace records it
abbrev pub traced_read : Read → ReadTrace
traced_read r = record { length = r.at; key = r.key; answer = map answered r.answer }

-- what a node hands in: its record texts, and these of its reads
abbrev pub trace_with : Correct → List Read → Trace
trace_with c reads = record { node = c.node; texts = map text_of_record c.journal; reads = map traced_read reads }

-- the same with all its reads
abbrev pub trace_by : Correct → Trace
trace_by c = trace_with c c.reads

-- ---- the audit of a run

-- the traces of a run's nodes
abbrev pub traces_by : Run → List Trace
traces_by run = map trace_by (map (λ s. s.correct) run.hosts)

-- a node comes before those of higher numbers
abbrev pub comes_before : Correct → Correct → Bool
comes_before c d = not (nat_lt d.node c.node)

-- The correct nodes of a run in rising order of their numbers, as an audit examines them. What was judged belongs to no
-- node and isn't handed in.
unfoldable pub audited : Setup → Run → World
audited setup run = record { verifies = setup.suite.verifies; listed = setup.listed; nodes = order_by comes_before (map (λ s. s.correct) run.hosts); judged = [] }

-- A run whose nodes may be audited: it makes a world of so many nodes, and no node has more reads than a schedule has lines.
pub record IsSound (setup : Setup) (run : Run) : Type 0 where
  pub world : IsWorld (world_by setup run)
  pub few : (s : Host) → IsIn s run.hosts → length s.correct.reads ≤ MOST_LINES
  pub some : 0 < length run.hosts
  pub most : length run.hosts ≤ MOST_CORRECT
