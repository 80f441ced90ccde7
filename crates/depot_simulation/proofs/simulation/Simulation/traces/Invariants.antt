use Rattle.std.proofs.Common.{◌≡◌, map, take}
use Rattle.std.specs.List.{AllByRecursion}
use Rattle.depot_traces.specs.SeenTraces.{trace_of}
use Rattle.depot_traces.specs.TraceTexts.{IsTrace}
use Rattle.depot_simulation.specs.Auditing.{handed_in}
use Rattle.depot_simulation.specs.Playing.{participant_by}
use Rattle.depot_simulation.proofs.simulation.Simulation.traces.Given as goal

abbrev pub invariant-loop-participant : goal.invariant-loop-participant
invariant-loop-participant g l = record {
  fit : AllByRecursion IsTrace l.traces;
  are : map trace_of l.traces ≡ map handed_in (map (participant_by g.A.Actor.view) (take l.participant-index l.participant-items));
}
