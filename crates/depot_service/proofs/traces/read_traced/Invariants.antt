use Rattle.std.proofs.Common.{◌≡◌, map, take}
use Rattle.std.specs.List.{AllByRecursion}
use Rattle.depot_model.specs.lists.Items.{updates_at}
use Rattle.depot_model.specs.journals.Journal.{accepted}
use Rattle.depot_model.specs.worlds.Traces.{answered}
use Rattle.depot_traces.specs.SeenTraces.{answered_of}
use Rattle.depot_traces.specs.TraceTexts.{answered_text}
use Rattle.depot_service.proofs.ShownWrites.{shown_as}
use Rattle.depot_service.proofs.traces.read_traced.Given as goal

abbrev pub invariant-loop-item : goal.invariant-loop-item
invariant-loop-item g l = record {
  fit : AllByRecursion answered_text.fits l.answer;
  told : map answered_of l.answer ≡ map answered (shown_as (g.N.NodeState.records l.node) l.key (updates_at (accepted (g.N.NodeState.records l.node)) (take l.item-index l.item-items)));
}
