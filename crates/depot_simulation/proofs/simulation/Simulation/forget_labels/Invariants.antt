use Rattle.std.proofs.Common.{◌≡◌}
use Rattle.depot_simulation.specs.EachRun.{ForgetsLabels}
use Rattle.depot_simulation.proofs.simulation.Simulation.forget_labels.Given as goal

abbrev pub invariant-loop-label : goal.invariant-loop-label
invariant-loop-label g l = record {
  forgets : ForgetsLabels g.A.Actor.view g.A.Reader.Reading.reads l.to_come l.initial.uses.map.entries l.initial.self l.uses.map.entries l.self;
  asked : l.self.seen.asked ≡ l.initial.self.seen.asked;
}
