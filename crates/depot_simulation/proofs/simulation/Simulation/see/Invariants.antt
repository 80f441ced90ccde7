use Rattle.std.proofs.Common.{◌≡◌, take}
use Rattle.depot_model.specs.journals.Journal.{accepted}
use Rattle.depot_world.specs.Run.{seen_with}
use Rattle.depot_simulation.proofs.simulation.Simulation.see.Given as goal

abbrev pub invariant-loop-item : goal.invariant-loop-item
invariant-loop-item g l = record {
  participants : l.self.participants ≡ l.initial.self.participants;
  labels : l.self.labels ≡ l.initial.self.labels;
  readers : l.self.readers ≡ l.initial.self.readers;
  asked : l.self.seen.asked ≡ l.initial.self.seen.asked;
  seen : l.self.seen.listed.updates ≡ seen_with l.initial.self.seen.listed.updates (take l.item (accepted (g.A.Actor.view l.actor).journal));
}
