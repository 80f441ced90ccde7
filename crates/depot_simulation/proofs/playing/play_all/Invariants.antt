use Rattle.std.proofs.Common.{◌≡◌, ◌++◌, vec_len, IsTrue}
use Rattle.depot_world.specs.Run.{Run}
use Rattle.depot_world.specs.Setups.{Setup}
use Rattle.depot_world.specs.Transcript.{printed, run_after}
use Rattle.depot_scenario.specs.LabelUses.{AreUses}
use Rattle.depot_scenario.specs.Scenarios.{IsScenarioOf}
use Rattle.depot_simulation.specs.Playing.{IsSimulationAt, IsSimulationFor, StaysSound}
use Rattle.depot_simulation.proofs.PlayedEvents.{AreToCome, so_far}
use Rattle.depot_simulation.proofs.playing.play_all.Given as goal

abbrev pub invariant-loop-event : goal.invariant-loop-event
invariant-loop-event g l = record {
  left : AreToCome l.fn.events l.to_come.items;
  uses : AreUses l.uses.map.entries l.to_come.items;
  at : (setup : Setup) (run : Run) → IsScenarioOf g.S.Scheme.verifies g.G.Signer.key_of g.G.Signer.signature_of setup l.scenario → StaysSound setup run l.fn.events → IsSimulationAt g.A.Actor.view g.A.Reader.Reading.reads setup run l.initial.simulation → IsSimulationFor g.A.Actor.view g.A.Reader.Reading.reads setup l.to_come.items (run_after setup run (so_far l.fn.events l.to_come.items)) l.simulation;
  written : (setup : Setup) (run : Run) → IsScenarioOf g.S.Scheme.verifies g.G.Signer.key_of g.G.Signer.signature_of setup l.scenario → StaysSound setup run l.fn.events → IsSimulationAt g.A.Actor.view g.A.Reader.Reading.reads setup run l.initial.simulation → IsTrue (g.K.Sink.tells l.initial.out)
      → g.K.Sink.written l.out ≡ g.K.Sink.written l.initial.out ++ printed setup run (so_far l.fn.events l.to_come.items);
  tells : g.K.Sink.tells l.out ≡ g.K.Sink.tells l.initial.out;
  faults : g.K.Sink.faults l.out ≡ g.K.Sink.faults l.initial.out;
  asked : l.simulation.seen.asked ≡ l.initial.simulation.seen.asked;
  faultless : g.K.Sink.is_faultless l.initial.out → g.K.Sink.is_faultless l.out;
}

abbrev pub decreases-loop-event : goal.decreases-loop-event
decreases-loop-event g l = vec_len l.to_come
