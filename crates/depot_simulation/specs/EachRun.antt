-- What a call makes of any run that a simulation may be at.
use Rattle.std.specs.Prelude.{◌≡◌, ◌⊎◌, ℕ, List, [], length, Vec}
use Rattle.std.specs.declared.alloc.Global.{Global}
use Rattle.depot_base.specs.declared.key.PublicKey.{PublicKey}
use Rattle.depot_model.specs.exchange.Bundle.{Signs}
use Rattle.depot_model.specs.readers.Readers.{Reader}
use Rattle.depot_model.specs.texts.Roster.{Verifies}
use Rattle.depot_outside.specs.Told.{Sinks, Wrote, WroteFront}
use Rattle.depot_schedule.specs.declared.event.Event.{Event}
use Rattle.depot_scenario.specs.LabelUses.{AreUses}
use Rattle.depot_scenario.specs.ScenarioTexts.{IsText}
use Rattle.depot_scenario.specs.Scenarios.{IsScenarioOf}
use Rattle.depot_scenario.specs.declared.scenario.Scenario.{Scenario}
use Rattle.depot_scenario.specs.declared.texts.Text as made_text
use Rattle.depot_world.specs.Audits.{IsSound}
use Rattle.depot_world.specs.FaultySigning.{Text}
use Rattle.depot_world.specs.Run.{Run}
use Rattle.depot_world.specs.Setups.{Setup}
use Rattle.depot_world.specs.Transcript.{Done, done, printed}
use Rattle.depot_simulation.specs.Acting.{ActorView}
use Rattle.depot_simulation.specs.Doing.{HasDone, HasLeft, HasTold}
use Rattle.depot_simulation.specs.Playing.{IsSimulationAt, IsSimulationFor, StaysSound}
use Rattle.depot_simulation.specs.declared.acting.ActingNode.{ActingNode}
use Rattle.depot_simulation.specs.declared.simulation.Simulation.{Simulation}

-- ---- the runs

-- this holds for any run that the simulation is at, in any setup
abbrev pub OfEachRun : {A R : Type 0} → (A → ActorView) → (Reader → R → Type 0) → Simulation A R → (Setup → Run → Type 0) → Type 0
OfEachRun view reads simulation Of = (setup : Setup) (run : Run) → IsSimulationAt view reads setup run simulation → Of setup run

-- it holds for any setup of a scenario
abbrev pub OfEachSetupOn : {S G : Type 0} → Verifies → (G → PublicKey) → (G → Signs) → Scenario S G → (Setup → Type 0) → Type 0
OfEachSetupOn verifies key sign scenario Of = (setup : Setup) → IsScenarioOf verifies key sign setup scenario → Of setup

-- it holds for any run that the simulation is at, in any setup of a scenario
abbrev pub OfEachRunOn : {A R S G : Type 0} → Verifies → (G → PublicKey) → (G → Signs) → Scenario S G
    → (A → ActorView) → (Reader → R → Type 0) → Simulation A R → (Setup → Run → Type 0) → Type 0
OfEachRunOn verifies key sign scenario view reads simulation Of = (setup : Setup) (run : Run) → IsScenarioOf verifies key sign setup scenario
    → IsSimulationAt view reads setup run simulation → Of setup run

-- it holds of each of these whose nodes may be audited
abbrev pub OfEachSoundRunOn : {A R S G : Type 0} → Verifies → (G → PublicKey) → (G → Signs) → Scenario S G
    → (A → ActorView) → (Reader → R → Type 0) → Simulation A R → (Setup → Run → Type 0) → Type 0
OfEachSoundRunOn verifies key sign scenario view reads simulation Of = (setup : Setup) (run : Run) → IsScenarioOf verifies key sign setup scenario
    → IsSound setup run → IsSimulationAt view reads setup run simulation → Of setup run

-- it holds of what is printed of events that may be played from any run that the simulation is at, in any setup of a
-- scenario
abbrev pub OfEachPrinted : {A R S G : Type 0} → Verifies → (G → PublicKey) → (G → Signs) → Scenario S G → List Event
    → (A → ActorView) → (Reader → R → Type 0) → Simulation A R → (List ℕ → Type 0) → Type 0
OfEachPrinted verifies key sign scenario events view reads simulation Of = (setup : Setup) (run : Run) → IsScenarioOf verifies key sign setup scenario
    → StaysSound setup run events → IsSimulationAt view reads setup run simulation → Of (printed setup run events)

-- ---- the outcome of a simulation

-- For any run that the simulation was at, it is now at the one that this makes of it.
abbrev pub GoesTo : {A R : Type 0} → (A → ActorView) → (Reader → R → Type 0) → Simulation A R → (Setup → Run → Run) → Simulation A R → Type 0
GoesTo view reads old then new = OfEachRun view reads old (λ setup run. IsSimulationAt view reads setup (then setup run) new)

-- For any run that the simulation was at, this was done: these are its lines from the arrow on, and it is at the run
-- afterwards.
abbrev pub Simulates : {A R : Type 0} → (A → ActorView) → (Reader → R → Type 0) → Simulation A R → (Setup → Run → Done) → List ℕ → Simulation A R → Type 0
Simulates view reads old what lines new = OfEachRun view reads old (λ setup run. HasDone _ view reads setup (what setup run) lines new)

-- the same of the runs in the setups of a scenario
abbrev pub SimulatesOn : {A R S G : Type 0} → Verifies → (G → PublicKey) → (G → Signs) → Scenario S G
    → (A → ActorView) → (Reader → R → Type 0) → Simulation A R → (Setup → Run → Done) → List ℕ → Simulation A R → Type 0
SimulatesOn verifies key sign scenario view reads old what lines new =
    OfEachRunOn verifies key sign scenario view reads old (λ setup run. HasDone _ view reads setup (what setup run) lines new)

-- the same of those whose nodes may be audited
abbrev pub SimulatesSoundOn : {A R S G : Type 0} → Verifies → (G → PublicKey) → (G → Signs) → Scenario S G
    → (A → ActorView) → (Reader → R → Type 0) → Simulation A R → (Setup → Run → Done) → List ℕ → Simulation A R → Type 0
SimulatesSoundOn verifies key sign scenario view reads old what lines new =
    OfEachSoundRunOn verifies key sign scenario view reads old (λ setup run. HasDone _ view reads setup (what setup run) lines new)

-- An event was done of these: the lines are its lines, and the simulation is at the run afterwards.
abbrev pub PlaysEvent : {A R S G : Type 0} → Verifies → (G → PublicKey) → (G → Signs) → Scenario S G
    → (A → ActorView) → (Reader → R → Type 0) → Simulation A R → Event → List ℕ → Simulation A R → Type 0
PlaysEvent verifies key sign scenario view reads old e lines new =
    OfEachSoundRunOn verifies key sign scenario view reads old (λ setup run. HasTold _ view reads setup e (done setup run e) lines new)

-- its lines were written
abbrev pub WritesLines : {P : Type 0} → (List ℕ → P → Type 0) → Sinks → P → Type 0
WritesLines Plays sink new = (lines : List ℕ) × (Plays lines new × Wrote sink lines)

-- a prefix of them was written, or there were none and nothing was
abbrev pub WritesFront : {P : Type 0} → (List ℕ → P → Type 0) → Sinks → P → Type 0
WritesFront Plays sink new = Wrote sink [] ⊎ ((lines : List ℕ) × (Plays lines new × WroteFront sink lines))

-- ---- the node that left its place for an event

-- Whatever the simulation was before the node left, this was done.
abbrev pub Completes : {A R : Type 0} → (A → ActorView) → (Reader → R → Type 0) → ℕ → Simulation A R → ActingNode A → (Setup → Run → Done)
    → List ℕ → Simulation A R → Type 0
Completes {A = A} {R = R} view reads node left acting what lines new = (before : Simulation A R) → HasLeft A view node before left acting
    → Simulates view reads before what lines new

-- ---- what a label is given

-- For any run that the simulation is at, in any setup of a scenario, an event makes this.
abbrev pub MakesOn : {A R S G : Type 0} → Verifies → (G → PublicKey) → (G → Signs) → Scenario S G
    → (A → ActorView) → (Reader → R → Type 0) → Simulation A R → (Setup → Run → Text) → made_text.Text → Type 0
MakesOn verifies key sign scenario view reads simulation made text =
    OfEachRunOn verifies key sign scenario view reads simulation (λ setup run. IsText text (made setup run))

-- ---- labels that are forgotten

-- For any number of remaining events, and any run that the simulation was at: it is at that run for them, and the
-- remaining uses of labels are theirs.
abbrev pub ForgetsLabels : {A R : Type 0} → (A → ActorView) → (Reader → R → Type 0) → ℕ → List (Vec ℕ Global × ℕ) → Simulation A R → List (Vec ℕ Global × ℕ) → Simulation A R → Type 0
ForgetsLabels view reads many uses old left new = (to_come : List Event) → length to_come ≡ many → AreUses uses to_come
    → AreUses left to_come × OfEachRun view reads old (λ setup run. IsSimulationFor view reads setup to_come run new)
