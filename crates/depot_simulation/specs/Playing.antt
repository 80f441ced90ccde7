-- A run of a schedule at work, and what a run always has.
use Rattle.std.specs.Prelude.{◌≡◌, ℕ, ◌+◌, ◌*◌, ◌≤◌, List, [], Vec, true, Option, Some, length, map, take}
use Rattle.std.specs.List.{AllByRecursion}
use Rattle.depot_base.specs.declared.limits.TheConstants.{MOST_CORRECT, MOST_LINES, MOST_RECORDS}
use Rattle.depot_base.specs.declared.statement.Signed.{Signed}
use Rattle.depot_base.specs.declared.update.Update.{Update}
use Rattle.depot_base.specs.declared.key.PublicKey.{PublicKey}
use Rattle.depot_model.specs.exchange.Bundle.{Signs}
use Rattle.depot_model.specs.journals.Journal.{accepted, has_id, update_in}
use Rattle.depot_model.specs.lists.Lists.{IsIn}
use Rattle.depot_model.specs.updates.Order.{IsCausal}
use Rattle.depot_model.specs.readers.Readers.{Reader}
use Rattle.depot_model.specs.texts.Roster.{Verifies}
use Rattle.depot_model.specs.texts.Texts.{IsSigned, id_of_update}
use Rattle.depot_schedule.specs.declared.event.Event.{Event}
use Rattle.depot_world.specs.Audits.{IsSound}
use Rattle.depot_world.specs.Forgetting.{IsAlikeFor}
use Rattle.depot_world.specs.Run.{Labelled, Run, Host}
use Rattle.depot_world.specs.Setups.{Setup}
use Rattle.depot_world.specs.Transcript.{run_after}
use Rattle.depot_simulation.specs.Acting.{ActorView, ParticipantView, AreHosted}
use Rattle.depot_simulation.specs.Readers.{AreReaders}
use Rattle.depot_scenario.specs.Scenarios.{IsScenarioOf}
use Rattle.depot_scenario.specs.Labels.{AreLabels}
use Rattle.depot_scenario.specs.declared.label_table.Given.{Given}
use Rattle.depot_scenario.specs.declared.scenario.Scenario.{Scenario}
use Rattle.depot_simulation.specs.declared.participant.Participant.{Participant}
use Rattle.depot_simulation.specs.declared.simulation.Simulation.{Simulation}
use Rattle.std.specs.declared.alloc.Global.{Global}

-- each of these updates was seen
abbrev pub WereSeen : List Update → List Update → Type 0
WereSeen seen us = AllByRecursion (λ u. has_id seen (id_of_update u) ≡ true) us

-- What was seen: each update comes after its parents; all that correct nodes accepted is there; each signed statement
-- of a label has a text, and its update is there.
pub record IsRemembered (run : Run) : Type 0 where
  pub causal : IsCausal [] run.seen
  pub accepted_were : (s : Host) → IsIn s run.hosts → WereSeen run.seen (accepted s.correct.journal)
  pub signed_are : (m : Labelled) (s : Signed) → IsIn m run.labels → m.signed ≡ Some s → IsSigned s
  pub signed_were : (m : Labelled) (s : Signed) → IsIn m run.labels → m.signed ≡ Some s → WereSeen run.seen (update_in s.statement)

-- Nodes with their reads, labels, updates and readers are those of a run, which was remembered.
pub record IsRunAt {R : Type 0} (reads : Reader → R → Type 0) (setup : Setup) (run : Run) (participants : List ParticipantView) (labels : List (Vec ℕ Global × Given)) (seen : List Update) (readers : List (Vec ℕ Global × Option R)) : Type 0 where
  pub hosted : AreHosted setup run.hosts participants
  pub labels_are : AreLabels labels run.labels
  pub seen_are : seen ≡ run.seen
  pub readers_are : AreReaders reads readers run.readers
  pub remembered : IsRemembered run

-- a participant of a simulation, seen by what is seen of its node
abbrev pub participant_by : {A : Type 0} → (A → ActorView) → Participant A → ParticipantView
participant_by view p = record { view = view p.actor; reads = p.reads }

-- a simulation is at this point of a run
abbrev pub IsSimulationAt : {A R : Type 0} → (A → ActorView) → (Reader → R → Type 0) → Setup → Run → Simulation A R → Type 0
IsSimulationAt view reads setup run simulation = IsRunAt reads setup run (map (participant_by view) simulation.participants.items) simulation.labels.map.entries simulation.seen.listed.updates simulation.readers.map.entries

-- a simulation is at this run, except for labels that none of these events names
pub record IsSimulationFor {A R : Type 0} (view : A → ActorView) (reads : Reader → R → Type 0) (setup : Setup) (es : List Event) (run : Run) (simulation : Simulation A R) : Type 0 where
  pub few : Run
  pub alike : IsAlikeFor es run few
  pub at : IsSimulationAt view reads setup few simulation

-- how many updates a run sees at most: a record of a correct node accepts at most one, and a line of a schedule makes
-- at most one
abbrev pub most_seen : ℕ
most_seen = MOST_CORRECT * MOST_RECORDS + MOST_LINES

-- a simulation is at some point of some run, which saw no more updates than a run may
pub record IsPlayed {A R : Type 0} (view : A → ActorView) (reads : Reader → R → Type 0) (simulation : Simulation A R) : Type 0 where
  pub setup : Setup
  pub run : Run
  pub few : length run.seen ≤ most_seen
  pub at : IsSimulationAt view reads setup run simulation

-- the same in the setup of this scenario, of a run whose nodes may be audited
pub record IsPlayedOn {A R S G : Type 0} (verifies : Verifies) (key : G → PublicKey) (sign : G → Signs) (scenario : Scenario S G) (view : A → ActorView) (reads : Reader → R → Type 0) (simulation : Simulation A R) : Type 0 where
  pub setup : Setup
  pub run : Run
  pub on : IsScenarioOf verifies key sign setup scenario
  pub sound : IsSound setup run
  pub few : length run.seen ≤ most_seen
  pub at : IsSimulationAt view reads setup run simulation

-- the nodes of a run may be audited before each of these events, and after them
abbrev pub StaysSound : Setup → Run → List Event → Type 0
StaysSound setup run events = (n : ℕ) → IsSound setup (run_after setup run (take n events))

-- a simulation is at some point of some run, in the setup of this scenario, from which these events may be played: with
-- the updates seen they are no more than the lines of a schedule
pub record MayPlay {A R S G : Type 0} (verifies : Verifies) (key : G → PublicKey) (sign : G → Signs) (scenario : Scenario S G) (events : List Event) (view : A → ActorView) (reads : Reader → R → Type 0) (simulation : Simulation A R) : Type 0 where
  pub setup : Setup
  pub run : Run
  pub on : IsScenarioOf verifies key sign setup scenario
  pub sound : StaysSound setup run events
  pub few : length run.seen + length events ≤ MOST_LINES
  pub at : IsSimulationAt view reads setup run simulation
