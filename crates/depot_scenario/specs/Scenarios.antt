-- Where a schedule is played, and who signs there.
use Rattle.std.specs.Prelude.{◌≡◌, ℕ, List}
use Rattle.depot_base.specs.declared.key.PublicKey.{PublicKey}
use Rattle.depot_base.specs.declared.key.RosterEntry.{RosterEntry}
use Rattle.depot_model.specs.exchange.Bundle.{Signs}
use Rattle.depot_model.specs.texts.Roster.{Verifies}
use Rattle.depot_schedule.specs.Schedules.{FitsEvent}
use Rattle.depot_schedule.specs.declared.event.Event.{Event}
use Rattle.depot_schedule.specs.declared.member.Member.{Member}
use Rattle.depot_schedule.specs.declared.schedule.Schedule.{Schedule}
use Rattle.depot_world.specs.Setups.{Setup}
use Rattle.depot_scenario.specs.MemberSigners.{AreSigners, MemberSigner, member_signers_of}
use Rattle.depot_scenario.specs.declared.scenario.Scenario.{Scenario}

-- ---- scenarios

-- a scenario is set as a setup says
pub record IsSet (setup : Setup) (verifies : Verifies) (height : ℕ) (listed : List RosterEntry) (members : List Member) (member_signers : List MemberSigner) : Type 0 where
  pub verifies_is : setup.suite.verifies ≡ verifies
  pub height_is : setup.height ≡ height
  pub listed_is : setup.listed ≡ listed
  pub signers_are : AreSigners setup.suite setup.height members member_signers

-- the same of the scenario as it is kept
abbrev pub IsScenarioOf : {S G : Type 0} → Verifies → (G → PublicKey) → (G → Signs) → Setup → Scenario S G → Type 0
IsScenarioOf verifies key sign setup scenario = IsSet setup verifies scenario.height scenario.roster.now scenario.members.now (member_signers_of key sign scenario.signers.now)

-- it is set as some setup says
abbrev pub IsSomeScenario : {S G : Type 0} → Verifies → (G → PublicKey) → (G → Signs) → Scenario S G → Type 0
IsSomeScenario verifies key sign scenario = (setup : Setup) × IsScenarioOf verifies key sign setup scenario

-- ---- events

-- some schedule with these members and this height may have this event
pub record MayHappen (height : ℕ) (members : List Member) (e : Event) : Type 0 where
  pub before : Schedule
  pub height_is : before.height ≡ height
  pub members_are : before.members ≡ members
  pub fits : FitsEvent before e
