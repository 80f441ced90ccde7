-- What a call makes of the journal of a hosted node, as its disk and a run see it.
use Rattle.std.proofs.Common.{◌≡◌, List, ◌++◌, refl}
use Rattle.depot_base.specs.Calls.{Made, made, FailsAmong}
use Rattle.depot_base.specs.Format.{whole}
use Rattle.depot_base.specs.declared.record.Record.{Record}
use Rattle.depot_model.specs.exchange.Bundle.{Signs}
use Rattle.depot_model.specs.checks.Checks.{Setting}
use Rattle.depot_model.specs.journals.JournalCalls.{CallsDisk, JournalView}
use Rattle.depot_model.specs.journals.Stops.{calls_to_record}
use Rattle.depot_model.specs.worlds.World.{Correct}
use Rattle.depot_outside.specs.Stopping.{State, CallsLead}
use Rattle.depot_requests.specs.Effects.{Effect}
use Rattle.depot_world.specs.Run.{Host}
use Rattle.depot_world.specs.Setups.{Setup, signs_on, stands_on}
use Rattle.depot_simulation.specs.Acting.{IsHosted, ActorView}
use Rattle.depot_replay.specs.MemHosts.{Appends}

-- ---- calls on a node, as its disk sees them

-- The disk was called to append what the journal grew by, or, where it failed, some of what was to be appended.
pub record IsDoneOn (s t : State) (J K appends : List Record) (failed : Type 0) : Type 0 where
  pub whole : (failed → ⊥) → (grown : List Record) → K ≡ J ++ grown → CallsLead s (made (calls_to_record J grown)) t
  pub part : failed → FailsAmong CallsLead s t (calls_to_record J appends)

pub done_on : {N : Type 0} {v : JournalView N} {failed : Type 0} (old new : N) (s t : State) (appends : List Record) → CallsDisk v old new appends failed → ((calls : List Made) → v.after old calls new → CallsLead s calls t)
    → IsDoneOn s t (v.records old) (v.records new) appends failed
done_on old new s t appends c sees = record {
  whole = λ well grown is. sees _ (c.whole well grown is);
  part = λ f. let p = c.part f in record { before = p.before; failing = p.failing; rest = p.rest; parts = p.parts; fails = sees _ p.fails };
}

-- ---- a host

-- what a effect makes of the journal is the same for the node of a host
pub appends_there : (longer : Setting → Signs → List Record → List Record) (effect : Setting → Signs → Correct → Effect) → ((here : Setting) (sign : Signs) (c : Correct) → here.me ≡ c.node → Appends (effect here sign c) c.journal (longer here sign c.journal))
    → (setup : Setup) (x : Host) (v : ActorView) → IsHosted setup x v → Appends (effect (stands_on setup x.correct.node) (signs_on setup x.correct.node) x.correct) v.journal (longer v.here v.sign v.journal)
appends_there longer effect all setup x v mem_host =
    rw (mem_host.here, mem_host.sign, mem_host.journal) (all (stands_on setup x.correct.node) (signs_on setup x.correct.node) x.correct refl)
