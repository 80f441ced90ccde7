-- A correct node at work, and what an event makes of it.
use Rattle.std.specs.Prelude.{◌≡◌, ℕ, List, [], ◌∷◌, map, Option, None}
use Rattle.std.specs.List.{AllByRecursion}
use Rattle.depot_base.specs.declared.key.RosterEntry.{RosterEntry}
use Rattle.depot_base.specs.declared.record.Record.{Record}
use Rattle.depot_base.specs.declared.record.Record.TheVariants.{Birth}
use Rattle.depot_model.specs.exchange.Bundle.{Signs}
use Rattle.depot_model.specs.checks.Checks.{Setting}
use Rattle.depot_model.specs.texts.Roster.{Verifies}
use Rattle.depot_model.specs.texts.Texts.{hash_of_roster}
use Rattle.depot_model.specs.worlds.World.{Correct, Read}
use Rattle.depot_traces.specs.SeenTraces.{read_of}
use Rattle.depot_traces.specs.TraceTexts.{read_text}
use Rattle.depot_traces.specs.declared.trace.ReadTrace.{ReadTrace}
use Rattle.depot_world.specs.Audits.{traced_read}
use Rattle.depot_world.specs.Run.{PendingStop, Host}
use Rattle.depot_requests.specs.Effects.{Effect, lines_after_arrow}
use Rattle.depot_world.specs.ScheduleStops.{EventResult, event_result}
use Rattle.depot_world.specs.Setups.{Setup, stands_on, signs_on}
use Rattle.depot_simulation.specs.declared.actor.EventOutcome.{EventOutcome}

-- a node's setting, its signer, its journal, and the stop that is set on its disk
pub record ActorView : Type 0 where
  pub here : Setting
  pub sign : Signs
  pub journal : List Record
  pub pending : Option PendingStop

-- a node of this number that was just started on an empty disk
abbrev pub fresh_view : Verifies → List RosterEntry → ℕ → Signs → ActorView
fresh_view verifies listed node sign = record {
  here = record { verifies = verifies; me = node; listed = listed };
  sign = sign;
  journal = Birth node (hash_of_roster listed) ∷ [];
  pending = None;
}

-- it is the node of this host
pub record IsHosted (setup : Setup) (s : Host) (v : ActorView) : Type 0 where
  pub here : v.here ≡ stands_on setup s.correct.node
  pub sign : v.sign ≡ signs_on setup s.correct.node
  pub journal : v.journal ≡ s.correct.journal
  pub pending : v.pending ≡ s.pending

-- each of these reads has a text
abbrev pub HaveTexts : List ReadTrace → Type 0
HaveTexts = AllByRecursion (λ r. read_text.fits r)

-- these are the reads of a node, as a trace records them
pub record TellReads (rs : List Read) (told : List ReadTrace) : Type 0 where
  pub are : map read_of told ≡ map traced_read rs
  pub fit : HaveTexts told

-- a node as a simulation has it: how contracts see it, and the reads that were kept of it
pub record ParticipantView : Type 0 where
  pub view : ActorView
  pub reads : List ReadTrace

-- it is the node of this host, and these are its reads
pub record IsParticipant (setup : Setup) (s : Host) (p : ParticipantView) : Type 0 where
  pub hosted : IsHosted setup s p.view
  pub told : TellReads s.correct.reads p.reads

-- they are the nodes of these hosts, in their order
abbrev pub AreHosted : Setup → List Host → List ParticipantView → Type 0
AreHosted setup [] [] = Unit {0}
AreHosted setup [] (p ∷ ps) = ⊥
AreHosted setup (s ∷ ss) [] = ⊥
AreHosted setup (s ∷ ss) (p ∷ ps) = IsParticipant setup s p × AreHosted setup ss ps

-- This is the outcome of a node's event: the node after it, these lines, and these bytes for a label.
pub record CameTo (setup : Setup) (w : EventResult) (v : ActorView) (lines bytes : List ℕ) : Type 0 where
  pub hosted : IsHosted setup w.host v
  pub lines_are : lines ≡ lines_after_arrow w.answer w.behind
  pub bytes_are : bytes ≡ w.bytes

-- For any host that this was: the outcome of an event is one that a correct node may have, by its setting and its
-- signer.
abbrev pub Acts : {A : Type 0} → (A → ActorView) → A → (Setting → Signs → Correct → Effect) → EventOutcome A → Type 0
Acts view actor effect outcome = (setup : Setup) (s : Host) → IsHosted setup s (view actor)
    → CameTo setup (event_result s (effect (stands_on setup s.correct.node) (signs_on setup s.correct.node) s.correct)) (view outcome.actor) outcome.lines outcome.bytes
