-- What is printed of a node's event, and the event's outcome.
use Rattle.std.specs.Prelude.{◌≡◌, ℕ, List, IfOk, Option, Some, None, Result, Ok}
use Rattle.depot_base.specs.declared.record.Record.{Record}
use Rattle.depot_model.specs.exchange.Bundle.{Signs}
use Rattle.depot_model.specs.checks.Checks.{Setting}
use Rattle.depot_requests.specs.Replies.{bytes_of_reply, lines_of_reply}
use Rattle.depot_requests.specs.declared.printing.Printed.{Printed}
use Rattle.depot_requests.specs.declared.reply.Halt.{Halt}
use Rattle.depot_requests.specs.declared.reply.Reply.{Reply}
use Rattle.depot_outside.specs.Stopping.{State}
use Rattle.depot_world.specs.Run.{Host}
use Rattle.depot_requests.specs.Effects.{Effect, lines_after_arrow}
use Rattle.depot_world.specs.ScheduleStops.{event_result}
use Rattle.depot_world.specs.Setups.{Setup}
use Rattle.depot_simulation.specs.Acting.{CameTo, IsHosted, ActorView}
use Rattle.depot_simulation.specs.declared.actor.EventOutcome.{EventOutcome}
use Rattle.depot_replay.specs.MemHosts.{Appends, IsCalled}

-- these are the lines of an event without a crash, and its bytes for a label
abbrev pub IsPrintedSo : Option Printed → Effect → Type 0
IsPrintedSo None d = Unit {0}
IsPrintedSo (Some p) d = (p.lines ≡ lines_after_arrow d.answer d.behind) × (p.bytes ≡ d.bytes)

-- this is printed of a reply, or nothing is
abbrev pub PrintsReply : Result Reply Halt → Option Printed → Type 0
PrintsReply replied None = Unit {0}
PrintsReply replied (Some p) = (r : Reply) × ((replied ≡ Ok r) × ((p.lines ≡ lines_of_reply r) × (p.bytes ≡ bytes_of_reply r)))

-- The outcome of an event that was to extend the journal of a node: the node after it, the lines, and the bytes for a
-- label. It is printed as it goes, or a stop fell into it.
abbrev pub EndsAs : ActorView → List Record → Option Printed → ActorView → List ℕ → List ℕ → Type 0
EndsAs v longer printed w lines bytes = (setup : Setup) (x : Host) (d : Effect) → IsHosted setup x v → Appends d v.journal longer → IsPrintedSo printed d → CameTo setup (event_result x d) w lines bytes

-- For any node with this setting and signer before a call that left this disk and these records: the outcome of the
-- event of that call, if something is printed of it.
abbrev pub EndsCall : {A E : Type 0} → Setting → Signs → State → List Record → Result (Option Printed) E → (A → ActorView) → EventOutcome A → Type 0
EndsCall here sign t K printed view outcome = IfOk printed (λ p. (v : ActorView) (s : State) (longer : List Record) → v.here ≡ here → v.sign ≡ sign
    → IsCalled v s t K longer (p ≡ None) → EndsAs v longer p (view outcome.actor) outcome.lines outcome.bytes)
