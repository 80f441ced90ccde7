-- How a process serves a node: requests come over a source, and the replies go to a sink.
use Rattle.std.specs.Prelude.{◌≡◌, ◌<◌, ◌≤◌, ◌+◌, ◌-◌, ◌^◌, min, ℕ, Option, Some, None, List, [], ◌∷◌, ◌++◌, length, map, take, Bool, true, IsTrue, Result, Ok, Err}
use Rattle.std.specs.List.{flat_map}
use Rattle.depot_base.specs.declared.record.Record.{Record}
use Rattle.depot_streams.specs.Lasting.{LastsIn}
use Rattle.depot_model.specs.journals.JournalCalls.{Lasts}
use Rattle.depot_model.specs.journals.Replicas.{IsSameNode, journal_of}
use Rattle.depot_model.specs.journals.Stops.{HasFront}
use Rattle.depot_model.specs.declared.node_state.NodeState.{Ghosts}
use Rattle.depot_outside.specs.Told.{Sinks, Wrote}
use Rattle.depot_source.specs.Inputs.{Inputs}
use Rattle.depot_source.specs.Messages.{IsMessage, IsPartOfMessage, Message, text_of_message}
use Rattle.depot_service.specs.Bodies.{is_asked}
use Rattle.depot_service.specs.Answering.{Came, IsServing}
use Rattle.depot_session.specs.Answering.{ServesBody, came_of}
use Rattle.depot_session.specs.Hearing.{NoRequestCame}
use Rattle.depot_session.specs.declared.server_ending.ServeEnding.{ServeEnding}
use Rattle.depot_session.specs.declared.server_ending.ServeEnding.TheVariants as ending

-- the bodies of messages
abbrev pub bodies_of : List Message → List (List ℕ)
bodies_of messages = map (λ m. m.body) messages

-- a message, whose body is a request's text
pub record IsAsking (m : Message) : Type 0 where
  pub is : IsMessage m
  pub asks : is_asked m.body ≡ true

abbrev pub AreAsking : List Message → Type 0
AreAsking [] = Unit {0}
AreAsking (m ∷ messages) = IsAsking m × AreAsking messages

-- the journal that requests make of a node's journal
abbrev pub came_at : {N : Type 0} → Ghosts N → ServesBody → N → List Message → Came
came_at g f old messages = came_of f (g.records old) (bodies_of messages)

-- ---- crash images

-- The node's journal was to be extended to `then`. Every crash image of the run has the records from before and a
-- prefix of what is brought.
pub record GrowsToward {N : Type 0} (g : Ghosts N) (old new : N) (then : List Record) : Type 0 where
  pub grown : List Record
  pub is : then ≡ g.records old ++ grown
  pub lasts : Lasts (journal_of g) old new grown

-- Since this moment of the run each crash image has these records and a prefix of those.
pub record LeavesSince {N : Type 0} (g : Ghosts N) (old new : N) (moment : ℕ) (J more : List Record) : Type 0 where
  pub began : g.moment old ≤ moment
  pub past : moment ≤ g.moment new
  pub left : (image : List ℕ) → g.left_since new moment image → HasFront J more image

-- From some moment of the run on, each crash image has these records and a prefix of what later requests bring.
pub record StaysKept {N : Type 0} (g : Ghosts N) (old new : N) (J then : List Record) : Type 0 where
  pub moment : ℕ
  pub more : List Record
  pub is : then ≡ J ++ more
  pub left : IsTrue (g.tells new) → LeavesSince g old new moment J more

-- What the first requests brought, for any number of them, is kept from some moment of the run on and after it, also if
-- the disk failed in a later one or no memory was found. So no crash image after the run has less than what was
-- replied.
abbrev pub AllStayKept : {N : Type 0} → Ghosts N → ServesBody → N → N → List Message → List Record → Type 0
AllStayKept g f old new done then = (k : ℕ) → k ≤ length done → StaysKept g old new (came_at g f old (take k done)).journal then

-- ---- a run to the end of its input

-- These requests came, and each was answered: the replies were written, in their order, the journal is what they make
-- of it, and each crash image has it.
pub record AreAnswered {N : Type 0} (g : Ghosts N) (f : ServesBody) (old new : N) (input : Inputs) (sink : Sinks) (done : List Message) : Type 0 where
  pub each : AreAsking done
  pub given : input.after ≡ input.before ++ flat_map text_of_message done
  pub wrote : Wrote sink (came_at g f old done).text
  pub journal : g.records new ≡ (came_at g f old done).journal
  pub same : IsSameNode g old new
  pub running : IsServing g new
  pub brings : GrowsToward g old new (came_at g f old done).journal
  pub lawful : LastsIn g ⊥ old new
  pub kept : AllStayKept g f old new done (came_at g f old done).journal

-- All that came up to the end was requests, and each was answered.
pub record ServesWhole {N : Type 0} (g : Ghosts N) (f : ServesBody) (old new : N) (input : Inputs) (sink : Sinks) : Type 0 where
  pub done : List Message
  pub answered : AreAnswered g f old new input sink done
  pub over : input.over ≡ true

-- ---- a run that was cut short

-- The requests of the next group that were begun. More may have been read after them.
abbrev pub IsNextAsked : List Message → List ℕ → Type 0
IsNextAsked next behind = AreAsking next × ((more : List ℕ) × (behind ≡ flat_map text_of_message next ++ more))

-- what failed in the run
pub record FaultsRisen : Type 1 where
  pub disk : Type 0
  pub source : Type 0
  pub sink : Type 0

-- a node runs, with this journal
pub record RunsWith {N : Type 0} (g : Ghosts N) (node : N) (J : List Record) : Type 0 where
  pub running : IsServing g node
  pub journal : g.records node ≡ J

-- The sink failed in the replies of a group: its requests were carried out, the journal after them is kept, and a prefix
-- of the replies is written.
pub record IsHalfTold (Stands : List Record → Type 0) (comes : Came) (next : List Message) (last : List ℕ) : Type 0 where
  pub begun : 1 ≤ length next
  pub stands : Stands comes.journal
  pub count : ℕ
  pub front : last ≡ take count comes.text

-- What came is no request: nothing of it was started or replied, and the journal after those before it is kept.
pub record IsNotAsked (Stands : List Record → Type 0) (J : List Record) (next : List Message) (behind last : List ℕ) (over : Bool) (place at within : ℕ) : Type 0 where
  pub at_place : at ≡ place
  pub unbegun : next ≡ []
  pub untold : last ≡ []
  pub stands : Stands J
  pub came : NoRequestCame over behind within

-- The source failed, within a message or before it: nothing of it was started or replied, and the journal after those
-- before it is kept.
pub record IsUnheard (Stands : List Record → Type 0) (J : List Record) (next : List Message) (behind last : List ℕ) : Type 0 where
  pub unbegun : next ≡ []
  pub untold : last ≡ []
  pub stands : Stands J
  pub part : IsPartOfMessage behind

-- Why it was cut short, and what holds after the replies, where `Stands` says what is known of the journal: no memory
-- was found; the source failed, within a message or before it; the disk or the sink failed; or what came is no request,
-- and then all before it was answered. A prefix of the next replies is written only if their requests were carried out.
abbrev pub IsCutOff : (List Record → Type 0) → List Record → Came → List Message → List ℕ → List ℕ → Bool → FaultsRisen → ℕ → ServeEnding → Type 0
IsCutOff Stands J comes next behind last over risen place ending.Memory = last ≡ []
IsCutOff Stands J comes next behind last over risen place ending.Source = risen.source × IsUnheard Stands J next behind last
IsCutOff Stands J comes next behind last over risen place ending.Disk = (1 ≤ length next) × ((last ≡ []) × risen.disk)
IsCutOff Stands J comes next behind last over risen place ending.Sink = risen.sink × IsHalfTold Stands comes next last
IsCutOff Stands J comes next behind last over risen place (ending.Input at within) = IsNotAsked Stands J next behind last over place at within

-- After a journal and earlier input, the next requests may have been started, and the run was cut short.
pub record BreaksOff (f : ServesBody) (Stands : List Record → Type 0) (J : List Record) (before after : List ℕ) (over : Bool) (risen : FaultsRisen) (place : ℕ) (ends : ServeEnding) : Type 0 where
  pub next : List Message
  pub behind : List ℕ
  pub next_is : IsNextAsked next behind
  pub given : after ≡ before ++ behind
  pub last : List ℕ
  pub cut : IsCutOff Stands J (came_of f J (bodies_of next)) next behind last over risen place ends

-- the offset after messages that begin at an offset, capped at 2^64 - 1
abbrev pub place_from : ℕ → List Message → ℕ
place_from at messages = min (at + length (flat_map text_of_message messages)) (2 ^ 64 - 1)

-- the faults of a run that rose
abbrev pub faults_risen : ℕ → ℕ → Inputs → Sinks → FaultsRisen
faults_risen disk_before disk_after input sink = record {
  disk = disk_before < disk_after;
  source = input.faults_before < input.faults_after;
  sink = sink.faults_before < sink.faults_after;
}

-- The run was cut short. Some requests were answered, and their replies are complete. The next ones may have been
-- started: each crash image has the journal after the answered ones and a prefix of what the next ones bring. The first
-- message begins at an offset.
pub record ServesShort {N : Type 0} (g : Ghosts N) (f : ServesBody) (old new : N) (input : Inputs) (sink : Sinks) (place : ℕ) (ends : ServeEnding) : Type 0 where
  pub done : List Message
  pub each : AreAsking done
  pub breaks : BreaksOff f (RunsWith g new) (came_at g f old done).journal (input.before ++ flat_map text_of_message done) input.after input.over (faults_risen (g.faults old) (g.faults new) input sink) (place_from place done) ends
  pub wrote : Wrote sink ((came_at g f old done).text ++ breaks.last)
  pub same : IsSameNode g old new
  pub brings : GrowsToward g old new (came_of f (came_at g f old done).journal (bodies_of breaks.next)).journal
  pub lawful : LastsIn g (ends ≡ ending.Disk) old new
  pub kept : AllStayKept g f old new done (came_of f (came_at g f old done).journal (bodies_of breaks.next)).journal

-- The outcome of a run.
abbrev pub ServesInput : {N : Type 0} → Ghosts N → ServesBody → N → N → Inputs → Sinks → Result (Unit {0}) ServeEnding → Type 0
ServesInput g f old new input sink (Ok _) = ServesWhole g f old new input sink
ServesInput g f old new input sink (Err e) = ServesShort g f old new input sink 0 e

-- The outcome of requests that wait, the first of which begins at an offset: they were answered, and the next one begins
-- at this offset; or the run was cut short.
abbrev pub ServesWaiting : {N : Type 0} → Ghosts N → ServesBody → N → N → Inputs → Sinks → ℕ → Result ℕ ServeEnding → Type 0
ServesWaiting g f old new input sink place (Ok at) = (done : List Message) × (AreAnswered g f old new input sink done × (at ≡ place_from place done))
ServesWaiting g f old new input sink place (Err e) = ServesShort g f old new input sink place e

-- The outcome of a group of requests, the first of which begins at an offset: they were answered, and the next one
-- begins at this offset; or the input ended; or the run was cut short.
abbrev pub ServesGroup : {N : Type 0} → Ghosts N → ServesBody → N → N → Inputs → Sinks → ℕ → Result (Option ℕ) ServeEnding → Type 0
ServesGroup g f old new input sink place (Ok (Some at)) = (done : List Message) × (AreAnswered g f old new input sink done × (at ≡ place_from place done))
ServesGroup g f old new input sink place (Ok None) = ServesWhole g f old new input sink
ServesGroup g f old new input sink place (Err e) = ServesShort g f old new input sink place e

-- ---- one turn

-- A request came, and was answered: what it brings is kept, and its reply is written.
pub record HasAnswered {N : Type 0} (g : Ghosts N) (f : ServesBody) (old new : N) (input : Inputs) (sink : Sinks) : Type 0 where
  pub message : Message
  pub asks : IsAsking message
  pub given : input.after ≡ input.before ++ text_of_message message
  pub wrote : Wrote sink (f (g.records old) message.body).text
  pub journal : g.records new ≡ (f (g.records old) message.body).journal
  pub same : IsSameNode g old new
  pub running : IsServing g new
  pub brings : GrowsToward g old new (f (g.records old) message.body).journal
  pub lawful : LastsIn g ⊥ old new

-- A turn was cut short.
pub record IsTurnShort {N : Type 0} (g : Ghosts N) (f : ServesBody) (old new : N) (input : Inputs) (sink : Sinks) (place : ℕ) (ends : ServeEnding) : Type 0 where
  pub breaks : BreaksOff f (RunsWith g new) (g.records old) input.before input.after input.over (faults_risen (g.faults old) (g.faults new) input sink) place ends
  pub wrote : Wrote sink breaks.last
  pub same : IsSameNode g old new
  pub brings : GrowsToward g old new (came_of f (g.records old) (bodies_of breaks.next)).journal
  pub lawful : LastsIn g (ends ≡ ending.Disk) old new

-- The outcome of a turn: a message of so many bytes was answered; the input ended, or, of a message that isn't the first
-- of its group, none waits; or it was cut short.
abbrev pub TurnsRequest : {N : Type 0} → Ghosts N → ServesBody → N → N → Inputs → Sinks → ℕ → Bool → Result (Option ℕ) ServeEnding → Type 0
TurnsRequest g f old new input sink place first (Ok (Some long)) = (a : HasAnswered g f old new input sink) × (long ≡ length (text_of_message a.message))
TurnsRequest g f old new input sink place first (Ok None) = (new ≡ old) × ((input.after ≡ input.before) × ((first ≡ true → input.over ≡ true) × Wrote sink []))
TurnsRequest g f old new input sink place first (Err e) = IsTurnShort g f old new input sink place e
