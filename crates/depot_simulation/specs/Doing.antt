-- What an event does to a simulation.
use Rattle.std.specs.Prelude.{◌≡◌, ◌==◌, ℕ, List, [], ◌∷◌, ◌++◌, length, take, drop, remove, position, slice_get, Bool, true, false, Option, Some, None, IfSome}
use Rattle.depot_base.specs.Writes.{one_change}
use Rattle.depot_base.specs.declared.record.Record.{Record}
use Rattle.depot_base.specs.declared.update.Update.{Update}
use Rattle.depot_base.specs.declared.write.Change.{Change}
use Rattle.depot_model.specs.exchange.Bundle.{Signs}
use Rattle.depot_model.specs.journals.Journal.{accepted}
use Rattle.depot_model.specs.checks.Own.{values_of}
use Rattle.depot_model.specs.readers.Readers.{Reader}
use Rattle.depot_model.specs.worlds.Traces.{ReadTrace}
use Rattle.depot_schedule.specs.declared.event.Event.{Event}
use Rattle.depot_schedule.specs.declared.event.Event.TheVariants as event
use Rattle.depot_schedule.specs.declared.event.Ref.{Ref}
use Rattle.depot_schedule.specs.EventLines.{event_changes, event_node}
use Rattle.depot_world.specs.Audits.{traced_read}
use Rattle.depot_requests.specs.Effects.{lines_after_arrow, read_at_end}
use Rattle.depot_requests.specs.Requests.{IsRequest}
use Rattle.depot_requests.specs.declared.request.Request.{Request}
use Rattle.depot_requests.specs.declared.request.Request.TheVariants as request
use Rattle.depot_world.specs.EventRequests.{request_in}
use Rattle.depot_world.specs.ScheduleStops.{restart_by}
use Rattle.depot_world.specs.Run.{Run, bytes_of_label, seen_with}
use Rattle.depot_world.specs.FaultySigning.{Text, no_reference, counted_bytes, updated, update_text, vouched_text, proof_text, hollow_text, proof_in, flip_at}
use Rattle.depot_world.specs.Setups.{Setup, signs_on}
use Rattle.depot_world.specs.Transcript.{Done, done_at_node, judged_with, lines_of}
use Rattle.depot_simulation.specs.Acting.{ActorView}
use Rattle.depot_simulation.specs.Playing.{IsSimulationAt, IsPlayed}
use Rattle.depot_simulation.specs.declared.acting.ActingNode.{ActingNode}
use Rattle.depot_simulation.specs.declared.participant.Participant.{Participant}
use Rattle.depot_simulation.specs.declared.simulation.Simulation.{Simulation}

-- ---- all events

-- This was done: these are its lines from the arrow on, and the simulation is at the run afterwards.
pub record HasDone (A : Type 0) {R : Type 0} (view : A → ActorView) (reads : Reader → R → Type 0) (setup : Setup) (d : Done) (lines : List ℕ) (simulation : Simulation A R) : Type 0 where
  pub lines_are : lines ≡ lines_after_arrow d.answer d.behind
  pub at : IsSimulationAt view reads setup d.run simulation

-- the same of the whole lines of an event
pub record HasTold (A : Type 0) {R : Type 0} (view : A → ActorView) (reads : Reader → R → Type 0) (setup : Setup) (e : Event) (d : Done) (lines : List ℕ) (simulation : Simulation A R) : Type 0 where
  pub lines_are : lines ≡ lines_of e d
  pub at : IsSimulationAt view reads setup d.run simulation

-- ---- events of nodes

-- whatever labels and references name, its node may be asked for it
abbrev pub MayAskNode : Event → Type 0
MayAskNode e = (run : Run) → IfSome (request_in run e) IsRequest

-- the read that a node makes for a request, as a trace records it, if any
abbrev pub reads_by : List Record → Request → List ReadTrace
reads_by J (request.Get key) = traced_read (read_at_end J key) ∷ []
reads_by J r = []

-- a node is started again
abbrev pub restarted_at : Run → ℕ → Done
restarted_at run node = done_at_node run node None (λ s. restart_by s.correct)

-- the place of the first node of this number, from 0
abbrev pub place_of_node : {A : Type 0} → (A → ActorView) → ℕ → List (Participant A) → Option ℕ
place_of_node view node participants = position (λ p. (view p.actor).here.me == node) participants

-- a node away from its place, with its reads
abbrev pub participant_of : {A : Type 0} → ActingNode A → Participant A
participant_of acting = record { actor = acting.actor; reads = acting.reads }

-- The first node of this number left its place.
pub record HasLeft (A : Type 0) {R : Type 0} (view : A → ActorView) (node : ℕ) (old new : Simulation A R) (acting : ActingNode A) : Type 0 where
  pub place_is : place_of_node view node old.participants.items ≡ Some acting.seat.place
  pub part_is : slice_get old.participants.items acting.seat.place ≡ Some (participant_of acting)
  pub count_is : acting.seat.count ≡ length (accepted (view acting.actor).journal)
  pub others : new.participants.items ≡ remove old.participants.items acting.seat.place
  pub labels_stay : new.labels ≡ old.labels
  pub seen_stays : new.seen ≡ old.seen
  pub readers_stay : new.readers ≡ old.readers

-- the same, of a simulation that was at some point of some run
pub record HasLeftSimulation (A : Type 0) {R : Type 0} (view : A → ActorView) (reads : Reader → R → Type 0) (node : ℕ) (new : Simulation A R) (acting : ActingNode A) : Type 0 where
  pub before : Simulation A R
  pub played : IsPlayed view reads before
  pub left : HasLeft A view node before new acting

-- ---- events that only make a label

-- a faulty node vouches for what references name
abbrev pub vouched_by : Setup → Run → ℕ → ℕ → List Ref → Text
vouched_by setup run writer seq refs = vouched_text (signs_on setup writer) run writer seq refs

-- what it gives the label
abbrev pub text_by : Setup → Run → Event → Text
text_by setup run (event.Voucher label writer seq refs) = vouched_by setup run writer seq refs
text_by setup run (event.Proof label kind first second) = proof_text run kind first second
text_by setup run (event.Hollow label voucher plain) = hollow_text run voucher plain
text_by setup run (event.Raw label bytes) = counted_bytes bytes
text_by setup run (event.Cut label source start count) = counted_bytes (take count (drop start (bytes_of_label run source)))
text_by setup run (event.Flip label source place) = counted_bytes (flip_at place (bytes_of_label run source))
text_by setup run (event.Join label first second) = counted_bytes (bytes_of_label run first ++ bytes_of_label run second)
text_by setup run e = no_reference

abbrev pub is_text : Event → Bool
is_text (event.Voucher label writer seq refs) = true
is_text (event.Proof label kind first second) = true
is_text (event.Hollow label voucher plain) = true
is_text (event.Raw label bytes) = true
is_text (event.Cut label source start count) = true
is_text (event.Flip label source place) = true
is_text (event.Join label first second) = true
is_text e = false

-- the bytes of a label are judged as a proof
abbrev pub label_judged : Setup → Run → List ℕ → Done
label_judged setup run label = judged_with setup run (proof_in (bytes_of_label run label))

-- ---- updates that faulty nodes sign

-- a faulty node signs an update in it
abbrev pub is_signing : Event → Bool
is_signing (event.Update label writer seq clock prev key value deps history) = true
is_signing (event.Updates label writer seq clock prev changes deps history) = true
is_signing e = false

-- the update that an event signs, if its references name updates
abbrev pub update_by : Setup → Run → Event → Option Update
update_by setup run (event.Update label writer seq clock prev key value deps history) = updated (signs_on setup writer) run writer seq clock prev (one_change key value) deps history
update_by setup run (event.Updates label writer seq clock prev changes deps history) = updated (signs_on setup writer) run writer seq clock prev changes deps history
update_by setup run e = None

-- it is seen
abbrev pub with_update : Run → Option Update → Run
with_update run None = run
with_update run (Some u) = record run { seen = seen_with run.seen (u ∷ []) }

-- what its label is given
abbrev pub signed_text : Signs → List Change → Option Update → Text
signed_text sign changes None = no_reference
signed_text sign changes (Some u) = update_text sign u (values_of changes)

-- what the label of such an event is given
abbrev pub signing_by : Setup → Run → Event → Text
signing_by setup run e = signed_text (signs_on setup (event_node e)) (event_changes e) (update_by setup run e)
