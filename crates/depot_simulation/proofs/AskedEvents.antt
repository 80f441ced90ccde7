-- What an event that asks a node makes of a simulation, and a node's start from its disk.
use Rattle.std.proofs.Common.{◌≡◌, ℕ, true, eqb, List, [], ◌∷◌, ◌++◌, codes, take, Option, Some, None, refl, sym, ap, subst, ◌∙◌}
use Rattle.std.specs.Prelude.{IfSome, insert, position}
use Rattle.depot_model.specs.journals.Journal.{accepted}
use Rattle.depot_model.specs.journals.Lawful.{IsLawful}
use Rattle.depot_model.specs.readers.Readers.{Reader}
use Rattle.depot_requests.specs.Requests.{IsRequest, effect_of}
use Rattle.depot_requests.specs.declared.request.Request.{Request}
use Rattle.depot_schedule.specs.EventLines.{event_node}
use Rattle.depot_schedule.specs.declared.event.Event.{Event}
use Rattle.depot_schedule.specs.declared.event.Event.TheVariants as event
use Rattle.depot_scenario.specs.Labels.{AreLabels, labels_with}
use Rattle.depot_scenario.specs.declared.label_table.Labels.{Labels}
use Rattle.depot_world.specs.EventRequests.{asks_node, label_by, request_in}
use Rattle.depot_world.specs.Run.{Host, Labelled, Run, seen_with}
use Rattle.depot_world.specs.ScheduleStops.{event_result, restart_by}
use Rattle.depot_world.specs.Setups.{Setup, signs_on, stands_on}
use Rattle.depot_world.specs.Transcript.{Done, asked_at, asked_for, done}
use Rattle.depot_world.proofs.ReadCounts.{restart_keeps, result_reads}
use Rattle.depot_simulation.specs.Acting.{ActorView, CameTo, TellReads}
use Rattle.depot_simulation.specs.Doing.{HasDone, restarted_at}
use Rattle.depot_simulation.specs.Playing.{IsSimulationAt, WereSeen}
use Rattle.depot_simulation.specs.declared.acting.ActingNode.{ActingNode}
use Rattle.depot_simulation.specs.declared.simulation.Simulation.{Simulation}
use Rattle.depot_simulation.proofs.JournalGrowth.{request_grows, restart_grows}
use Rattle.depot_simulation.proofs.NodeEvents.{IsLeft, effect_done, effect_had_seen, nothing_done}

-- ---- what an event asks for

asks_is : (setup : Setup) (run : Run) (e : Event) → asks_node e ≡ true → done setup run e ≡ asked_for setup run (event_node e) (label_by e) (request_in run e)
unfolding done
asks_is setup run (event.Restart node) is = absurd cc
asks_is setup run (event.Update label writer seq clock prev key value deps history) is = absurd cc
asks_is setup run (event.Updates label writer seq clock prev changes deps history) is = absurd cc
asks_is setup run (event.Voucher label writer seq refs) is = absurd cc
asks_is setup run (event.Proof label kind first second) is = absurd cc
asks_is setup run (event.Hollow label voucher plain) is = absurd cc
asks_is setup run (event.Judge label) is = absurd cc
asks_is setup run (event.Raw label bytes) is = absurd cc
asks_is setup run (event.Cut label source start count) is = absurd cc
asks_is setup run (event.Flip label source place) is = absurd cc
asks_is setup run (event.Join label first second) is = absurd cc
asks_is setup run (event.Stop node call image) is = absurd cc
asks_is setup run event.Audit is = absurd cc
asks_is setup run (event.Trim node label name) is = absurd cc
asks_is setup run (event.Tgive name label) is = absurd cc
asks_is setup run (event.Tget name key) is = absurd cc
asks_is setup run e is = refl

-- a node may be asked for it
pub is_asked : (r : Request) (o : Option Request) → Some r ≡ o → IfSome o IsRequest → IsRequest r
is_asked r o is may = subst (λ (x : Option Request). IfSome x IsRequest) (sym is) may

module _ (A : Type 0) {R : Type 0} (view : A → ActorView) (reads : Reader → R → Type 0) (setup : Setup) (run : Run) (e : Event) (asks : asks_node e ≡ true) where
  by_request : (o : Option Request) (lines : List ℕ) (simulation : Simulation A R) → o ≡ request_in run e → HasDone A view reads setup (asked_for setup run (event_node e) (label_by e) o) lines simulation → HasDone A view reads setup (done setup run e) lines simulation
  by_request o lines simulation is done_so = subst (λ (d : Done). HasDone A view reads setup d lines simulation) (ap (asked_for setup run (event_node e) (label_by e)) is ∙ sym (asks_is setup run e asks)) done_so

  -- the node did it
  pub asked_done : (r : Request) (lines : List ℕ) (simulation : Simulation A R) → Some r ≡ request_in run e → HasDone A view reads setup (asked_at setup run (event_node e) (label_by e) r) lines simulation → HasDone A view reads setup (done setup run e) lines simulation
  asked_done r lines simulation is done_so = by_request (Some r) lines simulation is done_so

  -- no node is there
  pub asked_nowhere : (r : Request) (simulation : Simulation A R) → Some r ≡ request_in run e → position (λ p. eqb (view p.actor).here.me (event_node e)) simulation.participants.items ≡ None → IsSimulationAt view reads setup run simulation → HasDone A view reads setup (done setup run e) (10 ∷ []) simulation
  asked_nowhere r simulation is none at =
      by_request (Some r) (10 ∷ []) simulation is (nothing_done A view reads setup run (event_node e) (label_by e) (λ s. effect_of (stands_on setup (event_node e)) (signs_on setup (event_node e)) s.correct r) simulation none at)

  -- a reference names nothing
  pub asked_nothing : (simulation : Simulation A R) → None ≡ request_in run e → IsSimulationAt view reads setup run simulation → HasDone A view reads setup (done setup run e) (codes " NoRef" ++ 10 ∷ []) simulation
  asked_nothing simulation is at = by_request None (codes " NoRef" ++ 10 ∷ []) simulation is (record { lines_are = refl; at = at })

-- ---- the node that is asked

module _ (A : Type 0) {R : Type 0} (view : A → ActorView) (reads : Reader → R → Type 0) (setup : Setup) (run : Run) (node : ℕ) (left : Simulation A R) (acting : ActingNode A) (i : IsLeft A view reads setup run node left acting) (after : A) (lines bytes : List ℕ) where
  -- it did it in its place
  abbrev pub DidRequest : Request → Type 0
  DidRequest r = CameTo setup (event_result i.host (effect_of (stands_on setup i.host.correct.node) (signs_on setup i.host.correct.node) i.host.correct r)) (view after) lines bytes

  pub request_had_seen : (r : Request) → DidRequest r → WereSeen left.seen.listed.updates (take acting.seat.count (accepted (view after).journal))
  request_had_seen r came =
      let here = stands_on setup i.host.correct.node in
      let sign = signs_on setup i.host.correct.node in
      effect_had_seen A view reads setup run node (effect_of here sign i.host.correct r) left acting after lines bytes i came (request_grows here sign i.host r)

  pub request_done : (r : Request) (label : Option (List ℕ)) (before new : Simulation A R) (kept : List _) → IsLawful (view after).here (view after).journal → IsSimulationAt view reads setup run before → DidRequest r
      → TellReads (event_result i.host (effect_of (stands_on setup i.host.correct.node) (signs_on setup i.host.correct.node) i.host.correct r)).host.correct.reads kept
      → new.participants.items ≡ insert left.participants.items acting.seat.place (record { actor = after; reads = kept }) → new.seen.listed.updates ≡ seen_with left.seen.listed.updates (accepted (view after).journal)
      → ((labels : List Labelled) → AreLabels left.labels.map.entries labels → AreLabels new.labels.map.entries (labels_with labels label bytes)) → new.readers ≡ left.readers
      → HasDone A view reads setup (asked_at setup run node label r) lines new
  request_done r label before new kept lawful at came told participants seen labels readers =
      let of = λ (n : ℕ) (s : Host). effect_of (stands_on setup n) (signs_on setup n) s.correct r in
      effect_done A view reads setup run node label (of node) before left new acting (record { actor = after; reads = kept }) lines bytes lawful at i
      (subst (λ (n : ℕ). CameTo setup (event_result i.host (of n i.host)) (view after) lines bytes) i.is came)
      (subst (λ (n : ℕ). TellReads (event_result i.host (of n i.host)).host.correct.reads kept) i.is told) participants seen labels readers

  -- ---- a node that is started again

  abbrev pub DidRestart : Type 0
  DidRestart = CameTo setup (event_result i.host (restart_by i.host.correct)) (view after) lines bytes

  pub restart_had_seen : DidRestart → WereSeen left.seen.listed.updates (take acting.seat.count (accepted (view after).journal))
  restart_had_seen came = effect_had_seen A view reads setup run node (restart_by i.host.correct) left acting after lines bytes i came (restart_grows i.host)

  pub restart_done : (before new : Simulation A R) → IsLawful (view after).here (view after).journal → IsSimulationAt view reads setup run before → DidRestart
      → new.participants.items ≡ insert left.participants.items acting.seat.place (record { actor = after; reads = acting.reads }) → new.seen.listed.updates ≡ seen_with left.seen.listed.updates (accepted (view after).journal) → new.labels ≡ left.labels → new.readers ≡ left.readers
      → HasDone A view reads setup (restarted_at run node) lines new
  restart_done before new lawful at came participants seen labels readers =
      let told : TellReads (event_result i.host (restart_by i.host.correct)).host.correct.reads acting.reads = subst (λ (rs : List _). TellReads rs acting.reads) (sym (result_reads i.host (restart_by i.host.correct) (restart_keeps i.host.correct))) i.told in
      effect_done A view reads setup run node None (λ s. restart_by s.correct) before left new acting (record { actor = after; reads = acting.reads }) lines bytes lawful at i came told participants seen
      (λ ls are. subst (λ (x : Labels). AreLabels x.map.entries ls) (sym labels) are) readers
