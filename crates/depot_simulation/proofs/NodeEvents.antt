-- What an event of a node makes of a simulation.
use Rattle.std.proofs.Common.{◌≡◌, ◌≤◌, ℕ, false, eqb, List, [], ◌∷◌, ◌++◌, codes, take, length, map, Option, Some, None, refl, sym, ap, subst, ◌∙◌, arith}
use Rattle.std.specs.Prelude.{insert, position}
use Rattle.std.proofs.lemmas.List.Edits.{length-remove}
use Rattle.std.proofs.lemmas.Option.{slice_get_within}
use Rattle.depot_base.specs.declared.record.Record.{Record}
use Rattle.depot_base.specs.declared.update.Update.{Update}
use Rattle.depot_laws.proofs.records.Causes.{lawful_is_causal}
use Rattle.depot_model.specs.journals.Journal.{accepted}
use Rattle.depot_model.specs.journals.Lawful.{IsLawful}
use Rattle.depot_model.specs.updates.Order.{IsCausal}
use Rattle.depot_model.specs.readers.Readers.{Reader}
use Rattle.depot_requests.specs.Effects.{Effect, lines_after_arrow}
use Rattle.depot_world.specs.Run.{Labelled, Run, Host, host_in, put_host, seen_with, with_host}
use Rattle.depot_world.specs.ScheduleStops.{EventResult, event_result}
use Rattle.depot_world.specs.Setups.{Setup}
use Rattle.depot_world.specs.Transcript.{Done, pending_at, done_at_node, done_by_node}
use Rattle.depot_model.proofs.of_journals.FeedGrowth.{IsGrown, grown_none}
use Rattle.depot_world.proofs.of_worlds.GoodRuns.{found_is}
use Rattle.depot_simulation.specs.Acting.{ActorView, AreHosted, CameTo, IsParticipant, IsHosted, TellReads}
use Rattle.depot_simulation.specs.Doing.{HasDone, HasLeft, participant_of}
use Rattle.depot_scenario.specs.Labels.{AreLabels, labels_with}
use Rattle.depot_simulation.specs.Playing.{IsSimulationAt, IsRemembered, WereSeen, participant_by}
use Rattle.depot_simulation.specs.Readers.{AreReaders}
use Rattle.depot_simulation.specs.declared.acting.ActingNode.{ActingNode}
use Rattle.depot_scenario.specs.declared.label_table.Labels.{Labels}
use Rattle.depot_simulation.specs.declared.participant.Participant.{Participant}
use Rattle.depot_simulation.specs.declared.simulation.Simulation.{Simulation}
use Rattle.depot_simulation.specs.declared.readers.Readers.{Readers}
use Rattle.depot_scenario.specs.declared.known_updates.KnownUpdates.{KnownUpdates}
use Rattle.depot_simulation.proofs.NewUpdates.{accepted_front}
use Rattle.depot_simulation.proofs.RememberedRuns.{same_node, host_remembers, label_remembers, none_is_kept}
use Rattle.depot_simulation.proofs.HostPlaces.{host_place_at, no_host_place}

-- ---- the event of a node that is there, and of one that isn't

at_node : Run → Option (List ℕ) → (Host → Effect) → Option Host → Done
at_node run label effect o = elim o as (λ x. Done) [
  | None ↦ record { answer = []; behind = []; run = run }
  | Some s ↦ done_by_node run label (event_result s (effect s))
]

pub there_is : (run : Run) (node : ℕ) (label : Option (List ℕ)) (effect : Host → Effect) (s : Host) → host_in run.hosts node ≡ Some s → done_at_node run node label effect ≡ done_by_node run label (event_result s (effect s))
unfolding done_at_node at_node
there_is run node label effect s found = ap (at_node run label effect) found

pub none_is : (run : Run) (node : ℕ) (label : Option (List ℕ)) (effect : Host → Effect) → host_in run.hosts node ≡ None → done_at_node run node label effect ≡ record { answer = []; behind = []; run = run }
unfolding done_at_node at_node
none_is run node label effect found = ap (at_node run label effect) found

-- an event of a node that isn't there says nothing
pub nothing_done : (A : Type 0) {R : Type 0} (view : A → ActorView) (reads : Reader → R → Type 0) (setup : Setup) (run : Run) (node : ℕ) (label : Option (List ℕ)) (effect : Host → Effect) (simulation : Simulation A R) → position (λ p. eqb (view p.actor).here.me node) simulation.participants.items ≡ None → IsSimulationAt view reads setup run simulation
    → HasDone A view reads setup (done_at_node run node label effect) (10 ∷ []) simulation
nothing_done A view reads setup run node label effect simulation none at =
    subst (λ (d : Done). HasDone A view reads setup d (10 ∷ []) simulation) (sym (none_is run node label effect (no_host_place (participant_by view) setup run.hosts simulation.participants.items node at.hosted none))) (record { lines_are = refl; at = at })

-- ---- a node that leaves its place

-- what a simulation that a node left has of the run
pub record IsLeft (A : Type 0) {R : Type 0} (view : A → ActorView) (reads : Reader → R → Type 0) (setup : Setup) (run : Run) (node : ℕ) (left : Simulation A R) (acting : ActingNode A) : Type 0 where
  pub host : Host
  pub found : host_in run.hosts node ≡ Some host
  pub is : host.correct.node ≡ node
  pub hosted : IsHosted setup host (view acting.actor)
  pub told : TellReads host.correct.reads acting.reads
  pub count_is : acting.seat.count ≡ length (accepted host.correct.journal)
  pub back : (w : Host) (x : Participant A) → w.correct.node ≡ node → IsParticipant setup w (participant_by view x) → AreHosted setup (put_host w run.hosts) (map (participant_by view) (insert left.participants.items acting.seat.place x))
  pub labels_are : AreLabels left.labels.map.entries run.labels
  pub seen_are : left.seen.listed.updates ≡ run.seen
  pub readers_are : AreReaders reads left.readers.map.entries run.readers
  pub accepted_were : WereSeen run.seen (accepted host.correct.journal)

pub left_is : (A : Type 0) {R : Type 0} (view : A → ActorView) (reads : Reader → R → Type 0) (setup : Setup) (run : Run) (node : ℕ) (before left : Simulation A R) (acting : ActingNode A) → HasLeft A view node before left acting → IsSimulationAt view reads setup run before → IsLeft A view reads setup run node left acting
left_is A {R = R} view reads setup run node before left acting l at =
    let host_place = host_place_at (participant_by view) setup run.hosts before.participants.items node acting.seat.place at.hosted l.place_is in
    let f = found_is run.hosts node host_place.host host_place.found in
    let same : host_place.actor ≡ participant_of acting = cc (host_place.at, l.part_is) in
    let sits : IsParticipant setup host_place.host (participant_by view (participant_of acting)) = subst (λ (x : Participant A). IsParticipant setup host_place.host (participant_by view x)) same host_place.hosted in
    record {
      host = host_place.host;
      found = host_place.found;
      is = f.is;
      hosted = sits.hosted;
      told = sits.told;
      count_is = l.count_is ∙ ap (λ (J : List Record). length (accepted J)) sits.hosted.journal;
      back = λ w x number is. subst (λ (xs : List (Participant A)). AreHosted setup (put_host w run.hosts) (map (participant_by view) (insert xs acting.seat.place x))) (sym l.others) (host_place.back w x number is);
      labels_are = subst (λ (ls : Labels). AreLabels ls.map.entries run.labels) (sym l.labels_stay) at.labels_are;
      seen_are = ap (λ (x : KnownUpdates). x.listed.updates) l.seen_stays ∙ at.seen_are;
      readers_are = subst (λ (rs : Readers R). AreReaders reads rs.map.entries run.readers) (sym l.readers_stay) at.readers_are;
      accepted_were = at.remembered.accepted_were host_place.host f.on;
    }

-- its place is one among the others, or after them
pub place_within : (A : Type 0) {R : Type 0} (view : A → ActorView) (node : ℕ) (before left : Simulation A R) (acting : ActingNode A) → HasLeft A view node before left acting → acting.seat.place ≤ length left.participants.items
place_within A view node before left acting l =
    let within = slice_get_within before.participants.items acting.seat.place (participant_of acting) l.part_is in
    omega (arith, length-remove before.participants.items acting.seat.place within, ap length l.others)

-- ---- and comes back

-- what it had accepted when it left was seen
pub had_seen : (A : Type 0) {R : Type 0} (view : A → ActorView) (reads : Reader → R → Type 0) (setup : Setup) (run : Run) (node : ℕ) (left : Simulation A R) (acting : ActingNode A) (K : List Record) → (i : IsLeft A view reads setup run node left acting) → IsGrown i.host.correct.journal K
    → WereSeen left.seen.listed.updates (take acting.seat.count (accepted K))
had_seen A view reads setup run node left acting K i grown =
    let J = i.host.correct.journal in
    let front : take acting.seat.count (accepted K) ≡ accepted J = ap (λ (n : ℕ). take n (accepted K)) i.count_is ∙ accepted_front J K grown in
    subst (λ (us : List Update). WereSeen us (take acting.seat.count (accepted K))) (sym i.seen_are) (subst (λ (us : List Update). WereSeen run.seen us) (sym front) i.accepted_were)

-- the event was done, once the node is back
done_at : (A : Type 0) {R : Type 0} (view : A → ActorView) (reads : Reader → R → Type 0) (setup : Setup) (run : Run) (o : Option (List ℕ)) (w : EventResult) (lines : List ℕ) (new : Simulation A R) → lines ≡ lines_after_arrow w.answer w.behind
    → AreHosted setup (put_host w.host run.hosts) (map (participant_by view) new.participants.items) → AreLabels new.labels.map.entries (labels_with run.labels o w.bytes)
    → new.seen.listed.updates ≡ seen_with run.seen (accepted w.host.correct.journal) → AreReaders reads new.readers.map.entries run.readers → IsCausal [] (accepted w.host.correct.journal) → IsRemembered run → HasDone A view reads setup (done_by_node run o w) lines new
unfolding with_host
done_at A view reads setup run None w lines new told hosted labels seen_are readers causal r = record {
  lines_are = told;
  at = record { hosted = hosted; labels_are = labels; seen_are = seen_are; readers_are = readers; remembered = host_remembers run w.host r causal };
}
done_at A view reads setup run (Some label) w lines new told hosted labels seen_are readers causal r = record {
  lines_are = told;
  at = record {
    hosted = hosted;
    labels_are = labels;
    seen_are = seen_are;
    readers_are = readers;
    remembered = label_remembers (with_host run w.host) (record { label = label; bytes = w.bytes; signed = None; plain = false }) (host_remembers run w.host r causal) (none_is_kept (seen_with run.seen (accepted w.host.correct.journal)));
  };
}

-- the node is back, and its bytes are under their label
pub comes_back : (A : Type 0) {R : Type 0} (view : A → ActorView) (reads : Reader → R → Type 0) (setup : Setup) (run : Run) (node : ℕ) (o : Option (List ℕ)) (before left new : Simulation A R) (acting : ActingNode A) (after : Participant A) (lines bytes : List ℕ) (w : EventResult) → IsLawful (view after.actor).here (view after.actor).journal
    → IsSimulationAt view reads setup run before → (i : IsLeft A view reads setup run node left acting) → CameTo setup w (view after.actor) lines bytes → w.host.correct.node ≡ i.host.correct.node → TellReads w.host.correct.reads after.reads
    → new.participants.items ≡ insert left.participants.items acting.seat.place after
    → new.seen.listed.updates ≡ seen_with left.seen.listed.updates (accepted (view after.actor).journal)
    → ((labels : List Labelled) → AreLabels left.labels.map.entries labels → AreLabels new.labels.map.entries (labels_with labels o bytes)) → new.readers ≡ left.readers
    → HasDone A view reads setup (done_by_node run o w) lines new
comes_back A {R = R} view reads setup run node o before left new acting after lines bytes w lawful at i came same told participants seen labels readers =
    let hosted = i.back w.host after (same ∙ i.is) (record { hosted = came.hosted; told = told }) in
    let journal = came.hosted.journal in
    done_at A view reads setup run o w lines new came.lines_are
    (subst (λ (xs : List (Participant A)). AreHosted setup (put_host w.host run.hosts) (map (participant_by view) xs)) (sym participants) hosted)
    (subst (λ (b : List ℕ). AreLabels new.labels.map.entries (labels_with run.labels o b)) came.bytes_are (labels run.labels i.labels_are))
    (seen ∙ ap (λ (us : List Update). seen_with us (accepted (view after.actor).journal)) i.seen_are ∙ ap (λ (J : List Record). seen_with run.seen (accepted J)) journal)
    (subst (λ (rs : Readers R). AreReaders reads rs.map.entries run.readers) (sym readers) i.readers_are)
    (subst (λ (J : List Record). IsCausal [] (accepted J)) journal (lawful_is_causal (view after.actor).here (view after.actor).journal lawful))
    at.remembered

-- ---- what an event does

-- what the node had accepted before it was seen
pub effect_had_seen : (A : Type 0) {R : Type 0} (view : A → ActorView) (reads : Reader → R → Type 0) (setup : Setup) (run : Run) (node : ℕ) (d : Effect) (left : Simulation A R) (acting : ActingNode A) (after : A) (lines bytes : List ℕ) → (i : IsLeft A view reads setup run node left acting) → CameTo setup (event_result i.host d) (view after) lines bytes
    → IsGrown i.host.correct.journal (event_result i.host d).host.correct.journal → WereSeen left.seen.listed.updates (take acting.seat.count (accepted (view after).journal))
effect_had_seen A view reads setup run node d left acting after lines bytes i came grown =
    let K = (event_result i.host d).host.correct.journal in
    subst (λ (x : List Record). WereSeen left.seen.listed.updates (take acting.seat.count (accepted x))) (sym came.hosted.journal) (had_seen A view reads setup run node left acting K i grown)

-- the event was done
pub effect_done : (A : Type 0) {R : Type 0} (view : A → ActorView) (reads : Reader → R → Type 0) (setup : Setup) (run : Run) (node : ℕ) (label : Option (List ℕ)) (effect : Host → Effect) (before left new : Simulation A R) (acting : ActingNode A) (after : Participant A) (lines bytes : List ℕ) → IsLawful (view after.actor).here (view after.actor).journal
    → IsSimulationAt view reads setup run before → (i : IsLeft A view reads setup run node left acting) → CameTo setup (event_result i.host (effect i.host)) (view after.actor) lines bytes → TellReads (event_result i.host (effect i.host)).host.correct.reads after.reads
    → new.participants.items ≡ insert left.participants.items acting.seat.place after → new.seen.listed.updates ≡ seen_with left.seen.listed.updates (accepted (view after.actor).journal)
    → ((labels : List Labelled) → AreLabels left.labels.map.entries labels → AreLabels new.labels.map.entries (labels_with labels label bytes)) → new.readers ≡ left.readers
    → HasDone A view reads setup (done_at_node run node label effect) lines new
effect_done A view reads setup run node label effect before left new acting after lines bytes lawful at i came told participants seen labels readers =
    subst (λ (d : Done). HasDone A view reads setup d lines new) (sym (there_is run node label effect i.host i.found))
    (comes_back A view reads setup run node label before left new acting after lines bytes (event_result i.host (effect i.host)) lawful at i came (same_node i.host (effect i.host)) told participants seen labels readers)

-- ---- stops

-- a host with a stop
abbrev pub pending_host : Host → ℕ → ℕ → Host
pending_host s call image = record { correct = s.correct; pending = Some (record { call = call; image = image }) }

at_host : Run → ℕ → ℕ → Option Host → Done
at_host run call image o = elim o as (λ x. Done) [
  | None ↦ record { answer = []; behind = []; run = run }
  | Some s ↦ record { answer = codes " armed"; behind = []; run = with_host run (pending_host s call image) }
]

pending_is : (run : Run) (node call image : ℕ) (s : Host) → host_in run.hosts node ≡ Some s
    → pending_at run node call image ≡ done_by_node run None (record { host = pending_host s call image; answer = codes " armed"; behind = []; bytes = [] })
unfolding pending_at at_host
pending_is run node call image s found = ap (at_host run call image) found

unarmed_is : (run : Run) (node call image : ℕ) → host_in run.hosts node ≡ None → pending_at run node call image ≡ record { answer = []; behind = []; run = run }
unfolding pending_at at_host
unarmed_is run node call image none = ap (at_host run call image) none

-- no node is there
pub nothing_pending : (A : Type 0) {R : Type 0} (view : A → ActorView) (reads : Reader → R → Type 0) (setup : Setup) (run : Run) (node call image : ℕ) (simulation : Simulation A R) → position (λ p. eqb (view p.actor).here.me node) simulation.participants.items ≡ None → IsSimulationAt view reads setup run simulation → HasDone A view reads setup (pending_at run node call image) (10 ∷ []) simulation
nothing_pending A view reads setup run node call image simulation none at =
    subst (λ (d : Done). HasDone A view reads setup d (10 ∷ []) simulation) (sym (unarmed_is run node call image (no_host_place (participant_by view) setup run.hosts simulation.participants.items node at.hosted none))) (record { lines_are = refl; at = at })

-- the node with the stop is that of its host
pending_host_place : (setup : Setup) (s : Host) (v after : ActorView) (call image : ℕ) → IsHosted setup s v → after ≡ record v { pending = Some (record { call = call; image = image }) } → IsHosted setup (pending_host s call image) after
pending_host_place setup s v after call image hosted is = subst (λ (x : ActorView). IsHosted setup (pending_host s call image) x) (sym is) (record { here = hosted.here; sign = hosted.sign; journal = hosted.journal; pending = refl })

-- what it had accepted was seen
pub pending_had_seen : (A : Type 0) {R : Type 0} (view : A → ActorView) (reads : Reader → R → Type 0) (setup : Setup) (run : Run) (node : ℕ) (left : Simulation A R) (acting : ActingNode A) (after : A) (call image : ℕ) → IsLeft A view reads setup run node left acting → view after ≡ record (view acting.actor) { pending = Some (record { call = call; image = image }) }
    → WereSeen left.seen.listed.updates (take acting.seat.count (accepted (view after).journal))
pending_had_seen A view reads setup run node left acting after call image i is =
    let host_place = pending_host_place setup i.host (view acting.actor) (view after) call image i.hosted is in
    subst (λ (x : List Record). WereSeen left.seen.listed.updates (take acting.seat.count (accepted x))) (sym host_place.journal) (had_seen A view reads setup run node left acting i.host.correct.journal i (grown_none i.host.correct.journal))

-- the stop was set
pub stop_set : (A : Type 0) {R : Type 0} (view : A → ActorView) (reads : Reader → R → Type 0) (setup : Setup) (run : Run) (node call image : ℕ) (before left new : Simulation A R) (acting : ActingNode A) (after : A) → IsLawful (view after).here (view after).journal → IsSimulationAt view reads setup run before
    → IsLeft A view reads setup run node left acting → view after ≡ record (view acting.actor) { pending = Some (record { call = call; image = image }) }
    → new.participants.items ≡ insert left.participants.items acting.seat.place (record { actor = after; reads = acting.reads })
    → new.seen.listed.updates ≡ seen_with left.seen.listed.updates (accepted (view after).journal)
    → new.labels ≡ left.labels → new.readers ≡ left.readers
    → HasDone A view reads setup (pending_at run node call image) (codes " armed" ++ 10 ∷ []) new
stop_set A view reads setup run node call image before left new acting after lawful at i is participants seen labels readers =
    let w : EventResult = record { host = pending_host i.host call image; answer = codes " armed"; behind = []; bytes = [] } in
    let came : CameTo setup w (view after) (codes " armed" ++ 10 ∷ []) [] = record { hosted = pending_host_place setup i.host (view acting.actor) (view after) call image i.hosted is; lines_are = refl; bytes_are = refl } in
    subst (λ (d : Done). HasDone A view reads setup d (codes " armed" ++ 10 ∷ []) new) (sym (pending_is run node call image i.host i.found))
    (comes_back A view reads setup run node None before left new acting (record { actor = after; reads = acting.reads }) (codes " armed" ++ 10 ∷ []) [] w lawful at i came refl i.told participants seen (λ ls are. subst (λ (x : Labels). AreLabels x.map.entries ls) (sym labels) are) readers)
