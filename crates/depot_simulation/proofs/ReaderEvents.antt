-- What the events of readers make of a simulation.
use Rattle.std.proofs.Common.{◌≡◌, ℕ, eqb, List, [], ◌∷◌, ◌++◌, get_or, Option, Some, None, refl, sym, ap, subst, ◌∙◌}
use Rattle.std.specs.Prelude.{position}
use Rattle.std.proofs.lemmas.List.{append-nil}
use Rattle.std.proofs.lemmas.Option.{get_or_from_slice_get}
use Rattle.depot_base.specs.declared.record.Record.{Record}
use Rattle.depot_model.specs.checks.Checks.{Setting}
use Rattle.depot_model.specs.readers.Readers.{Reader, trim_of}
use Rattle.depot_world.specs.Run.{NamedReader, Run, Host, reader_in, readers_with, host_in}
use Rattle.depot_world.specs.Setups.{Setup, stands_on}
use Rattle.depot_requests.specs.Effects.{ended}
use Rattle.depot_requests.specs.ReaderRequests.{answer_of_reader_reply, line_of_reader_reply, made_served, use_served}
use Rattle.depot_requests.specs.declared.reader_reply.ReaderReply.{ReaderReply}
use Rattle.depot_requests.specs.declared.reader_request.ReaderUse.{ReaderUse}
use Rattle.depot_world.specs.Transcript.{Done, trim_at, trimmed_with, used_at}
use Rattle.depot_world.proofs.of_worlds.GoodRuns.{found_is}
use Rattle.depot_simulation.specs.Acting.{ActorView}
use Rattle.depot_simulation.specs.Doing.{HasDone}
use Rattle.depot_simulation.specs.Playing.{IsSimulationAt, participant_by}
use Rattle.depot_simulation.specs.Readers.{AreReaders, HasTrimmed, IsMade}
use Rattle.depot_simulation.specs.declared.participant.Participant.{Participant}
use Rattle.depot_simulation.specs.declared.simulation.Simulation.{Simulation}
use Rattle.depot_simulation.specs.declared.readers.Readers.{Readers}
use Rattle.depot_simulation.specs.declared.reading.Trimming.{Trimming}
use Rattle.depot_simulation.proofs.RememberedRuns.{readers_remember}
use Rattle.depot_simulation.proofs.HostPlaces.{no_host_place, host_place_at}

-- ---- a simulation with other readers

-- it is at the run with these readers
abbrev pub with_readers : Run → List NamedReader → Run
with_readers run rs = record run { readers = rs }

readers_at : (A : Type 0) {R : Type 0} (view : A → ActorView) (reads : Reader → R → Type 0) (setup : Setup) (run : Run) (rs : List NamedReader) (old : Simulation A R) (readers : Readers R) → IsSimulationAt view reads setup run old → AreReaders reads readers.map.entries rs
    → IsSimulationAt view reads setup (with_readers run rs) (record old { readers = readers })
readers_at A view reads setup run rs old readers at are = record {
  hosted = at.hosted;
  labels_are = at.labels_are;
  seen_are = at.seen_are;
  readers_are = are;
  remembered = readers_remember run rs at.remembered;
}

-- a line with nothing after it
alone : (answer : List ℕ) → ended answer ≡ ended answer ++ []
alone answer = sym (append-nil (ended answer))

-- ---- a reader that is made of a node

at_node : Setup → Run → ℕ → List ℕ → List ℕ → Option Host → Done
at_node setup run node text name o = elim o as (λ x. Done) [
  | None ↦ record { answer = []; behind = []; run = run }
  | Some s ↦ trimmed_with run name (trim_of (stands_on setup node) s.correct.journal text)
]

trim_there : (setup : Setup) (run : Run) (node : ℕ) (text name : List ℕ) (s : Host) → host_in run.hosts node ≡ Some s → trim_at setup run node text name ≡ trimmed_with run name (trim_of (stands_on setup node) s.correct.journal text)
unfolding trim_at at_node
trim_there setup run node text name s found = ap (at_node setup run node text name) found

trim_nowhere : (setup : Setup) (run : Run) (node : ℕ) (text name : List ℕ) → host_in run.hosts node ≡ None → trim_at setup run node text name ≡ record { answer = []; behind = []; run = run }
unfolding trim_at at_node
trim_nowhere setup run node text name none = ap (at_node setup run node text name) none

-- no node is there
pub nothing_trimmed : (A : Type 0) {R : Type 0} (view : A → ActorView) (reads : Reader → R → Type 0) (setup : Setup) (run : Run) (node : ℕ) (text name : List ℕ) (simulation : Simulation A R) → position (λ p. eqb (view p.actor).here.me node) simulation.participants.items ≡ None → IsSimulationAt view reads setup run simulation
    → HasDone A view reads setup (trim_at setup run node text name) (10 ∷ []) simulation
nothing_trimmed A view reads setup run node text name simulation none at =
    subst (λ (d : Done). HasDone A view reads setup d (10 ∷ []) simulation) (sym (trim_nowhere setup run node text name (no_host_place (participant_by view) setup run.hosts simulation.participants.items node at.hosted none))) (record { lines_are = refl; at = at })

-- what the node answers is what the run's node answers
same_trim : (A : Type 0) {R : Type 0} (view : A → ActorView) (reads : Reader → R → Type 0) (setup : Setup) (run : Run) (node place : ℕ) (text name : List ℕ) (simulation : Simulation A R) (p : Participant A) → IsSimulationAt view reads setup run simulation
    → position (λ q. eqb (view q.actor).here.me node) simulation.participants.items ≡ Some place → p ≡ get_or simulation.participants.items place p → trim_at setup run node text name ≡ trimmed_with run name (trim_of (view p.actor).here (view p.actor).journal text)
same_trim A view reads setup run node place text name simulation p at found is =
    let host_place = host_place_at (participant_by view) setup run.hosts simulation.participants.items node place at.hosted found in
    let same : p ≡ host_place.actor = is ∙ get_or_from_slice_get simulation.participants.items place host_place.actor p host_place.at in
    let sits = host_place.hosted.hosted in
    let number = (found_is run.hosts node host_place.host host_place.found).is in
    let here : (view p.actor).here ≡ stands_on setup node = ap (λ (q : Participant A). (view q.actor).here) same ∙ sits.here ∙ ap (stands_on setup) number in
    let journal : (view p.actor).journal ≡ host_place.host.correct.journal = ap (λ (q : Participant A). (view q.actor).journal) same ∙ sits.journal in
    trim_there setup run node text name host_place.host host_place.found
    ∙ ap (λ (J : List Record). trimmed_with run name (trim_of (stands_on setup node) J text)) (sym journal) ∙ ap (λ (h : Setting). trimmed_with run name (trim_of h (view p.actor).journal text)) (sym here)

-- a node was there: its answer is reported, and its reader kept
pub reader_trimmed : (A : Type 0) {R : Type 0} (view : A → ActorView) (reads : Reader → R → Type 0) (setup : Setup) (run : Run) (node place : ℕ) (text name : List ℕ) (old : Simulation A R) (readers : Readers R) (p : Participant A) (t : Trimming R) (lines : List ℕ) → IsSimulationAt view reads setup run old
    → position (λ q. eqb (view q.actor).here.me node) old.participants.items ≡ Some place → p ≡ get_or old.participants.items place p → HasTrimmed reads (trim_of (view p.actor).here (view p.actor).journal text) t
    → ((rs : List NamedReader) (made : Option Reader) → AreReaders reads old.readers.map.entries rs → IsMade reads t.reader made → AreReaders reads readers.map.entries (rs ++ record { name = name; reader = made } ∷ []))
    → lines ≡ line_of_reader_reply t.reply → HasDone A view reads setup (trim_at setup run node text name) lines (record old { readers = readers })
reader_trimmed A view reads setup run node place text name old readers p t lines at found is trimmed put told =
    let answer = trim_of (view p.actor).here (view p.actor).journal text in
    let made = (made_served answer).reader in
    subst (λ (d : Done). HasDone A view reads setup d lines (record old { readers = readers })) (sym (same_trim A view reads setup run node place text name old p at found is)) (record {
      lines_are = told ∙ ap line_of_reader_reply trimmed.reply_is ∙ alone (answer_of_reader_reply (made_served answer).reply);
      at = readers_at A view reads setup run (run.readers ++ record { name = name; reader = made } ∷ []) old readers at (put run.readers made at.readers_are trimmed.reader_is);
    })

-- ---- a reader that is used

-- its reply is reported, and the reader after it kept
pub reader_used : (A : Type 0) {R : Type 0} (view : A → ActorView) (reads : Reader → R → Type 0) (setup : Setup) (run : Run) (name : List ℕ) (u : ReaderUse) (lines : List ℕ) (reply : ReaderReply) (old : Simulation A R) (readers : Readers R) → IsSimulationAt view reads setup run old
    → lines ≡ line_of_reader_reply reply → reply ≡ (use_served (reader_in run.readers name) u).reply → AreReaders reads readers.map.entries (readers_with name (use_served (reader_in run.readers name) u).reader run.readers)
    → HasDone A view reads setup (used_at run name u) lines (record old { readers = readers })
reader_used A view reads setup run name u lines reply old readers at told is are = record {
  lines_are = told ∙ ap line_of_reader_reply is ∙ alone (answer_of_reader_reply (use_served (reader_in run.readers name) u).reply);
  at = readers_at A view reads setup run (readers_with name (use_served (reader_in run.readers name) u).reader run.readers) old readers at are;
}
