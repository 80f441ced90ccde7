-- The traces that the nodes of a simulation hand in are those of the run's nodes, and may be audited.
use Rattle.std.proofs.Common.{◌≡◌, ◌≤◌, ℕ, true, List, [], ◌∷◌, length, map, refl, sym, ap, subst, ◌∙◌, inl, inr, arith}
use Rattle.std.specs.List.{AllByRecursion}
use Rattle.std.proofs.lemmas.List.{append-nil, length-map}
use Rattle.depot_answers.specs.AnswerTexts.{spaced, text_of_finding}
use Rattle.depot_base.specs.declared.key.RosterEntry.{RosterEntry}
use Rattle.depot_model.specs.worlds.Audit as audit
use Rattle.depot_model.specs.worlds.Audit.{finding_in}
use Rattle.depot_model.specs.lists.Items.{AreDistinct}
use Rattle.depot_model.specs.lists.Lists.{IsIn}
use Rattle.depot_model.specs.texts.Records.{text_of_record}
use Rattle.depot_model.specs.texts.Roster.{Verifies, has_node}
use Rattle.depot_model.specs.worlds.Traces as audits
use Rattle.depot_model.specs.worlds.World.{Read}
use Rattle.depot_model.proofs.lists.Members.{all_from, in_map}
use Rattle.depot_traces.specs.SeenTraces.{finding_of, read_of, trace_of}
use Rattle.depot_traces.specs.declared.finding.Finding.{Finding}
use Rattle.depot_traces.specs.declared.trace.ReadTrace.{ReadTrace}
use Rattle.depot_traces.specs.declared.trace.Trace.{Trace}
use Rattle.depot_model.specs.readers.Readers.{Reader}
use Rattle.depot_world.specs.Audits.{IsSound, audited, traced_read, trace_by, traces_by}
use Rattle.depot_world.specs.Run.{Run, Host}
use Rattle.depot_world.specs.Setups.{Setup}
use Rattle.depot_requests.specs.Effects.{ended}
use Rattle.depot_world.specs.Transcript.{audit_by}
use Rattle.depot_world.proofs.AuditedRuns.{run_is_audited, traces_are_apart, traces_are_listed}
use Rattle.depot_simulation.specs.Acting.{AreHosted, IsParticipant, ParticipantView, TellReads, ActorView}
use Rattle.depot_simulation.specs.Auditing.{MayHandIn, handed_in}
use Rattle.depot_simulation.specs.Doing.{HasDone}
use Rattle.depot_simulation.specs.Playing.{IsSimulationAt, participant_by}
use Rattle.depot_simulation.specs.declared.participant.Participant.{Participant}
use Rattle.depot_simulation.specs.declared.simulation.Simulation.{Simulation}

-- ---- what nodes hand in

-- so many reads are kept as the node has
many_reads : (rs : List Read) (told : List ReadTrace) → TellReads rs told → length told ≡ length rs
many_reads rs told t = sym (length-map told read_of) ∙ ap (λ (xs : List audits.ReadTrace). length xs) t.are ∙ length-map rs traced_read

-- no node has more than a trace
pub parts_may : {A : Type 0} (view : A → ActorView) (setup : Setup) (ss : List Host) (participants : List (Participant A)) → AreHosted setup ss (map (participant_by view) participants) → ((s : Host) → IsIn s ss → length s.correct.reads ≤ 100000) → MayHandIn participants
parts_may view setup [] [] hosted few = tt
parts_may view setup [] (p ∷ participants) hosted few = absurd hosted
parts_may view setup (s ∷ ss) [] hosted few = tt
parts_may view setup (s ∷ ss) (p ∷ participants) hosted few = (
  (hosted.0.told.fit, omega (arith, many_reads s.correct.reads p.reads hosted.0.told, few s (inl refl))),
  parts_may view setup ss participants hosted.1 (λ t on. few t (inr on)),
)

one_handed : (setup : Setup) (s : Host) (p : ParticipantView) → IsParticipant setup s p → handed_in p ≡ trace_by s.correct
one_handed setup s p is = λ i. record { node = (is.hosted.here i).me; texts = map text_of_record (is.hosted.journal i); reads = is.told.are i }

-- they are the traces of the run's nodes
handed_are : (setup : Setup) (ss : List Host) (ps : List ParticipantView) → AreHosted setup ss ps → map handed_in ps ≡ map trace_by (map (λ (s : Host). s.correct) ss)
handed_are setup [] [] hosted = refl
handed_are setup [] (p ∷ ps) hosted = absurd hosted
handed_are setup (s ∷ ss) [] hosted = absurd hosted
handed_are setup (s ∷ ss) (p ∷ ps) hosted =
    ap (λ (t : audits.Trace). t ∷ map handed_in ps) (one_handed setup s p hosted.0) ∙ ap (λ (ts : List audits.Trace). trace_by s.correct ∷ ts) (handed_are setup ss ps hosted.1)

-- ---- traces at a point of a run

-- these are the traces of its nodes
abbrev pub AreTracesOf : Run → List Trace → Type 0
AreTracesOf run traces = map trace_of traces ≡ traces_by run

pub traces_are : {A R : Type 0} (view : A → ActorView) (reads : Reader → R → Type 0) (setup : Setup) (run : Run) (simulation : Simulation A R) (traces : List Trace) → map trace_of traces ≡ map handed_in (map (participant_by view) simulation.participants.items) → IsSimulationAt view reads setup run simulation → AreTracesOf run traces
traces_are view reads setup run simulation traces are at = are ∙ handed_are setup run.hosts (map (participant_by view) simulation.participants.items) at.hosted

pub many_traces : (run : Run) (traces : List Trace) → AreTracesOf run traces → length traces ≡ length run.hosts
many_traces run traces are =
    let nodes = map (λ (s : Host). s.correct) run.hosts in
    sym (length-map traces trace_of) ∙ ap (λ (ts : List audits.Trace). length ts) are ∙ length-map nodes trace_by ∙ length-map run.hosts (λ (s : Host). s.correct)

numbers_are : (traces : List Trace) → map (λ (t : audits.Trace). t.node) (map trace_of traces) ≡ map (λ (t : Trace). t.node) traces
numbers_are [] = refl
numbers_are (t ∷ traces) = ap (λ (ns : List ℕ). t.node ∷ ns) (numbers_are traces)

-- of distinct nodes
pub are_apart : (setup : Setup) (run : Run) (traces : List Trace) → IsSound setup run → AreTracesOf run traces → AreDistinct (map (λ t. t.node) traces)
are_apart setup run traces sound are =
    subst AreDistinct (ap (λ (ts : List audits.Trace). map (λ (t : audits.Trace). t.node) ts) (sym are) ∙ numbers_are traces) (traces_are_apart setup run sound.world)

-- which the roster has
pub are_members : (setup : Setup) (run : Run) (listed : List RosterEntry) (traces : List Trace) → IsSound setup run → setup.listed ≡ listed → AreTracesOf run traces → AllByRecursion (λ t. has_node listed t.node ≡ true) traces
are_members setup run listed traces sound same are = all_from (λ (t : Trace). has_node listed t.node ≡ true) traces (λ t on.
    subst (λ (es : List RosterEntry). has_node es t.node ≡ true) same (traces_are_listed setup run sound.world (trace_of t) (subst (λ (ts : List audits.Trace). IsIn (trace_of t) ts) are (in_map trace_of t traces on))))

-- ---- what is found

found_is : (setup : Setup) (run : Run) (verifies : Verifies) (listed : List RosterEntry) (traces : List Trace) (found : audit.Finding) → IsSound setup run → setup.suite.verifies ≡ verifies → setup.listed ≡ listed → AreTracesOf run traces
    → audits.IsFindingOf verifies listed (map trace_of traces) found → found ≡ finding_in (audited setup run)
found_is setup run verifies listed traces found sound by same are is = run_is_audited setup run found sound.world
    (subst (λ (ts : List audits.Trace). audits.IsFindingOf setup.suite.verifies setup.listed ts found) are
    (subst (λ (v : Verifies). audits.IsFindingOf v setup.listed (map trace_of traces) found) (sym by) (subst (λ (es : List RosterEntry). audits.IsFindingOf verifies es (map trace_of traces) found) (sym same) is)))

-- the audit was done
pub audit_done : (A : Type 0) {R : Type 0} (view : A → ActorView) (reads : Reader → R → Type 0) (setup : Setup) (run : Run) (verifies : Verifies) (listed : List RosterEntry) (traces : List Trace) (found : Finding) (lines : List ℕ) (simulation : Simulation A R) → IsSound setup run → setup.suite.verifies ≡ verifies → setup.listed ≡ listed
    → AreTracesOf run traces → audits.IsFindingOf verifies listed (map trace_of traces) (finding_of found) → lines ≡ ended (spaced (text_of_finding (finding_of found))) → IsSimulationAt view reads setup run simulation → HasDone A view reads setup (audit_by setup run) lines simulation
audit_done A view reads setup run verifies listed traces found lines simulation sound by same are is told at = record {
  lines_are = told ∙ ap (λ (f : audit.Finding). ended (spaced (text_of_finding f))) (found_is setup run verifies listed traces (finding_of found) sound by same are is) ∙ sym (append-nil (ended (spaced (text_of_finding (finding_in (audited setup run))))));
  at = at;
}
