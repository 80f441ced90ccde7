-- Updates that faulty nodes sign, and judgements.
use Rattle.std.proofs.Common.{◌≡◌, ℕ, List, [], ◌∷◌, ◌++◌, Vec, true, codes, map, Option, Some, None, option_map, option_and_then, Result, Ok, Err, refl, sym, ap, subst, ◌∙◌, append_assoc}
use Rattle.std.specs.declared.alloc.Global.{Global}
use Rattle.std.specs.List.{flat_map}
use Rattle.std.proofs.lemmas.List.{append-nil}
use Rattle.depot_answers.specs.AnswerTexts.{spaced}
use Rattle.depot_base.specs.declared.proof.Proof.{Proof}
use Rattle.depot_base.specs.Writes.{one_change}
use Rattle.depot_base.specs.declared.update.Update.{Update}
use Rattle.depot_base.specs.declared.write.Change.{Change}
use Rattle.depot_model.specs.exchange.Bundle.{Signs}
use Rattle.depot_model.specs.updates.Judgement.{first_failed_point, verdict_of}
use Rattle.depot_model.specs.checks.Own.{values_of, write_of}
use Rattle.depot_model.specs.texts.Lines.{text_of_point, text_of_verdict}
use Rattle.depot_model.specs.declared.judgement.JudgeError.{JudgeError}
use Rattle.depot_lines.specs.Language.{join}
use Rattle.depot_schedule.specs.EventLines.{event_changes, event_label, event_node}
use Rattle.depot_schedule.specs.declared.event.Event.{Event}
use Rattle.depot_schedule.specs.declared.event.Event.TheVariants as event
use Rattle.depot_schedule.specs.declared.event.HistoryWord.{HistoryWord}
use Rattle.depot_schedule.specs.declared.event.Ref.{Ref}
use Rattle.depot_model.specs.readers.Readers.{Reader}
use Rattle.depot_world.specs.Run.{Run, bytes_of_label, seen_with}
use Rattle.depot_world.specs.FaultySigning.{drafted, entries_of, history_by, prev_of_ref, proof_in, updated, with_history}
use Rattle.depot_world.specs.Setups.{Setup, signs_on}
use Rattle.depot_requests.specs.Effects.{ended, lines_after_arrow}
use Rattle.depot_world.specs.Transcript.{Done, done, done_by_text, done_by_update, head_words, judged_with, lines_of}
use Rattle.depot_simulation.specs.Acting.{AreHosted, ParticipantView, ActorView}
use Rattle.depot_simulation.specs.Doing.{HasDone, is_signing, signed_text, update_by, with_update}
use Rattle.depot_scenario.specs.Labels.{AreLabels}
use Rattle.depot_simulation.specs.Drafts.{IsNumbered}
use Rattle.depot_simulation.specs.Playing.{IsRunAt, IsSimulationAt, participant_by}
use Rattle.depot_scenario.specs.KnownUpdates.{HasSeenParents}
use Rattle.depot_scenario.specs.declared.label_table.Given.{Given}
use Rattle.depot_scenario.specs.declared.label_table.Labels.{Labels}
use Rattle.depot_simulation.specs.declared.participant.Participant.{Participant}
use Rattle.depot_simulation.specs.declared.simulation.Simulation.{Simulation}
use Rattle.depot_simulation.specs.declared.readers.Readers.{Readers}
use Rattle.depot_simulation.specs.Readers.{AreReaders}
use Rattle.depot_simulation.proofs.RememberedRuns.{judged_remembers, update_remembers}

-- ---- updates

-- the update that is made is the writer's, and has its number
pub is_numbered : (sign : Signs) (run : Run) (writer seq clock : ℕ) (prev : Option Ref) (changes : List Change) (deps : List Ref) (history : HistoryWord) (u : Update) → Some u ≡ updated sign run writer seq clock prev changes deps history → IsNumbered writer seq u
unfolding updated
is_numbered sign run writer seq clock prev changes deps history u is = by_parts (prev_of_ref run prev) (entries_of run writer deps) is where
  by_parts : (o : Option (List ℕ)) (x : Option (List Update))
      → Some u ≡ option_and_then (λ (p : List ℕ). option_map (λ (us : List Update). with_history (drafted writer seq clock p (map write_of changes) us) (history_by run.seen history (drafted writer seq clock p (map write_of changes) us))) x) o → IsNumbered writer seq u
  by_parts None x e = absurd cc
  by_parts (Some p) None e = absurd cc
  by_parts (Some p) (Some us) e =
      let d = drafted writer seq clock p (map write_of changes) us in
      let same : with_history d (history_by run.seen history d) ≡ u = cc in
      subst (IsNumbered writer seq) same (record { writer_is = refl; seq_is = refl })

-- an update was seen
pub sees_update : (A : Type 0) {R : Type 0} (view : A → ActorView) (reads : Reader → R → Type 0) (setup : Setup) (run : Run) (u : Update) (old new : Simulation A R) → IsSimulationAt view reads setup run old → HasSeenParents old.seen.listed.updates u → new.participants ≡ old.participants → new.labels ≡ old.labels → new.readers ≡ old.readers
    → new.seen.listed.updates ≡ seen_with old.seen.listed.updates (u ∷ []) → IsSimulationAt view reads setup (with_update run (Some u)) new
sees_update A {R = R} view reads setup run u old new at parents participants labels readers seen = record {
  hosted = subst (λ (v : Vec (Participant A) Global). AreHosted setup run.hosts (map (participant_by view) v.items)) (sym participants) at.hosted;
  labels_are = subst (λ (x : Labels). AreLabels x.map.entries run.labels) (sym labels) at.labels_are;
  seen_are = seen ∙ ap (λ (us : List Update). seen_with us (u ∷ [])) at.seen_are;
  readers_are = subst (λ (rs : Readers R). AreReaders reads rs.map.entries run.readers) (sym readers) at.readers_are;
  remembered = update_remembers run u at.remembered (subst (λ (us : List Update). HasSeenParents us u) at.seen_are parents);
}

-- what an update does
pub update_is : (setup : Setup) (run : Run) (e : Event) → is_signing e ≡ true → done_by_text (with_update run (update_by setup run e)) (event_label e) (signed_text (signs_on setup (event_node e)) (event_changes e) (update_by setup run e)) ≡ done setup run e
unfolding done
update_is setup run (event.Update label writer seq clock prev key value deps history) is = by_cases (updated (signs_on setup writer) run writer seq clock prev (one_change key value) deps history) where
  by_cases : (o : Option Update) → done_by_text (with_update run o) label (signed_text (signs_on setup writer) (one_change key value) o) ≡ done_by_update (signs_on setup writer) run label (values_of (one_change key value)) o
  by_cases None = refl
  by_cases (Some u) = refl
update_is setup run (event.Updates label writer seq clock prev changes deps history) is = by_cases (updated (signs_on setup writer) run writer seq clock prev changes deps history) where
  by_cases : (o : Option Update) → done_by_text (with_update run o) label (signed_text (signs_on setup writer) changes o) ≡ done_by_update (signs_on setup writer) run label (values_of changes) o
  by_cases None = refl
  by_cases (Some u) = refl
update_is setup run (event.Put node key value) is = absurd cc
update_is setup run (event.Puts node changes) is = absurd cc
update_is setup run (event.Get node key) is = absurd cc
update_is setup run (event.Hello node label) is = absurd cc
update_is setup run (event.Bundle node hello label) is = absurd cc
update_is setup run (event.Give node label size) is = absurd cc
update_is setup run (event.Restart node) is = absurd cc
update_is setup run (event.Voucher label writer seq refs) is = absurd cc
update_is setup run (event.Proof label kind first second) is = absurd cc
update_is setup run (event.Hollow label voucher plain) is = absurd cc
update_is setup run (event.Judge label) is = absurd cc
update_is setup run (event.Raw label bytes) is = absurd cc
update_is setup run (event.Cut label source start count) is = absurd cc
update_is setup run (event.Flip label source place) is = absurd cc
update_is setup run (event.Join label first second) is = absurd cc
update_is setup run (event.Stop node call image) is = absurd cc
update_is setup run (event.Receipt node refs) is = absurd cc
update_is setup run (event.Settled node reference k) is = absurd cc
update_is setup run event.Audit is = absurd cc
update_is setup run (event.Checkpoint node label) is = absurd cc
update_is setup run (event.Sign node label) is = absurd cc
update_is setup run (event.Trim node label name) is = absurd cc
update_is setup run (event.Tgive name label) is = absurd cc
update_is setup run (event.Tget name key) is = absurd cc

-- ---- judgements

-- a judgement changes nothing that a simulation keeps
judged_at : {R : Type 0} (reads : Reader → R → Type 0) (setup : Setup) (run : Run) (read : Result Proof ℕ) (participants : List ParticipantView) (entries : List (Vec ℕ Global × Given)) (seen : List Update) (readers : List (Vec ℕ Global × Option R))
    → IsRunAt reads setup run participants entries seen readers → IsRunAt reads setup (judged_with setup run read).run participants entries seen readers
judged_at reads setup run (Err at) participants entries seen readers i = i
judged_at reads setup run (Ok p) participants entries seen readers i = by_point (first_failed_point setup.suite.verifies setup.listed p) where
  by_point : (o : Option JudgeError)
      → IsRunAt reads setup (elim o as (λ x. Done) [ Some f ↦ record { answer = spaced (text_of_point f); behind = []; run = run } | None ↦ record { answer = spaced (text_of_verdict (verdict_of p)); behind = []; run = record run { judged = run.judged ++ p ∷ [] } } ]).run participants entries seen readers
  by_point (Some f) = i
  by_point None = record { hosted = i.hosted; labels_are = i.labels_are; seen_are = i.seen_are; readers_are = i.readers_are; remembered = judged_remembers run (run.judged ++ p ∷ []) i.remembered }

pub judged_done : (A : Type 0) {R : Type 0} (view : A → ActorView) (reads : Reader → R → Type 0) (setup : Setup) (run : Run) (label bytes text lines : List ℕ) (simulation : Simulation A R) → IsSimulationAt view reads setup run simulation → bytes ≡ bytes_of_label run label
    → text ≡ (judged_with setup run (proof_in bytes)).answer → (judged_with setup run (proof_in bytes)).behind ≡ [] → lines ≡ text ++ 10 ∷ [] → HasDone A view reads setup (judged_with setup run (proof_in (bytes_of_label run label))) lines simulation
judged_done A view reads setup run label bytes text lines simulation at same is none told =
    let d = judged_with setup run (proof_in bytes) in
    let done : HasDone A view reads setup d lines simulation = record {
      lines_are = told ∙ ap (λ (t : List ℕ). t ++ 10 ∷ []) is ∙ sym (append-nil (d.answer ++ 10 ∷ [])) ∙ ap (λ (ls : List (List ℕ)). ended d.answer ++ flat_map ended ls) (sym none);
      at = judged_at reads setup run (proof_in bytes) (map (participant_by view) simulation.participants.items) simulation.labels.map.entries simulation.seen.listed.updates simulation.readers.map.entries at;
    } in
    subst (λ (b : List ℕ). HasDone A view reads setup (judged_with setup run (proof_in b)) lines simulation) same done

-- ---- lines

-- the lines of an event: the head of the first, and those from the arrow on
pub lines_told : (e : Event) (d : Done) (front behind whole : List ℕ) → front ≡ join 32 (head_words e) ++ codes " ->" → behind ≡ lines_after_arrow d.answer d.behind → whole ≡ front ++ behind → whole ≡ lines_of e d
unfolding lines_of
lines_told e d front behind whole is_front is_behind is_whole =
    let words = join 32 (head_words e) in
    let arrow = codes " ->" in
    let rest = flat_map ended d.behind in
    is_whole
    ∙ ap (λ (t : List ℕ). t ++ behind) is_front
    ∙ ap (λ (t : List ℕ). (words ++ arrow) ++ t) is_behind
    ∙ sym (append_assoc (words ++ arrow) (ended d.answer) rest)
    ∙ ap (λ (t : List ℕ). t ++ rest) (sym (append_assoc (words ++ arrow) d.answer (10 ∷ [])))
