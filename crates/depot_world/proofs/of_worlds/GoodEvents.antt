-- Each event of a schedule keeps a run that makes a world.
use Rattle.std.proofs.Common.{◌≡◌, ℕ, List, [], ◌∷◌, ◌++◌, take, drop, Option, Some, None, Result, Ok, Err, codes, refl, subst, inl, inr}
use Rattle.std.specs.List.{AllByRecursion}
use Rattle.std.specs.Prelude.{IfSome}
use Rattle.depot_base.specs.Writes.{one_change}
use Rattle.depot_base.specs.declared.proof.Proof.{Proof}
use Rattle.depot_base.specs.declared.update.Update.{Update}
use Rattle.depot_base.specs.declared.write.Change.{Change}
use Rattle.depot_base.proofs.Combined.{whole_takes}
use Rattle.depot_model.specs.exchange.Bundle.{Signs}
use Rattle.depot_model.specs.updates.Judgement.{first_failed_point, verdict_of}
use Rattle.depot_model.specs.texts.Lines.{text_of_point, text_of_verdict}
use Rattle.depot_model.specs.checks.Own.{values_of}
use Rattle.depot_model.specs.readers.Readers.{trim_of}
use Rattle.depot_model.specs.texts.Texts.{IsProof, proof}
use Rattle.depot_model.specs.declared.judgement.JudgeError.{JudgeError}
use Rattle.depot_model.proofs.lists.Members.{in_pushed}
use Rattle.depot_model.proofs.of_texts.TextLaws.{proof_lawful}
use Rattle.depot_schedule.specs.EventLines.{event_node}
use Rattle.depot_schedule.specs.declared.event.Event.{Event}
use Rattle.depot_schedule.specs.declared.event.Event.TheVariants as event
use Rattle.depot_schedule.specs.declared.event.HistoryWord.{HistoryWord}
use Rattle.depot_schedule.specs.declared.event.Ref.{Ref}
use Rattle.depot_answers.specs.AnswerTexts.{spaced}
use Rattle.depot_requests.specs.ReaderRequests.{made_served}
use Rattle.depot_requests.specs.declared.reader_request.ReaderUse.{ReaderUse}
use Rattle.depot_requests.specs.declared.reader_request.ReaderUse.TheVariants as uses
use Rattle.depot_requests.specs.Requests.{effect_of}
use Rattle.depot_requests.specs.declared.request.Request.{Request}
use Rattle.depot_world.specs.EventRequests.{label_by, request_in}
use Rattle.depot_world.specs.ScheduleStops.{restart_by}
use Rattle.depot_world.specs.Run.{Host, Run, host_in, bytes_of_label, seen_with, with_host}
use Rattle.depot_world.specs.FaultySigning.{counted_bytes, no_reference, update_text, updated, vouched_text, proof_text, hollow_text, proof_in, flip_at}
use Rattle.depot_world.specs.Setups.{Setup, stands_on, signs_on}
use Rattle.depot_world.specs.Transcript.{Done, pending_at, done_by_update, done_by_changes, judged_with, asked_for, trimmed_with, trim_at, used_at, done}
use Rattle.depot_world.proofs.of_bytes.OnlyBytes.{OnlyBytes, by_places, only_both, only_take, only_drop}
use Rattle.depot_world.proofs.of_bytes.ByteLabels.{IsByteUpdate, bytes_hold, updated_holds, none_holds, counted_holds, update_text_holds, vouched_text_holds, proof_text_holds, hollow_text_holds, flip_holds}
use Rattle.depot_world.proofs.of_bytes.ByteOwn.{only_change_values}
use Rattle.depot_world.proofs.of_bytes.ByteSignatures.{SignsBytes}
use Rattle.depot_world.proofs.EventFacts.{AreByteChanges, IsByteHistory, BringsBytes}
use Rattle.depot_world.proofs.EventAsks.{events_ask_well}
use Rattle.depot_world.proofs.of_worlds.GoodEffects.{request_is_good, restart_is_good}
use Rattle.depot_world.proofs.of_worlds.GoodRequests.{IsGoodRequest}
use Rattle.depot_world.proofs.of_worlds.GoodNodes.{IsGoodEffect}
use Rattle.depot_world.proofs.of_worlds.GoodRuns.{IsGoodRun, IsJudged, found_is, host_keeps, text_keeps, seen_keeps, readers_keep, node_keeps}

-- ---- stops

pending_keeps : (setup : Setup) (run : Run) (node call image : ℕ) → IsGoodRun setup run → IsGoodRun setup (pending_at run node call image).run
unfolding pending_at
pending_keeps setup run node call image g = by_host (host_in run.hosts node) refl where
  by_host : (o : Option Host) → host_in run.hosts node ≡ o
      → IsGoodRun setup (elim o as (λ x. Done) [ None ↦ record { answer = []; behind = []; run = run } | Some s ↦ record { answer = codes " armed"; behind = []; run = with_host run (record { correct = s.correct; pending = Some (record { call = call; image = image }) }) } ]).run
  by_host None none = g
  by_host (Some s) is = host_keeps setup run (record { correct = s.correct; pending = Some (record { call = call; image = image }) }) g (g.hosts s (found_is run.hosts node s is).on)

-- ---- faulty updates, and the judge

update_keeps : (setup : Setup) (sign : Signs) (run : Run) (label : List ℕ) (values : List (List ℕ)) (o : Option Update) → IsGoodRun setup run → SignsBytes sign → AllByRecursion OnlyBytes values → IsByteUpdate o → IsGoodRun setup (done_by_update sign run label values o).run
update_keeps setup sign run label values None g signs values_only only = text_keeps setup run label no_reference g none_holds
update_keeps setup sign run label values (Some u) g signs values_only only =
    text_keeps setup (record run { seen = seen_with run.seen (u ∷ []) }) label (update_text sign u values) (seen_keeps setup run (seen_with run.seen (u ∷ [])) g) (update_text_holds sign u values signs only values_only)

verdict_keeps : (setup : Setup) (run : Run) (p : Proof) → IsGoodRun setup run → IsJudged setup p → IsGoodRun setup (record run { judged = run.judged ++ p ∷ [] })
verdict_keeps setup run p g is = record {
  distinct = g.distinct;
  hosts = g.hosts;
  labels = g.labels;
  judged = λ q on. elim (in_pushed q run.judged p on) [ inl old ↦ g.judged q old | inr now ↦ subst (λ (x : Proof). IsJudged setup x) now is ];
}

read_keeps : (setup : Setup) (run : Run) (read : Result Proof ℕ) → IsGoodRun setup run → ((p : Proof) → read ≡ Ok p → IsProof p) → IsGoodRun setup (judged_with setup run read).run
read_keeps setup run (Err at) g formed = g
read_keeps setup run (Ok p) g formed = by_point (first_failed_point setup.suite.verifies setup.listed p) refl where
  by_point : (o : Option JudgeError) → first_failed_point setup.suite.verifies setup.listed p ≡ o
      → IsGoodRun setup (elim o as (λ x. Done) [ Some f ↦ record { answer = spaced (text_of_point f); behind = []; run = run } | None ↦ record { answer = spaced (text_of_verdict (verdict_of p)); behind = []; run = record run { judged = run.judged ++ p ∷ [] } } ]).run
  by_point (Some f) is = g
  by_point None is = verdict_keeps setup run p g (record { formed = formed p refl; judged = is })

judge_keeps : (setup : Setup) (run : Run) (label : List ℕ) → IsGoodRun setup run → IsGoodRun setup (judged_with setup run (proof_in (bytes_of_label run label))).run
judge_keeps setup run label g =
    let payload = drop 5 (bytes_of_label run label) in
    read_keeps setup run (proof_in (bytes_of_label run label)) g
    (λ p is. (whole_takes proof _ proof_lawful (record { at = 0; rest = payload }) p (by_places payload (only_drop 5 (bytes_of_label run label) (bytes_hold run label g.labels))) is).0)

-- ---- all events

-- a faulty update that writes what these changes say
changes_keep : (setup : Setup) (run : Run) (label : List ℕ) (writer seq clock : ℕ) (prev : Option Ref) (changes : List Change) (deps : List Ref) (history : HistoryWord) → SignsBytes (signs_on setup writer) → AreByteChanges changes → IsByteHistory history → IsGoodRun setup run
    → IsGoodRun setup (done_by_changes setup run label writer seq clock prev changes deps history).run
changes_keep setup run label writer seq clock prev changes deps history signs only given g =
    update_keeps setup (signs_on setup writer) run label (values_of changes) (updated (signs_on setup writer) run writer seq clock prev changes deps history) g signs (only_change_values changes only.bytes)
    (updated_holds (signs_on setup writer) run writer seq clock prev changes deps history only.bytes given)

-- what a node is asked for, if references name it
asked_keeps : (setup : Setup) (run : Run) (node : ℕ) (label : Option (List ℕ)) (o : Option Request) → SignsBytes (signs_on setup node) → IfSome o IsGoodRequest → IsGoodRun setup run → IsGoodRun setup (asked_for setup run node label o).run
asked_keeps setup run node label None signs good g = g
asked_keeps setup run node label (Some r) signs good g = node_keeps setup run node label (λ s. effect_of (stands_on setup node) (signs_on setup node) s.correct r) g
    (λ s same node_good. subst (λ (n : ℕ). IsGoodEffect setup s.correct (effect_of (stands_on setup n) (signs_on setup node) s.correct r)) same (request_is_good setup s.correct (signs_on setup node) r node_good signs good))

-- what an event asks a node for
asking_keeps : (setup : Setup) (run : Run) (e : Event) → ((node : ℕ) → SignsBytes (signs_on setup node)) → BringsBytes e → IsGoodRun setup run → IsGoodRun setup (asked_for setup run (event_node e) (label_by e) (request_in run e)).run
asking_keeps setup run e signs brings g = asked_keeps setup run (event_node e) (label_by e) (request_in run e) (signs (event_node e)) (events_ask_well run e g.labels brings) g

-- a reader that is made, or goes on
trim_keeps : (setup : Setup) (run : Run) (node : ℕ) (text name : List ℕ) → IsGoodRun setup run → IsGoodRun setup (trim_at setup run node text name).run
unfolding trim_at
trim_keeps setup run node text name g = by_host (host_in run.hosts node) where
  by_host : (o : Option Host) → IsGoodRun setup (elim o as (λ x. Done) [ None ↦ record { answer = []; behind = []; run = run } | Some s ↦ trimmed_with run name (trim_of (stands_on setup node) s.correct.journal text) ]).run
  by_host None = g
  by_host (Some s) = readers_keep setup run (run.readers ++ record { name = name; reader = (made_served (trim_of (stands_on setup node) s.correct.journal text)).reader } ∷ []) g

used_keeps : (setup : Setup) (run : Run) (name : List ℕ) (u : ReaderUse) → IsGoodRun setup run → IsGoodRun setup (used_at run name u).run
used_keeps setup run name u g = readers_keep setup run (used_at run name u).run.readers g

-- each event, in a setup whose members sign bytes
pub event_keeps : (setup : Setup) (run : Run) (e : Event) → ((node : ℕ) → SignsBytes (signs_on setup node)) → BringsBytes e → IsGoodRun setup run → IsGoodRun setup (done setup run e).run
unfolding done
event_keeps setup run (event.Restart node) signs only g = node_keeps setup run node None (λ s. restart_by s.correct) g (λ s same good. restart_is_good setup s.correct good)
event_keeps setup run (event.Update label writer seq clock prev key value deps history) signs only g =
    changes_keep setup run label writer seq clock prev (one_change key value) deps history (signs writer) only.0 only.1 g
event_keeps setup run (event.Updates label writer seq clock prev changes deps history) signs only g = changes_keep setup run label writer seq clock prev changes deps history (signs writer) only.0 only.1 g
event_keeps setup run (event.Voucher label writer seq refs) signs only g = text_keeps setup run label (vouched_text (signs_on setup writer) run writer seq refs) g (vouched_text_holds (signs_on setup writer) run writer seq refs (signs writer))
event_keeps setup run (event.Proof label kind first second) signs only g = text_keeps setup run label (proof_text run kind first second) g (proof_text_holds run kind first second g.labels)
event_keeps setup run (event.Hollow label voucher plain) signs only g = text_keeps setup run label (hollow_text run voucher plain) g (hollow_text_holds run voucher plain g.labels)
event_keeps setup run (event.Judge label) signs only g = judge_keeps setup run label g
event_keeps setup run (event.Raw label bytes) signs only g = text_keeps setup run label (counted_bytes bytes) g (counted_holds bytes only)
event_keeps setup run (event.Cut label source start count) signs only g =
    let part = take count (drop start (bytes_of_label run source)) in
    text_keeps setup run label (counted_bytes part) g (counted_holds part (only_take count (drop start (bytes_of_label run source)) (only_drop start (bytes_of_label run source) (bytes_hold run source g.labels))))
event_keeps setup run (event.Flip label source place) signs only g =
    text_keeps setup run label (counted_bytes (flip_at place (bytes_of_label run source))) g (counted_holds (flip_at place (bytes_of_label run source)) (flip_holds place (bytes_of_label run source) (bytes_hold run source g.labels)))
event_keeps setup run (event.Join label first second) signs only g =
    text_keeps setup run label (counted_bytes (bytes_of_label run first ++ bytes_of_label run second)) g
    (counted_holds (bytes_of_label run first ++ bytes_of_label run second) (only_both (bytes_of_label run first) (bytes_of_label run second) (bytes_hold run first g.labels) (bytes_hold run second g.labels)))
event_keeps setup run (event.Stop node call image) signs only g = pending_keeps setup run node call image g
event_keeps setup run event.Audit signs only g = g
event_keeps setup run (event.Trim node label name) signs only g = trim_keeps setup run node (bytes_of_label run label) name g
event_keeps setup run (event.Tgive name label) signs only g = used_keeps setup run name (uses.Give (bytes_of_label run label)) g
event_keeps setup run (event.Tget name key) signs only g = used_keeps setup run name (uses.Get key) g
event_keeps setup run e signs only g = asking_keeps setup run e signs only g
