-- What a schedule makes happen, event by event: the world and the transcript.
use Rattle.std.specs.Prelude.{ℕ, List, [], ◌∷◌, ◌++◌, take, drop, false, Option, Some, None, Result, Ok, Err, codes}
use Rattle.std.specs.List.{flat_map}
use Rattle.depot_base.specs.Writes.{one_change}
use Rattle.depot_base.specs.declared.proof.Proof.{Proof}
use Rattle.depot_base.specs.declared.update.Update.{Update}
use Rattle.depot_base.specs.declared.write.Change.{Change}
use Rattle.depot_model.specs.worlds.Audit.{finding_in}
use Rattle.depot_model.specs.exchange.Bundle.{Signs}
use Rattle.depot_model.specs.updates.Judgement.{verdict_of}
use Rattle.depot_model.specs.texts.Lines.{text_of_point, text_of_verdict}
use Rattle.depot_model.specs.checks.Own.{values_of}
use Rattle.depot_model.specs.readers.Readers.{TrimAnswer, trim_of}
use Rattle.depot_model.specs.worlds.World.{World}
use Rattle.depot_lines.specs.Language.{join}
use Rattle.depot_schedule.specs.EventLines.{event_node}
use Rattle.depot_schedule.specs.Schedules.{event_words}
use Rattle.depot_schedule.specs.declared.event.Event.{Event}
use Rattle.depot_schedule.specs.declared.event.Event.TheVariants as event
use Rattle.depot_schedule.specs.declared.event.HistoryWord.{HistoryWord}
use Rattle.depot_schedule.specs.declared.event.Ref.{Ref}
use Rattle.depot_schedule.specs.declared.schedule.Schedule.{Schedule}
use Rattle.depot_answers.specs.AnswerTexts.{spaced, text_of_finding}
use Rattle.depot_world.specs.Audits.{audited}
use Rattle.depot_requests.specs.Effects.{Effect, ended}
use Rattle.depot_requests.specs.Requests.{effect_of}
use Rattle.depot_requests.specs.ReaderRequests.{answer_of_reader_reply, made_served, use_served}
use Rattle.depot_requests.specs.declared.reader_request.ReaderUse.{ReaderUse}
use Rattle.depot_requests.specs.declared.reader_request.ReaderUse.TheVariants as uses
use Rattle.depot_requests.specs.declared.request.Request.{Request}
use Rattle.depot_world.specs.EventRequests.{label_by, request_in}
use Rattle.depot_world.specs.ScheduleStops.{restart_by}
use Rattle.depot_world.specs.Run.{Run, Host, run_of, world_by, host_in, bytes_of_label, reader_in, seen_with, with_label, with_reader, readers_with, with_host}
use Rattle.depot_world.specs.FaultySigning.{Text, no_reference, counted_bytes, updated, update_text, vouched_text, proof_text, hollow_text, proof_in, point_by, flip_at}
use Rattle.depot_world.specs.ScheduleStops.{EventResult, event_result}
use Rattle.depot_world.specs.Setups.{Setup, setup_of, stands_on, signs_on}

-- an event that was done: what is printed after the arrow, the lines after that line, and the run afterwards
pub record Done : Type 0 where
  pub answer : List ℕ
  pub behind : List (List ℕ)
  pub run : Run

-- ---- events of correct nodes

-- the outcome of a node's event, and the label that its bytes are given
abbrev pub done_by_node : Run → Option (List ℕ) → EventResult → Done
done_by_node run None w = record { answer = w.answer; behind = w.behind; run = with_host run w.host }
done_by_node run (Some label) w = record { answer = w.answer; behind = w.behind; run = with_label (with_host run w.host) (record { label = label; bytes = w.bytes; signed = None; plain = false }) }

-- an event of a node, by what it does; nothing where there is no such node, which no schedule has
unfoldable pub done_at_node : Run → ℕ → Option (List ℕ) → (Host → Effect) → Done
done_at_node run node label effect = elim (host_in run.hosts node) [
  | None ↦ record { answer = []; behind = []; run = run }
  | Some s ↦ done_by_node run label (event_result s (effect s))
]

-- a stop is set on a node's disk; it replaces one that is set there
unfoldable pub pending_at : Run → ℕ → ℕ → ℕ → Done
pending_at run node call image = elim (host_in run.hosts node) [
  | None ↦ record { answer = []; behind = []; run = run }
  | Some s ↦ record { answer = codes " armed"; behind = []; run = with_host run (record { correct = s.correct; pending = Some (record { call = call; image = image }) }) }
]

-- a reference names nothing: that is printed, and no node is asked
abbrev pub not_referred : Run → Done
not_referred run = record { answer = codes " NoRef"; behind = []; run = run }

-- a node is asked for this, and a label, if there is one, is given what it hands out
abbrev pub asked_at : Setup → Run → ℕ → Option (List ℕ) → Request → Done
asked_at setup run node label r = done_at_node run node label (λ s. effect_of (stands_on setup node) (signs_on setup node) s.correct r)

-- the same, if references name what is needed
abbrev pub asked_for : Setup → Run → ℕ → Option (List ℕ) → Option Request → Done
asked_for setup run node label None = not_referred run
asked_for setup run node label (Some r) = asked_at setup run node label r

-- ---- the audit

-- all correct nodes are audited, and nothing changes
abbrev pub audit_by : Setup → Run → Done
audit_by setup run = record { answer = spaced (text_of_finding (finding_in (audited setup run))); behind = []; run = run }

-- ---- readers

-- what a node answers is printed; its reader, if there is one, gets this name
abbrev pub trimmed_with : Run → List ℕ → TrimAnswer → Done
trimmed_with run name answer = let d = made_served answer in record { answer = answer_of_reader_reply d.reply; behind = []; run = with_reader run (record { name = name; reader = d.reader }) }

-- a reader is made of a node and a checkpoint's text; the node and its disk are unchanged
unfoldable pub trim_at : Setup → Run → ℕ → List ℕ → List ℕ → Done
trim_at setup run node text name = elim (host_in run.hosts node) [
  | None ↦ record { answer = []; behind = []; run = run }
  | Some s ↦ trimmed_with run name (trim_of (stands_on setup node) s.correct.journal text)
]

-- the reader of a name is used, and goes on; if none was made, nothing is printed
abbrev pub used_at : Run → List ℕ → ReaderUse → Done
used_at run name u = let d = use_served (reader_in run.readers name) u in record { answer = answer_of_reader_reply d.reply; behind = []; run = record run { readers = readers_with name d.reader run.readers } }

-- ---- events that no correct node takes part in

-- a label is given what an event made
abbrev pub done_by_text : Run → List ℕ → Text → Done
done_by_text run label t = record { answer = spaced t.answer; behind = []; run = with_label run (record { label = label; bytes = t.bytes; signed = t.signed; plain = t.plain }) }

-- a faulty node's update, which is seen from now on
abbrev pub done_by_update : Signs → Run → List ℕ → List (List ℕ) → Option Update → Done
done_by_update sign run label values None = done_by_text run label no_reference
done_by_update sign run label values (Some u) = done_by_text (record run { seen = seen_with run.seen (u ∷ []) }) label (update_text sign u values)

-- a faulty node's update that writes what these changes say
abbrev pub done_by_changes : Setup → Run → List ℕ → ℕ → ℕ → ℕ → Option Ref → List Change → List Ref → HistoryWord → Done
done_by_changes setup run label writer seq clock prev changes deps history =
    done_by_update (signs_on setup writer) run label (values_of changes) (updated (signs_on setup writer) run writer seq clock prev changes deps history)

-- a judge's answer: a point, or a verdict, whose proof was judged from now on
abbrev pub judged_with : Setup → Run → Result Proof ℕ → Done
judged_with setup run read = elim (point_by setup read) [
  | Some p ↦ record { answer = spaced (text_of_point p); behind = []; run = run }
  | None ↦ elim read [
    | Err at ↦ record { answer = []; behind = []; run = run }
    | Ok p ↦ record { answer = spaced (text_of_verdict (verdict_of p)); behind = []; run = record run { judged = run.judged ++ p ∷ [] } }
  ]
]

-- ---- one event

unfoldable pub done : Setup → Run → Event → Done
done setup run (event.Restart node) = done_at_node run node None (λ s. restart_by s.correct)
done setup run (event.Update label writer seq clock prev key value deps history) =
    done_by_changes setup run label writer seq clock prev (one_change key value) deps history
done setup run (event.Updates label writer seq clock prev changes deps history) = done_by_changes setup run label writer seq clock prev changes deps history
done setup run (event.Voucher label writer seq refs) = done_by_text run label (vouched_text (signs_on setup writer) run writer seq refs)
done setup run (event.Proof label kind first second) = done_by_text run label (proof_text run kind first second)
done setup run (event.Hollow label voucher plain) = done_by_text run label (hollow_text run voucher plain)
done setup run (event.Judge label) = judged_with setup run (proof_in (bytes_of_label run label))
done setup run (event.Raw label bytes) = done_by_text run label (counted_bytes bytes)
done setup run (event.Cut label source start count) = done_by_text run label (counted_bytes (take count (drop start (bytes_of_label run source))))
done setup run (event.Flip label source place) = done_by_text run label (counted_bytes (flip_at place (bytes_of_label run source)))
done setup run (event.Join label first second) = done_by_text run label (counted_bytes (bytes_of_label run first ++ bytes_of_label run second))
done setup run (event.Stop node call image) = pending_at run node call image
done setup run event.Audit = audit_by setup run
done setup run (event.Trim node label name) = trim_at setup run node (bytes_of_label run label) name
done setup run (event.Tgive name label) = used_at run name (uses.Give (bytes_of_label run label))
done setup run (event.Tget name key) = used_at run name (uses.Get key)
done setup run e = asked_for setup run (event_node e) (label_by e) (request_in run e)

-- ---- its lines

-- how many of an event's first words precede the arrow
abbrev pub head_count : Event → ℕ
head_count (event.Put node key value) = 3
head_count (event.Get node key) = 3
head_count (event.Hello node label) = 3
head_count (event.Bundle node hello label) = 4
head_count (event.Give node label size) = 3
head_count (event.Settled node reference k) = 4
head_count (event.Checkpoint node label) = 3
head_count (event.Sign node label) = 3
head_count (event.Tgive name label) = 3
head_count (event.Tget name key) = 3
head_count other = 2

-- the words that precede the arrow: of `trim` its label is left out
abbrev pub head_words : Event → List (List ℕ)
head_words (event.Trim node label name) = take 2 (event_words (event.Trim node label name)) ++ drop 3 (event_words (event.Trim node label name))
head_words e = take (head_count e) (event_words e)

-- the lines of an event
unfoldable pub lines_of : Event → Done → List ℕ
lines_of e d = ended (join 32 (head_words e) ++ codes " ->" ++ d.answer) ++ flat_map ended d.behind

-- ---- all events

-- the run after these events
unfoldable pub run_after : Setup → Run → List Event → Run
run_after setup run [] = run
run_after setup run (e ∷ es) = run_after setup (done setup run e).run es

-- what they print
unfoldable pub printed : Setup → Run → List Event → List ℕ
printed setup run [] = []
printed setup run (e ∷ es) = let d = done setup run e in lines_of e d ++ printed setup d.run es

-- the world that a schedule makes
unfoldable pub world_of : Schedule → World
world_of s = let setup = setup_of s in world_by setup (run_after setup (run_of setup s.members) s.events)

-- its transcript
unfoldable pub transcript_of : Schedule → List ℕ
transcript_of s = let setup = setup_of s in printed setup (run_of setup s.members) s.events
