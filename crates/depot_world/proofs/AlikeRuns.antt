-- A run goes on like one with fewer labels, if no later event names the missing ones.
use Rattle.std.proofs.Common.{◌≡◌, ℕ, Bool, true, false, not, leb, cond, List, [], ◌∷◌, ◌++◌, codes, length, map, take, drop, Option, Some, None, Result, Ok, Err, option_map, refl, sym, ap, subst, ◌∙◌, inl, inr}
use Rattle.std.specs.Prelude.{option_and_then}
use Rattle.std.specs.Option.{option_map_or}
use Rattle.std.specs.Str.{bytes_eq}
use Rattle.std.proofs.lemmas.Slice.Eq.{bytes_eq-Decides}
use Rattle.depot_base.proofs.GeneralLaws.{bytes_eq_comm}
use Rattle.depot_base.proofs.MembershipLaws.{in_left, in_right}
use Rattle.depot_base.specs.Writes.{one_change}
use Rattle.depot_base.specs.declared.proof.Kind.{Kind}
use Rattle.depot_base.specs.declared.proof.Kind.TheVariants.{NotUpdate}
use Rattle.depot_base.specs.declared.proof.Proof.{Proof}
use Rattle.depot_base.specs.declared.proof.Proof.TheVariants.{Hollow}
use Rattle.depot_base.specs.declared.limits.TheConstants.{MOST_VALUE}
use Rattle.depot_base.specs.declared.statement.Signed.{Signed}
use Rattle.depot_base.specs.declared.update.Update.{Update}
use Rattle.depot_base.specs.declared.write.Change.{Change}
use Rattle.depot_model.specs.exchange.Bundle.{Signs}
use Rattle.depot_model.specs.journals.Journal.{update_in}
use Rattle.depot_model.specs.updates.Judgement.{first_failed_point, verdict_of}
use Rattle.depot_model.specs.texts.Lines.{text_of_point, text_of_verdict}
use Rattle.depot_model.specs.lists.Lists.{IsIn, when}
use Rattle.depot_model.specs.checks.Own.{values_of}
use Rattle.depot_model.specs.readers.Readers.{trim_of}
use Rattle.depot_model.specs.texts.Texts.{id_of_update}
use Rattle.depot_model.specs.declared.judgement.JudgeError.{JudgeError}
use Rattle.depot_model.proofs.lists.Members.{map_same}
use Rattle.depot_schedule.specs.EventWords.{first_or}
use Rattle.depot_schedule.specs.declared.event.Event.{Event}
use Rattle.depot_schedule.specs.declared.event.Event.TheVariants as event
use Rattle.depot_schedule.specs.declared.event.HistoryWord.{HistoryWord}
use Rattle.depot_schedule.specs.declared.event.Ref.{Ref}
use Rattle.depot_schedule.specs.declared.event.Ref.TheVariants as ref
use Rattle.depot_answers.specs.AnswerTexts.{spaced}
use Rattle.depot_world.specs.Audits.{IsSound, audited}
use Rattle.depot_model.specs.checks.Vouching.{rising}
use Rattle.depot_requests.specs.declared.reader_request.ReaderUse.{ReaderUse}
use Rattle.depot_requests.specs.declared.reader_request.ReaderUse.TheVariants as uses
use Rattle.depot_requests.specs.Effects.{Effect}
use Rattle.depot_requests.specs.Requests.{effect_of}
use Rattle.depot_requests.specs.declared.request.Request.{Request}
use Rattle.depot_requests.specs.declared.request.Request.TheVariants as request
use Rattle.depot_schedule.specs.EventLines.{event_node}
use Rattle.depot_world.specs.EventRequests.{label_by, piece_of, request_in}
use Rattle.depot_world.specs.ScheduleStops.{restart_by}
use Rattle.depot_world.specs.FaultySigning.{Text, no_reference, counted_bytes, all_of, all_referred, prev_of_ref, updated, update_text, vouched_text, proof_with, proof_text, hollow_text, proof_in, flip_at}
use Rattle.depot_world.specs.Forgetting.{labels_of_ref, labels_of_prev, labels_of_refs, labels_in, labels_without, with_labels, NoneNames, NameTheSame, NameTheSameIn, IsAlikeFor, GoesAlike}
use Rattle.depot_world.specs.Run.{Host, Labelled, Run, made_in, host_in, bytes_of_label, signed_of, first_update, referred, plain_referred, id_referred, seen_with, world_by, with_host}
use Rattle.depot_world.specs.ScheduleStops.{EventResult, event_result}
use Rattle.depot_world.specs.Setups.{Setup, stands_on, signs_on}
use Rattle.depot_world.specs.Transcript.{Done, pending_at, done_at_node, done_by_node, done_by_text, done_by_update, done, judged_with, lines_of, asked_for, trimmed_with, trim_at, used_at, audit_by}

-- ---- what a label names

-- one label more of both
made_more : (ms : List Labelled) (m : Labelled) (label : List ℕ) → made_in (ms ++ m ∷ []) label ≡ first_or (made_in ms label) (cond (bytes_eq m.label label) (Some m) None)
unfolding made_in
made_more [] m label = refl
made_more (x ∷ ms) m label = by_test (bytes_eq x.label label) (made_more ms m label) where
  by_test : (b : Bool) → made_in (ms ++ m ∷ []) label ≡ first_or (made_in ms label) (cond (bytes_eq m.label label) (Some m) None)
      → cond b (Some x) (made_in (ms ++ m ∷ []) label) ≡ first_or (cond b (Some x) (made_in ms label)) (cond (bytes_eq m.label label) (Some m) None)
  by_test true rest = refl
  by_test false rest = rest

-- a label that is gone names nothing, and the others what they named
pub made_without : (ms : List Labelled) (gone label : List ℕ) → made_in (labels_without gone ms) label ≡ cond (bytes_eq gone label) None (made_in ms label)
unfolding made_in
made_without [] gone label = by_test (bytes_eq gone label) where
  by_test : (b : Bool) → None ≡ cond b None (made_in [] label)
  by_test true = refl
  by_test false = refl
made_without (m ∷ ms) gone label = by_gone (bytes_eq m.label gone) refl (made_without ms gone label) where
  by_gone : (b : Bool) → bytes_eq m.label gone ≡ b → made_in (labels_without gone ms) label ≡ cond (bytes_eq gone label) None (made_in ms label)
      → made_in (cond (not b) (m ∷ labels_without gone ms) (labels_without gone ms)) label ≡ cond (bytes_eq gone label) None (cond (bytes_eq m.label label) (Some m) (made_in ms label))
  by_gone true is rest = rest ∙ subst (λ (x : List ℕ). cond (bytes_eq x label) None (made_in ms label) ≡ cond (bytes_eq x label) None (cond (bytes_eq m.label label) (Some m) (made_in ms label))) ((bytes_eq-Decides m.label gone).0 is) (again (bytes_eq m.label label)) where
    again : (b : Bool) → cond b None (made_in ms label) ≡ cond b None (cond b (Some m) (made_in ms label))
    again true = refl
    again false = refl
  by_gone false other rest = by_label (bytes_eq m.label label) refl where
    by_label : (b : Bool) → bytes_eq m.label label ≡ b → cond b (Some m) (made_in (labels_without gone ms) label) ≡ cond (bytes_eq gone label) None (cond b (Some m) (made_in ms label))
    by_label false differs = rest
    by_label true same = ap (λ (b : Bool). cond b None (Some m)) (sym (subst (λ (l : List ℕ). bytes_eq gone l ≡ false) ((bytes_eq-Decides m.label label).0 same) (turned other))) where
      turned : bytes_eq m.label gone ≡ false → bytes_eq gone m.label ≡ false
      turned e = bytes_eq_comm gone m.label ∙ e

-- ---- what references name

bytes_same : (run : Run) (few : List Labelled) (label : List ℕ) → made_in run.labels label ≡ made_in few label → bytes_of_label run label ≡ bytes_of_label (with_labels run few) label
bytes_same run few label e = ap (λ (o : Option Labelled). option_map_or (λ (m : Labelled). m.bytes) o []) e

signed_same : (run : Run) (few : List Labelled) (label : List ℕ) → made_in run.labels label ≡ made_in few label → signed_of run label ≡ signed_of (with_labels run few) label
signed_same run few label e = ap (λ (o : Option Labelled). option_and_then (λ (m : Labelled). m.signed) o) e

referred_same : (run : Run) (few : List Labelled) (r : Ref) → NameTheSame (labels_of_ref r) run.labels few → referred run r ≡ referred (with_labels run few) r
unfolding referred
referred_same run few (ref.Label label) same = ap (λ (o : Option Signed). option_and_then (λ (s : Signed). first_update (update_in s.statement)) o) (signed_same run few label (same label (inl refl)))
referred_same run few (ref.Own node seq) same = refl

plain_same : (run : Run) (few : List Labelled) (r : Ref) → NameTheSame (labels_of_ref r) run.labels few → plain_referred run r ≡ plain_referred (with_labels run few) r
plain_same run few (ref.Label label) same = ap (λ (o : Option Labelled). option_and_then (λ (m : Labelled). when m.plain m.bytes) o) (same label (inl refl))
plain_same run few (ref.Own node seq) same = refl

id_same : (run : Run) (few : List Labelled) (r : Ref) → NameTheSame (labels_of_ref r) run.labels few → id_referred run r ≡ id_referred (with_labels run few) r
unfolding id_referred
id_same run few r same = rw (plain_same run few r same) (rw (referred_same run few r same) refl)

-- a label of one of these references is one of theirs
of_one : (r : Ref) (refs : List Ref) (label : List ℕ) → IsIn r refs → IsIn label (labels_of_ref r) → IsIn label (labels_of_refs refs)
of_one r [] label never on = absurd never
of_one r (x ∷ refs) label (inl here) on = in_left label (labels_of_ref x) (labels_of_refs refs) (subst (λ (y : Ref). IsIn label (labels_of_ref y)) (sym here) on)
of_one r (x ∷ refs) label (inr there) on = in_right label (labels_of_ref x) (labels_of_refs refs) (of_one r refs label there on)

all_referred_same : (run : Run) (few : List Labelled) (refs : List Ref) → NameTheSame (labels_of_refs refs) run.labels few → all_referred run refs ≡ all_referred (with_labels run few) refs
all_referred_same run few refs same = ap all_of (map_same (referred run) (referred (with_labels run few)) refs (λ r on. referred_same run few r (λ label in_r. same label (of_one r refs label on in_r))))

prev_same : (run : Run) (few : List Labelled) (prev : Option Ref) → NameTheSame (labels_of_prev prev) run.labels few → prev_of_ref run prev ≡ prev_of_ref (with_labels run few) prev
prev_same run few None same = refl
prev_same run few (Some r) same = ap (option_map id_of_update) (referred_same run few r same)

-- ---- what faulty nodes make

updated_same : (sign : Signs) (run : Run) (few : List Labelled) (writer seq clock : ℕ) (prev : Option Ref) (changes : List Change) (deps : List Ref) (history : HistoryWord) → NameTheSame (labels_of_prev prev) run.labels few → NameTheSame (labels_of_refs deps) run.labels few
    → updated sign run writer seq clock prev changes deps history ≡ updated sign (with_labels run few) writer seq clock prev changes deps history
unfolding updated
updated_same sign run few writer seq clock prev changes deps history of_prev of_deps = rw (prev_same run few prev of_prev) (rw (all_referred_same run few deps of_deps) refl)

vouched_same : (sign : Signs) (run : Run) (few : List Labelled) (writer seq : ℕ) (refs : List Ref) → NameTheSame (labels_of_refs refs) run.labels few → vouched_text sign run writer seq refs ≡ vouched_text sign (with_labels run few) writer seq refs
unfolding vouched_text
vouched_same sign run few writer seq refs same = rw (vouched_text, map_same (id_referred run) (id_referred (with_labels run few)) refs (λ r on. id_same run few r (λ label in_r. same label (of_one r refs label on in_r)))) refl

proof_same : (run : Run) (few : List Labelled) (kind : Kind) (a b : List ℕ) → NameTheSame (a ∷ b ∷ []) run.labels few → proof_text run kind a b ≡ proof_text (with_labels run few) kind a b
unfolding proof_text
proof_same run few kind a b same = rw (proof_text, signed_same run few a (same a (inl refl))) (rw (proof_text, signed_same run few b (same b (inr (inl refl)))) refl)

hollow_same : (run : Run) (few : List Labelled) (voucher plain : List ℕ) → NameTheSame (voucher ∷ plain ∷ []) run.labels few → hollow_text run voucher plain ≡ hollow_text (with_labels run few) voucher plain
unfolding hollow_text
hollow_same run few voucher plain same =
    ap (λ (o : Option Signed). elim o as (λ x. Text) [ None ↦ no_reference | Some s ↦ cond (leb (length (bytes_of_label run plain)) MOST_VALUE) (proof_with NotUpdate (Hollow s (bytes_of_label run plain))) no_reference ]) (signed_same run few voucher (same voucher (inl refl)))
    ∙ ap (λ (bytes : List ℕ). elim (signed_of (with_labels run few) voucher) as (λ x. Text) [ None ↦ no_reference | Some s ↦ cond (leb (length bytes) MOST_VALUE) (proof_with NotUpdate (Hollow s bytes)) no_reference ]) (bytes_same run few plain (same plain (inr (inl refl))))

-- ---- runs

same_pushed : (es : List Event) (whole few : List Labelled) (m : Labelled) → NameTheSameIn es whole few → NameTheSameIn es (whole ++ m ∷ []) (few ++ m ∷ [])
same_pushed es whole few m same e on label named = made_more whole m label ∙ ap (λ (o : Option Labelled). first_or o (cond (bytes_eq m.label label) (Some m) None)) (same e on label named) ∙ sym (made_more few m label)

-- a run is one of its own
pub alike_itself : (es : List Event) (run : Run) → IsAlikeFor es run run
alike_itself es run = record { others = refl; named = λ e on label named. refl }

-- runs that are alike one another
pub alike_further : (es : List Event) (whole some few : Run) → IsAlikeFor es whole some → IsAlikeFor es some few → IsAlikeFor es whole few
alike_further es whole some few a b = record {
  others = b.others ∙ ap (λ (r : Run). with_labels r few.labels) a.others;
  named = λ e on label named. a.named e on label named ∙ b.named e on label named;
}

-- what these events don't name may be gone
pub alike_without : (es : List Event) (run : Run) (label : List ℕ) → NoneNames es label → IsAlikeFor es run (with_labels run (labels_without label run.labels))
alike_without es run gone not_named = record {
  others = refl;
  named = λ e on label named. sym (made_without run.labels gone label ∙ by_test e on label named (bytes_eq gone label) refl);
} where
  by_test : (e : Event) → IsIn e es → (label : List ℕ) → IsIn label (labels_in e) → (b : Bool) → bytes_eq gone label ≡ b → cond b None (made_in run.labels label) ≡ made_in run.labels label
  by_test e on label named true same = absurd (not_named e on (subst (λ (l : List ℕ). IsIn l (labels_in e)) (sym ((bytes_eq-Decides gone label).0 same)) named))
  by_test e on label named false other = refl

-- its nodes may be audited where those of the other may
sound_with : (setup : Setup) (run : Run) (few : List Labelled) → IsSound setup run → IsSound setup (with_labels run few)
unfolding world_by
sound_with setup run few s = record { world = s.world; few = s.few; some = s.some; most = s.most }

pub alike_sound : (setup : Setup) (es : List Event) (whole few : Run) → IsAlikeFor es whole few → IsSound setup whole → IsSound setup few
alike_sound setup es whole few a sound = subst (IsSound setup) (sym a.others) (sound_with setup whole few.labels sound)

-- ---- events

-- an event had the same outcome, and the runs agree for those after it
pub record CameAlike (es : List Event) (whole few : Done) : Type 0 where
  pub answer : whole.answer ≡ few.answer
  pub behind : whole.behind ≡ few.behind
  pub run : IsAlikeFor es whole.run few.run

same_run : (es : List Event) (run : Run) (few : List Labelled) (answer : List ℕ) (behind : List (List ℕ)) → NameTheSameIn es run.labels few → CameAlike es (record { answer = answer; behind = behind; run = run }) (record { answer = answer; behind = behind; run = with_labels run few })
same_run es run few answer behind same = record { answer = refl; behind = refl; run = record { others = refl; named = same } }

node_alike : (es : List Event) (run : Run) (few : List Labelled) (node : ℕ) (label : Option (List ℕ)) (effect : Host → Effect) → NameTheSameIn es run.labels few → CameAlike es (done_at_node run node label effect) (done_at_node (with_labels run few) node label effect)
unfolding done_at_node with_host
node_alike es run few node label effect same = by_host (host_in run.hosts node) where
  by_label : (l : Option (List ℕ)) (w : EventResult) → CameAlike es (done_by_node run l w) (done_by_node (with_labels run few) l w)
  by_label None w = same_run es (with_host run w.host) few w.answer w.behind same
  by_label (Some l) w = record { answer = refl; behind = refl; run = record { others = refl; named = same_pushed es run.labels few (record { label = l; bytes = w.bytes; signed = None; plain = false }) same } }

  by_host : (o : Option Host) → CameAlike es (elim o as (λ x. Done) [ None ↦ record { answer = []; behind = []; run = run } | Some s ↦ done_by_node run label (event_result s (effect s)) ])
      (elim o as (λ x. Done) [ None ↦ record { answer = []; behind = []; run = with_labels run few } | Some s ↦ done_by_node (with_labels run few) label (event_result s (effect s)) ])
  by_host None = same_run es run few [] [] same
  by_host (Some s) = by_label label (event_result s (effect s))

pending_alike : (es : List Event) (run : Run) (few : List Labelled) (node call image : ℕ) → NameTheSameIn es run.labels few → CameAlike es (pending_at run node call image) (pending_at (with_labels run few) node call image)
unfolding pending_at with_host
pending_alike es run few node call image same = by_host (host_in run.hosts node) where
  armed : Host → Host
  armed s = record { correct = s.correct; pending = Some (record { call = call; image = image }) }

  by_host : (o : Option Host) → CameAlike es (elim o as (λ x. Done) [ None ↦ record { answer = []; behind = []; run = run } | Some s ↦ record { answer = codes " armed"; behind = []; run = with_host run (armed s) } ])
      (elim o as (λ x. Done) [ None ↦ record { answer = []; behind = []; run = with_labels run few } | Some s ↦ record { answer = codes " armed"; behind = []; run = with_host (with_labels run few) (armed s) } ])
  by_host None = same_run es run few [] [] same
  by_host (Some s) = same_run es (with_host run (armed s)) few (codes " armed") [] same

text_alike : (es : List Event) (run : Run) (few : List Labelled) (label : List ℕ) (whole some : Text) → NameTheSameIn es run.labels few → whole ≡ some → CameAlike es (done_by_text run label whole) (done_by_text (with_labels run few) label some)
text_alike es run few label whole some same is = subst (λ (t : Text). CameAlike es (done_by_text run label whole) (done_by_text (with_labels run few) label t)) is
    (record { answer = refl; behind = refl; run = record { others = refl; named = same_pushed es run.labels few (record { label = label; bytes = whole.bytes; signed = whole.signed; plain = whole.plain }) same } })

update_alike : (es : List Event) (sign : Signs) (run : Run) (few : List Labelled) (label : List ℕ) (values : List (List ℕ)) (o p : Option Update) → NameTheSameIn es run.labels few → o ≡ p → CameAlike es (done_by_update sign run label values o) (done_by_update sign (with_labels run few) label values p)
update_alike es sign run few label values o p same is = subst (λ (q : Option Update). CameAlike es (done_by_update sign run label values o) (done_by_update sign (with_labels run few) label values q)) is (by_update o) where
  by_update : (q : Option Update) → CameAlike es (done_by_update sign run label values q) (done_by_update sign (with_labels run few) label values q)
  by_update None = text_alike es run few label no_reference no_reference same refl
  by_update (Some u) = text_alike es (record run { seen = seen_with run.seen (u ∷ []) }) few label (update_text sign u values) (update_text sign u values) same refl

-- what is asked of a node, where both ask for the same
asked_alike : (es : List Event) (setup : Setup) (run : Run) (few : List Labelled) (node : ℕ) (label : Option (List ℕ)) (o p : Option Request) → NameTheSameIn es run.labels few → o ≡ p → CameAlike es (asked_for setup run node label o) (asked_for setup (with_labels run few) node label p)
asked_alike es setup run few node label o p same is = subst (λ (q : Option Request). CameAlike es (asked_for setup run node label o) (asked_for setup (with_labels run few) node label q)) is (by_request o) where
  by_request : (q : Option Request) → CameAlike es (asked_for setup run node label q) (asked_for setup (with_labels run few) node label q)
  by_request None = same_run es run few (codes " NoRef") [] same
  by_request (Some r) = node_alike es run few node label (λ s. effect_of (stands_on setup node) (signs_on setup node) s.correct r) same

-- an event asks for the same by labels that name the same
same_request : (run : Run) (few : List Labelled) (e : Event) → NameTheSame (labels_in e) run.labels few → request_in run e ≡ request_in (with_labels run few) e
same_request run few (event.Bundle node hello label) now = ap (λ (bytes : List ℕ). Some (request.Bundle bytes)) (bytes_same run few hello (now hello (inl refl)))
same_request run few (event.Give node label size) now = ap (λ (bytes : List ℕ). Some (request.Take bytes (piece_of size))) (bytes_same run few label (now label (inl refl)))
same_request run few (event.Sign node label) now = ap (λ (bytes : List ℕ). Some (request.Sign bytes)) (bytes_same run few label (now label (inl refl)))
same_request run few (event.Receipt node refs) now = ap (option_map (λ (us : List Update). request.Receipt (rising (map id_of_update us)))) (all_referred_same run few refs now)
same_request run few (event.Settled node reference k) now = ap (option_map (λ (u : Update). request.Settled (id_of_update u) k)) (referred_same run few reference now)
same_request run few e now = refl

asking_alike : (setup : Setup) (es : List Event) (run : Run) (few : List Labelled) (e : Event) → NameTheSame (labels_in e) run.labels few → NameTheSameIn es run.labels few
    → CameAlike es (asked_for setup run (event_node e) (label_by e) (request_in run e)) (asked_for setup (with_labels run few) (event_node e) (label_by e) (request_in (with_labels run few) e))
asking_alike setup es run few e now same = asked_alike es setup run few (event_node e) (label_by e) (request_in run e) (request_in (with_labels run few) e) same (same_request run few e now)

judge_alike : (es : List Event) (setup : Setup) (run : Run) (few : List Labelled) (read : Result Proof ℕ) → NameTheSameIn es run.labels few → CameAlike es (judged_with setup run read) (judged_with setup (with_labels run few) read)
judge_alike es setup run few (Err at) same = same_run es run few _ [] same
judge_alike es setup run few (Ok p) same = by_point (first_failed_point setup.suite.verifies setup.listed p) where
  by_point : (o : Option JudgeError)
      → CameAlike es (elim o as (λ x. Done) [ Some f ↦ record { answer = spaced (text_of_point f); behind = []; run = run } | None ↦ record { answer = spaced (text_of_verdict (verdict_of p)); behind = []; run = record run { judged = run.judged ++ p ∷ [] } } ])
      (elim o as (λ x. Done) [ Some f ↦ record { answer = spaced (text_of_point f); behind = []; run = with_labels run few } | None ↦ record { answer = spaced (text_of_verdict (verdict_of p)); behind = []; run = record (with_labels run few) { judged = run.judged ++ p ∷ [] } } ])
  by_point (Some f) = same_run es run few (spaced (text_of_point f)) [] same
  by_point None = same_run es (record run { judged = run.judged ++ p ∷ [] }) few (spaced (text_of_verdict (verdict_of p))) [] same

trim_alike : (es : List Event) (setup : Setup) (run : Run) (few : List Labelled) (node : ℕ) (text name : List ℕ) → NameTheSameIn es run.labels few → CameAlike es (trim_at setup run node text name) (trim_at setup (with_labels run few) node text name)
unfolding trim_at
trim_alike es setup run few node text name same = by_host (host_in run.hosts node) where
  by_host : (o : Option Host) → CameAlike es (elim o as (λ x. Done) [ None ↦ record { answer = []; behind = []; run = run } | Some s ↦ trimmed_with run name (trim_of (stands_on setup node) s.correct.journal text) ])
      (elim o as (λ x. Done) [ None ↦ record { answer = []; behind = []; run = with_labels run few } | Some s ↦ trimmed_with (with_labels run few) name (trim_of (stands_on setup node) s.correct.journal text) ])
  by_host None = same_run es run few [] [] same
  by_host (Some s) = let d = trimmed_with run name (trim_of (stands_on setup node) s.correct.journal text) in same_run es d.run few d.answer [] same

used_alike : (es : List Event) (run : Run) (few : List Labelled) (name : List ℕ) (u : ReaderUse) → NameTheSameIn es run.labels few → CameAlike es (used_at run name u) (used_at (with_labels run few) name u)
used_alike es run few name u same = let d = used_at run name u in same_run es d.run few d.answer [] same

audit_alike : (es : List Event) (setup : Setup) (run : Run) (few : List Labelled) → NameTheSameIn es run.labels few → CameAlike es (audit_by setup run) (audit_by setup (with_labels run few))
unfolding audited
audit_alike es setup run few same = same_run es run few (audit_by setup run).answer [] same

-- what an event makes of bytes that both have
by_bytes : (es : List Event) (run : Run) (few : List Labelled) (label : List ℕ) (of : Run → List ℕ → Done) → made_in run.labels label ≡ made_in few label → ((bytes : List ℕ) → CameAlike es (of run bytes) (of (with_labels run few) bytes))
    → CameAlike es (of run (bytes_of_label run label)) (of (with_labels run few) (bytes_of_label (with_labels run few) label))
by_bytes es run few label of e each = subst (λ (bytes : List ℕ). CameAlike es (of run (bytes_of_label run label)) (of (with_labels run few) bytes)) (bytes_same run few label e) (each (bytes_of_label run label))

-- each event
done_alike : (setup : Setup) (es : List Event) (run : Run) (few : List Labelled) (e : Event) → NameTheSame (labels_in e) run.labels few → NameTheSameIn es run.labels few → CameAlike es (done setup run e) (done setup (with_labels run few) e)
unfolding done
done_alike setup es run few (event.Restart node) now same = node_alike es run few node None (λ s. restart_by s.correct) same
done_alike setup es run few (event.Update label writer seq clock prev key value deps history) now same =
    let of_prev = λ (l : List ℕ) (on : IsIn l (labels_of_prev prev)). now l (inr (in_left l (labels_of_prev prev) (labels_of_refs deps) on)) in
    let of_deps = λ (l : List ℕ) (on : IsIn l (labels_of_refs deps)). now l (inr (in_right l (labels_of_prev prev) (labels_of_refs deps) on)) in
    update_alike es (signs_on setup writer) run few label (values_of (one_change key value)) _ _ same (updated_same (signs_on setup writer) run few writer seq clock prev (one_change key value) deps history of_prev of_deps)
done_alike setup es run few (event.Updates label writer seq clock prev changes deps history) now same =
    let of_prev = λ (l : List ℕ) (on : IsIn l (labels_of_prev prev)). now l (inr (in_left l (labels_of_prev prev) (labels_of_refs deps) on)) in
    let of_deps = λ (l : List ℕ) (on : IsIn l (labels_of_refs deps)). now l (inr (in_right l (labels_of_prev prev) (labels_of_refs deps) on)) in
    update_alike es (signs_on setup writer) run few label (values_of changes) _ _ same (updated_same (signs_on setup writer) run few writer seq clock prev changes deps history of_prev of_deps)
done_alike setup es run few (event.Voucher label writer seq refs) now same = text_alike es run few label _ _ same (vouched_same (signs_on setup writer) run few writer seq refs (λ l on. now l (inr on)))
done_alike setup es run few (event.Proof label kind first second) now same = text_alike es run few label _ _ same (proof_same run few kind first second (λ l on. now l (inr on)))
done_alike setup es run few (event.Hollow label voucher plain) now same = text_alike es run few label _ _ same (hollow_same run few voucher plain (λ l on. now l (inr on)))
done_alike setup es run few (event.Judge label) now same = by_bytes es run few label (λ r bytes. judged_with setup r (proof_in bytes)) (now label (inl refl)) (λ bytes. judge_alike es setup run few (proof_in bytes) same)
done_alike setup es run few (event.Raw label bytes) now same = text_alike es run few label (counted_bytes bytes) (counted_bytes bytes) same refl
done_alike setup es run few (event.Cut label source start count) now same = text_alike es run few label _ _ same (ap (λ (bytes : List ℕ). counted_bytes (take count (drop start bytes))) (bytes_same run few source (now source (inr (inl refl)))))
done_alike setup es run few (event.Flip label source place) now same = text_alike es run few label _ _ same (ap (λ (bytes : List ℕ). counted_bytes (flip_at place bytes)) (bytes_same run few source (now source (inr (inl refl)))))
done_alike setup es run few (event.Join label first second) now same =
    text_alike es run few label _ _ same
    (ap (λ (bytes : List ℕ). counted_bytes (bytes ++ bytes_of_label run second)) (bytes_same run few first (now first (inr (inl refl))))
    ∙ ap (λ (bytes : List ℕ). counted_bytes (bytes_of_label (with_labels run few) first ++ bytes)) (bytes_same run few second (now second (inr (inr (inl refl))))))
done_alike setup es run few (event.Stop node call image) now same = pending_alike es run few node call image same
done_alike setup es run few event.Audit now same = audit_alike es setup run few same
done_alike setup es run few (event.Trim node label name) now same = by_bytes es run few label (λ r bytes. trim_at setup r node bytes name) (now label (inl refl)) (λ bytes. trim_alike es setup run few node bytes name same)
done_alike setup es run few (event.Tgive name label) now same = by_bytes es run few label (λ r bytes. used_at r name (uses.Give bytes)) (now label (inl refl)) (λ bytes. used_alike es run few name (uses.Give bytes) same)
done_alike setup es run few (event.Tget name key) now same = used_alike es run few name (uses.Get key) same
done_alike setup es run few e now same = asking_alike setup es run few e now same

-- ---- the law

told_alike : (es : List Event) (e : Event) (whole few : Done) → CameAlike es whole few → lines_of e few ≡ lines_of e whole
unfolding lines_of
told_alike es e whole few a = rw (sym a.answer) (rw (sym a.behind) refl)

pub goes_alike : (setup : Setup) (es : List Event) (e : Event) (whole few : Run) → IsAlikeFor (e ∷ es) whole few → GoesAlike setup es e whole few
goes_alike setup es e whole few a = subst (GoesAlike setup es e whole) (sym a.others) (each (done_alike setup es whole few.labels e (a.named e (inl refl)) (λ x on. a.named x (inr on)))) where
  each : CameAlike es (done setup whole e) (done setup (with_labels whole few.labels) e) → GoesAlike setup es e whole (with_labels whole few.labels)
  each c = record { lines = told_alike es e _ _ c; run = c.run }

-- for some of the events
pub alike_for_fewer : (es fs : List Event) (whole few : Run) → ((e : Event) → IsIn e fs → IsIn e es) → IsAlikeFor es whole few → IsAlikeFor fs whole few
alike_for_fewer es fs whole few within a = record { others = a.others; named = λ e on. a.named e (within e on) }
