-- The reads of nodes: which events add one, and that the nodes stay the same.
use Rattle.std.proofs.Common.{◌≡◌, ◌-◌, ℕ, ◌+◌, ◌≤◌, Bool, true, false, leb, cond, List, [], ◌∷◌, ◌++◌, codes, length, take, zero, suc, Option, Some, None, Result, Ok, Err, refl, ap, subst, ◌∙◌, inl, inr, arith}
use Rattle.depot_base.specs.Writes.{one_change}
use Rattle.depot_base.specs.declared.proof.Proof.{Proof}
use Rattle.depot_base.specs.declared.update.Update.{Update}
use Rattle.depot_model.specs.exchange.Bundle.{Signs}
use Rattle.depot_model.specs.checks.Checks.{Setting}
use Rattle.depot_model.specs.updates.Judgement.{first_failed_point, verdict_of}
use Rattle.depot_model.specs.texts.Lines.{text_of_point, text_of_verdict}
use Rattle.depot_model.specs.lists.Lists.{IsIn}
use Rattle.depot_model.specs.checks.Own.{values_of}
use Rattle.depot_model.specs.readers.Readers.{trim_of}
use Rattle.depot_model.specs.worlds.World.{Correct, Read}
use Rattle.depot_model.specs.declared.judgement.JudgeError.{JudgeError}
use Rattle.depot_answers.specs.AnswerTexts.{spaced}
use Rattle.depot_requests.specs.Requests.{effect_of, reads_after}
use Rattle.depot_requests.specs.declared.request.Request.{Request}
use Rattle.depot_requests.specs.declared.request.Request.TheVariants as request
use Rattle.depot_schedule.specs.EventLines.{event_node}
use Rattle.depot_schedule.specs.declared.event.Event.{Event}
use Rattle.depot_schedule.specs.declared.event.Event.TheVariants as event
use Rattle.depot_requests.specs.Effects.{read_at_end, Effect}
use Rattle.depot_world.specs.ScheduleStops.{restart_by}
use Rattle.depot_world.specs.EventRequests.{label_by, request_in}
use Rattle.depot_world.specs.FaultySigning.{updated, proof_in}
use Rattle.depot_world.specs.Run.{PendingStop, Host, Run, bytes_of_label, host_in, put_host, with_host}
use Rattle.depot_world.specs.ScheduleStops.{EventResult, journal_left, stopped_with, result_by, result_pending, event_result}
use Rattle.depot_world.specs.Setups.{Setup, stands_on, signs_on}
use Rattle.depot_world.specs.Transcript.{Done, pending_at, done_at_node, done_by_node, done_by_update, done, judged_with, asked_for, run_after, trimmed_with, trim_at}
use Rattle.depot_world.proofs.of_worlds.GoodRuns.{numbers_of, found_is, from_put_host, same_numbers}

-- ---- lists

long_push : {X : Type 0} (xs : List X) (x : X) → length (xs ++ x ∷ []) ≡ length xs + 1
long_push [] x = refl
long_push (y ∷ xs) x = omega (arith, long_push xs x)

pub few_taken : {X : Type 0} (n : ℕ) (xs : List X) → length (take n xs) ≤ length xs
few_taken zero xs = omega arith
few_taken (suc n) [] = omega arith
few_taken (suc n) (x ∷ xs) = omega (arith, few_taken n xs)

-- ---- the reads of a node

-- no node has more reads than this
abbrev pub HaveFewReads : ℕ → List Host → Type 0
HaveFewReads k ss = (s : Host) → IsIn s ss → length s.correct.reads ≤ k

-- an event that adds none, stopped or not
pub result_reads : (s : Host) (d : Effect) → d.reads ≡ s.correct.reads → (event_result s d).host.correct.reads ≡ s.correct.reads
unfolding event_result
result_reads s d same = by_stop s.pending where
  by_call : (a : PendingStop) (b : Bool) → (cond b (stopped_with s (journal_left s.correct.journal d.journal a)) (result_by s (Some (record { call = a.call - d.calls; image = a.image })) d)).host.correct.reads ≡ s.correct.reads
  by_call a true = refl
  by_call a false = same

  by_stop : (o : Option PendingStop) → (elim o as (λ x. EventResult) [ None ↦ result_by s None d | Some a ↦ result_pending s d a ]).host.correct.reads ≡ s.correct.reads
  by_stop None = same
  by_stop (Some a) = by_call a (leb a.call d.calls)

-- an event that no stop falls into, whatever it adds
pub result_whole : (s : Host) (d : Effect) → ((a : PendingStop) → s.pending ≡ Some a → leb a.call d.calls ≡ false) → (event_result s d).host.correct.reads ≡ d.reads
unfolding event_result
result_whole s d apart = by_stop s.pending refl where
  by_call : (a : PendingStop) (b : Bool) → b ≡ false → (cond b (stopped_with s (journal_left s.correct.journal d.journal a)) (result_by s (Some (record { call = a.call - d.calls; image = a.image })) d)).host.correct.reads ≡ d.reads
  by_call a true is = absurd cc
  by_call a false is = refl

  by_stop : (o : Option PendingStop) → s.pending ≡ o → (elim o as (λ x. EventResult) [ None ↦ result_by s None d | Some a ↦ result_pending s d a ]).host.correct.reads ≡ d.reads
  by_stop None is = refl
  by_stop (Some a) is = by_call a (leb a.call d.calls) (apart a is)

-- ---- what an event adds

-- the reads after a request are kept
pub request_reads : (here : Setting) (sign : Signs) (c : Correct) (r : Request) → (effect_of here sign c r).reads ≡ reads_after c r
unfolding effect_of
request_reads here sign c r = refl

pub restart_keeps : (c : Correct) → (restart_by c).reads ≡ c.reads
unfolding restart_by
restart_keeps c = refl

-- at most one
abbrev AddsOne : Correct → Effect → Type 0
AddsOne c d = length d.reads ≤ length c.reads + 1

none_more : (c : Correct) (d : Effect) → d.reads ≡ c.reads → AddsOne c d
none_more c d same = omega (arith, ap (λ (rs : List Read). length rs) same)

few_more : (c : Correct) (r : Request) → length (reads_after c r) ≤ length c.reads + 1
few_more c (request.Get key) = omega (arith, long_push c.reads (read_at_end c.journal key))
few_more c other = omega arith

one_more : (here : Setting) (sign : Signs) (c : Correct) (r : Request) → AddsOne c (effect_of here sign c r)
one_more here sign c r = omega (arith, ap (λ (rs : List Read). length rs) (request_reads here sign c r), few_more c r)

-- as the event went, too
result_adds : (s : Host) (d : Effect) → AddsOne s.correct d → length (event_result s d).host.correct.reads ≤ length s.correct.reads + 1
unfolding event_result
result_adds s d one = by_stop s.pending where
  by_call : (a : PendingStop) (b : Bool) → length (cond b (stopped_with s (journal_left s.correct.journal d.journal a)) (result_by s (Some (record { call = a.call - d.calls; image = a.image })) d)).host.correct.reads ≤ length s.correct.reads + 1
  by_call a true = omega arith
  by_call a false = one

  by_stop : (o : Option PendingStop) → length (elim o as (λ x. EventResult) [ None ↦ result_by s None d | Some a ↦ result_pending s d a ]).host.correct.reads ≤ length s.correct.reads + 1
  by_stop None = one
  by_stop (Some a) = by_call a (leb a.call d.calls)

-- ---- the nodes of a run

-- what an event makes of the hosts: one read more at most each, and the same nodes
pub record AddsReads (before after : List Host) : Type 0 where
  pub few : (k : ℕ) → HaveFewReads k before → HaveFewReads (k + 1) after
  pub same : numbers_of after ≡ numbers_of before

none_added : (ss : List Host) → AddsReads ss ss
none_added ss = record { few = λ k few s on. omega (arith, few s on); same = refl }

put_host_adds : (ss : List Host) (s old : Host) → IsIn old ss → length s.correct.reads ≤ length old.correct.reads + 1 → AddsReads ss (put_host s ss)
put_host_adds ss s old on one = record {
  few = λ k few x x_on. elim (from_put_host s x ss x_on) [
    | inl same ↦ subst (λ (y : Host). length y.correct.reads ≤ k + 1) same (omega (arith, one, few old on))
    | inr there ↦ omega (arith, few x there)
  ];
  same = same_numbers s ss;
}

host_adds : (run : Run) (s old : Host) → IsIn old run.hosts → length s.correct.reads ≤ length old.correct.reads + 1 → AddsReads run.hosts (with_host run s).hosts
unfolding with_host
host_adds run s old on one = put_host_adds run.hosts s old on one

-- ---- events

label_adds : (run : Run) (label : Option (List ℕ)) (w : EventResult) (old : Host) → IsIn old run.hosts → length w.host.correct.reads ≤ length old.correct.reads + 1 → AddsReads run.hosts (done_by_node run label w).run.hosts
label_adds run None w old on one = host_adds run w.host old on one
label_adds run (Some label) w old on one = host_adds run w.host old on one

node_adds : (run : Run) (node : ℕ) (label : Option (List ℕ)) (effect : Host → Effect) → ((s : Host) → AddsOne s.correct (effect s)) → AddsReads run.hosts (done_at_node run node label effect).run.hosts
unfolding done_at_node
node_adds run node label effect one = by_host (host_in run.hosts node) refl where
  by_host : (o : Option Host) → host_in run.hosts node ≡ o → AddsReads run.hosts (elim o as (λ x. Done) [ None ↦ record { answer = []; behind = []; run = run } | Some s ↦ done_by_node run label (event_result s (effect s)) ]).run.hosts
  by_host None none = none_added run.hosts
  by_host (Some s) is = label_adds run label (event_result s (effect s)) s (found_is run.hosts node s is).on (result_adds s (effect s) (one s))

pending_adds : (run : Run) (node call image : ℕ) → AddsReads run.hosts (pending_at run node call image).run.hosts
unfolding pending_at
pending_adds run node call image = by_host (host_in run.hosts node) refl where
  by_host : (o : Option Host) → host_in run.hosts node ≡ o
      → AddsReads run.hosts (elim o as (λ x. Done) [ None ↦ record { answer = []; behind = []; run = run } | Some s ↦ record { answer = codes " armed"; behind = []; run = with_host run (record { correct = s.correct; pending = Some (record { call = call; image = image }) }) } ]).run.hosts
  by_host None none = none_added run.hosts
  by_host (Some s) is = host_adds run (record { correct = s.correct; pending = Some (record { call = call; image = image }) }) s (found_is run.hosts node s is).on (omega arith)

asked_adds : (setup : Setup) (run : Run) (node : ℕ) (label : Option (List ℕ)) (o : Option Request) → AddsReads run.hosts (asked_for setup run node label o).run.hosts
asked_adds setup run node label None = none_added run.hosts
asked_adds setup run node label (Some r) = node_adds run node label (λ s. effect_of (stands_on setup node) (signs_on setup node) s.correct r) (λ s. one_more (stands_on setup node) (signs_on setup node) s.correct r)

trim_adds : (setup : Setup) (run : Run) (node : ℕ) (text name : List ℕ) → AddsReads run.hosts (trim_at setup run node text name).run.hosts
unfolding trim_at
trim_adds setup run node text name = by_host (host_in run.hosts node) where
  by_host : (o : Option Host)
      → AddsReads run.hosts (elim o as (λ x. Done) [ None ↦ record { answer = []; behind = []; run = run } | Some s ↦ trimmed_with run name (trim_of (stands_on setup node) s.correct.journal text) ]).run.hosts
  by_host None = none_added run.hosts
  by_host (Some s) = none_added run.hosts

update_adds : (sign : Signs) (run : Run) (label : List ℕ) (values : List (List ℕ)) (o : Option Update) → AddsReads run.hosts (done_by_update sign run label values o).run.hosts
update_adds sign run label values None = none_added run.hosts
update_adds sign run label values (Some u) = none_added run.hosts

judge_adds : (setup : Setup) (run : Run) (read : Result Proof ℕ) → AddsReads run.hosts (judged_with setup run read).run.hosts
judge_adds setup run (Err at) = none_added run.hosts
judge_adds setup run (Ok p) = by_point (first_failed_point setup.suite.verifies setup.listed p) where
  by_point : (o : Option JudgeError)
      → AddsReads run.hosts (elim o as (λ x. Done) [ Some f ↦ record { answer = spaced (text_of_point f); behind = []; run = run } | None ↦ record { answer = spaced (text_of_verdict (verdict_of p)); behind = []; run = record run { judged = run.judged ++ p ∷ [] } } ]).run.hosts
  by_point (Some f) = none_added run.hosts
  by_point None = none_added run.hosts

-- each event
event_adds : (setup : Setup) (run : Run) (e : Event) → AddsReads run.hosts (done setup run e).run.hosts
unfolding done
event_adds setup run (event.Restart node) = node_adds run node None (λ s. restart_by s.correct) (λ s. none_more s.correct (restart_by s.correct) (restart_keeps s.correct))
event_adds setup run (event.Update label writer seq clock prev key value deps history) = update_adds (signs_on setup writer) run label (values_of (one_change key value)) (updated (signs_on setup writer) run writer seq clock prev (one_change key value) deps history)
event_adds setup run (event.Updates label writer seq clock prev changes deps history) = update_adds (signs_on setup writer) run label (values_of changes) (updated (signs_on setup writer) run writer seq clock prev changes deps history)
event_adds setup run (event.Voucher label writer seq refs) = none_added run.hosts
event_adds setup run (event.Proof label kind first second) = none_added run.hosts
event_adds setup run (event.Hollow label voucher plain) = none_added run.hosts
event_adds setup run (event.Judge label) = judge_adds setup run (proof_in (bytes_of_label run label))
event_adds setup run (event.Raw label bytes) = none_added run.hosts
event_adds setup run (event.Cut label source start count) = none_added run.hosts
event_adds setup run (event.Flip label source place) = none_added run.hosts
event_adds setup run (event.Join label first second) = none_added run.hosts
event_adds setup run (event.Stop node call image) = pending_adds run node call image
event_adds setup run event.Audit = none_added run.hosts
event_adds setup run (event.Trim node label name) = trim_adds setup run node (bytes_of_label run label) name
event_adds setup run (event.Tgive name label) = none_added run.hosts
event_adds setup run (event.Tget name key) = none_added run.hosts
event_adds setup run e = asked_adds setup run (event_node e) (label_by e) (request_in run e)

-- ---- all events

-- so many events add so many reads at most
pub few_after : (setup : Setup) (run : Run) (es : List Event) (k : ℕ) → HaveFewReads k run.hosts → HaveFewReads (k + length es) (run_after setup run es).hosts
unfolding run_after
few_after setup run [] k few = λ s on. omega (arith, few s on)
few_after setup run (e ∷ es) k few = λ s on. omega (arith, few_after setup (done setup run e).run es (k + 1) ((event_adds setup run e).few k few) s on)

-- and the nodes stay the same
pub same_after : (setup : Setup) (run : Run) (es : List Event) → numbers_of (run_after setup run es).hosts ≡ numbers_of run.hosts
unfolding run_after
same_after setup run [] = refl
same_after setup run (e ∷ es) = same_after setup (done setup run e).run es ∙ (event_adds setup run e).same
