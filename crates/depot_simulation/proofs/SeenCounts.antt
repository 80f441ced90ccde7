-- How many updates a run sees: those that its nodes accepted, and at most one for each event.
use Rattle.std.proofs.Common.{◌≡◌, ◌+◌, ◌*◌, ◌<◌, ◌≤◌, ℕ, Bool, true, false, eqb, cond, List, [], ◌∷◌, ◌++◌, codes, length, take, Option, Some, None, Result, Ok, Err, refl, sym, ap, subst, ◌∙◌, inl, inr, length-append, arith}
use Rattle.depot_answers.specs.AnswerTexts.{spaced}
use Rattle.depot_base.specs.Writes.{one_change}
use Rattle.depot_base.specs.declared.limits.TheConstants.{MOST_CORRECT, MOST_LINES, MOST_RECORDS}
use Rattle.depot_base.specs.declared.proof.Proof.{Proof}
use Rattle.depot_base.specs.declared.update.Update.{Update}
use Rattle.depot_laws.proofs.exchanges.BundleSizes.{few_told}
use Rattle.depot_laws.proofs.own_updates.OwnTexts.{lawful_is_short}
use Rattle.depot_model.specs.exchange.Bundle.{Signs}
use Rattle.depot_model.specs.journals.Journal.{accepted}
use Rattle.depot_model.specs.updates.Judgement.{first_failed_point, verdict_of}
use Rattle.depot_model.specs.journals.Lawful.{IsLawful}
use Rattle.depot_model.specs.texts.Lines.{text_of_point, text_of_verdict}
use Rattle.depot_model.specs.lists.Lists.{IsIn}
use Rattle.depot_model.specs.checks.Own.{values_of}
use Rattle.depot_model.specs.readers.Readers.{Reader, trim_of}
use Rattle.depot_model.specs.worlds.World.{setting_of}
use Rattle.depot_model.specs.declared.judgement.JudgeError.{JudgeError}
use Rattle.depot_model.proofs.of_journals.FeedGrowth.{IsGrown, grown_none}
use Rattle.depot_model.proofs.lists.Members.{in_map}
use Rattle.depot_schedule.specs.declared.event.Event.{Event}
use Rattle.depot_schedule.specs.declared.event.Event.TheVariants as event
use Rattle.depot_scenario.specs.declared.known_updates.KnownUpdates.{KnownUpdates}
use Rattle.depot_world.specs.Audits.{IsSound}
use Rattle.depot_requests.specs.Effects.{Effect}
use Rattle.depot_requests.specs.Requests.{effect_of}
use Rattle.depot_requests.specs.declared.request.Request.{Request}
use Rattle.depot_schedule.specs.EventLines.{event_node}
use Rattle.depot_world.specs.EventRequests.{label_by, request_in}
use Rattle.depot_world.specs.ScheduleStops.{restart_by}
use Rattle.depot_world.specs.FaultySigning.{updated, proof_in}
use Rattle.depot_world.specs.Forgetting.{IsAlikeFor}
use Rattle.depot_world.specs.Run.{Host, Run, bytes_of_label, host_in, put_host, seen_with, with_host, world_by}
use Rattle.depot_world.specs.ScheduleStops.{EventResult, event_result}
use Rattle.depot_world.specs.Setups.{Setup, stands_on, signs_on}
use Rattle.depot_world.specs.Transcript.{Done, pending_at, done_at_node, done_by_node, done_by_update, done, judged_with, asked_for, run_after, trimmed_with, trim_at}
use Rattle.depot_world.proofs.of_worlds.GoodRuns.{found_is}
use Rattle.depot_world.proofs.ReadCounts.{few_taken}
use Rattle.depot_simulation.specs.Acting.{ActorView}
use Rattle.depot_simulation.specs.Doing.{HasLeftSimulation}
use Rattle.depot_simulation.specs.Playing.{IsPlayed, IsRemembered, WereSeen, most_seen}
use Rattle.depot_simulation.specs.declared.acting.ActingNode.{ActingNode}
use Rattle.depot_simulation.specs.declared.simulation.Simulation.{Simulation}
use Rattle.depot_simulation.proofs.JournalGrowth.{request_grows, restart_grows}
use Rattle.depot_simulation.proofs.NewUpdates.{accepted_more}
use Rattle.depot_simulation.proofs.NodeEvents.{pending_host}
use Rattle.depot_simulation.proofs.Remembered.{all_are_seen, seen_add_nothing, seen_at_most, seen_with-append, were_stay_seen}
use Rattle.depot_simulation.proofs.RememberedRuns.{each_put, same_node}

-- ---- what nodes accepted

-- how many updates hosts accepted
abbrev accepted_count : List Host → ℕ
accepted_count [] = 0
accepted_count (s ∷ ss) = length (accepted s.correct.journal) + accepted_count ss

-- a host in place of another of its number
put_count : (s old : Host) (ss : List Host) → host_in ss s.correct.node ≡ Some old → accepted_count (put_host s ss) + length (accepted old.correct.journal) ≡ accepted_count ss + length (accepted s.correct.journal)
unfolding host_in put_host
put_count s old [] found = absurd cc
put_count s old (t ∷ ss) found = by_test (eqb t.correct.node s.correct.node) found (put_count s old ss) where
  by_test : (b : Bool) → cond b (Some t) (host_in ss s.correct.node) ≡ Some old → (host_in ss s.correct.node ≡ Some old → accepted_count (put_host s ss) + length (accepted old.correct.journal) ≡ accepted_count ss + length (accepted s.correct.journal))
      → accepted_count (cond b (s ∷ ss) (t ∷ put_host s ss)) + length (accepted old.correct.journal) ≡ accepted_count (t ∷ ss) + length (accepted s.correct.journal)
  by_test true is rest = let same : t ≡ old = cc in omega (arith, ap (λ (x : Host). length (accepted x.correct.journal)) same)
  by_test false other rest = omega (arith, rest other)

-- those of a run whose nodes may be audited
most_accepted : (ss : List Host) → ((s : Host) → IsIn s ss → length (accepted s.correct.journal) ≤ 131072) → accepted_count ss ≤ 131072 * length ss
most_accepted [] short = omega arith
most_accepted (s ∷ ss) short = omega (arith, short s (inl refl), most_accepted ss (λ x on. short x (inr on)))

sound_is_few : (setup : Setup) (run : Run) → IsSound setup run → accepted_count run.hosts ≤ MOST_CORRECT * MOST_RECORDS
unfolding world_by
sound_is_few setup run sound = omega (arith, most_accepted run.hosts short, sound.most) where
  short : (s : Host) → IsIn s run.hosts → length (accepted s.correct.journal) ≤ 131072
  short s on =
      let lawful = (sound.world.correct s.correct (in_map (λ (x : Host). x.correct) s run.hosts on)).lawful in
      omega (arith, few_told s.correct.journal, lawful_is_short (setting_of (world_by setup run) s.correct) s.correct.journal lawful)

-- ---- what a run sees

-- what hosts accepted was seen, and so many others at most
record IsCounted (n : ℕ) (ss : List Host) (seen : List Update) : Type 0 where
  were : (s : Host) → IsIn s ss → WereSeen seen (accepted s.correct.journal)
  few : length seen ≤ accepted_count ss + n

-- what an event makes of a run: one more of the others at most
abbrev CountsOn : Run → Run → Type 0
CountsOn run then = (n : ℕ) → IsCounted n run.hosts run.seen → IsCounted (n + 1) then.hosts then.seen

none_counts : (run : Run) → CountsOn run run
none_counts run = λ n c. record { were = c.were; few = omega (arith, c.few) }

-- a node whose journal kept its records
host_counts : (run : Run) (s w : Host) → host_in run.hosts w.correct.node ≡ Some s → IsGrown s.correct.journal w.correct.journal → CountsOn run (with_host run w)
unfolding with_host
host_counts run s w found grown = λ n c.
    let old = accepted s.correct.journal in
    let new = accepted grown.more in
    let us = accepted w.correct.journal in
    let all : us ≡ old ++ new = accepted_more s.correct.journal w.correct.journal grown in
    let were = c.were s (found_is run.hosts w.correct.node s found).on in
    let by_new : seen_with run.seen us ≡ seen_with run.seen new = ap (λ (x : List Update). seen_with run.seen x) all ∙ seen_with-append run.seen old new ∙ ap (λ (x : List Update). seen_with x new) (seen_add_nothing run.seen old were) in
    record {
      were = each_put (λ (x : Host). WereSeen (seen_with run.seen us) (accepted x.correct.journal)) w run.hosts (all_are_seen run.seen us) (λ x on. were_stay_seen run.seen us (accepted x.correct.journal) (c.were x on));
      few = omega (arith, ap (λ (x : List Update). length x) by_new, seen_at_most run.seen new, ap (λ (x : List Update). length x) all, length-append old new, put_count w s run.hosts found, c.few);
    }

label_counts : (run : Run) (label : Option (List ℕ)) (w : EventResult) (s : Host) → host_in run.hosts w.host.correct.node ≡ Some s → IsGrown s.correct.journal w.host.correct.journal → CountsOn run (done_by_node run label w).run
label_counts run None w s found grown = host_counts run s w.host found grown
label_counts run (Some label) w s found grown = host_counts run s w.host found grown

node_counts : (run : Run) (node : ℕ) (label : Option (List ℕ)) (effect : Host → Effect) → ((s : Host) → IsGrown s.correct.journal (event_result s (effect s)).host.correct.journal) → CountsOn run (done_at_node run node label effect).run
unfolding done_at_node
node_counts run node label effect grows = by_host (host_in run.hosts node) refl where
  by_host : (o : Option Host) → host_in run.hosts node ≡ o → CountsOn run (elim o as (λ x. Done) [ None ↦ record { answer = []; behind = []; run = run } | Some s ↦ done_by_node run label (event_result s (effect s)) ]).run
  by_host None none = none_counts run
  by_host (Some s) is =
      let number : (event_result s (effect s)).host.correct.node ≡ node = same_node s (effect s) ∙ (found_is run.hosts node s is).is in
      label_counts run label (event_result s (effect s)) s (subst (λ (k : ℕ). host_in run.hosts k ≡ Some s) (sym number) is) (grows s)

pending_counts : (run : Run) (node call image : ℕ) → CountsOn run (pending_at run node call image).run
unfolding pending_at
pending_counts run node call image = by_host (host_in run.hosts node) refl where
  by_host : (o : Option Host) → host_in run.hosts node ≡ o → CountsOn run (elim o as (λ x. Done) [ None ↦ record { answer = []; behind = []; run = run } | Some s ↦ record { answer = codes " armed"; behind = []; run = with_host run (pending_host s call image) } ]).run
  by_host None none = none_counts run
  by_host (Some s) is = host_counts run s (pending_host s call image) (subst (λ (k : ℕ). host_in run.hosts k ≡ Some s) (sym (found_is run.hosts node s is).is) is) (grown_none s.correct.journal)

asked_counts : (setup : Setup) (run : Run) (node : ℕ) (label : Option (List ℕ)) (o : Option Request) → CountsOn run (asked_for setup run node label o).run
asked_counts setup run node label None = none_counts run
asked_counts setup run node label (Some r) = node_counts run node label (λ s. effect_of (stands_on setup node) (signs_on setup node) s.correct r) (λ s. request_grows (stands_on setup node) (signs_on setup node) s r)

trim_counts : (setup : Setup) (run : Run) (node : ℕ) (text name : List ℕ) → CountsOn run (trim_at setup run node text name).run
unfolding trim_at
trim_counts setup run node text name = by_host (host_in run.hosts node) where
  by_host : (o : Option Host) → CountsOn run (elim o as (λ x. Done) [ None ↦ record { answer = []; behind = []; run = run } | Some s ↦ trimmed_with run name (trim_of (stands_on setup node) s.correct.journal text) ]).run
  by_host None = none_counts run
  by_host (Some s) = none_counts run

update_counts : (sign : Signs) (run : Run) (label : List ℕ) (values : List (List ℕ)) (o : Option Update) → CountsOn run (done_by_update sign run label values o).run
update_counts sign run label values None = none_counts run
update_counts sign run label values (Some u) = λ n c. record {
  were = λ s on. were_stay_seen run.seen (u ∷ []) (accepted s.correct.journal) (c.were s on);
  few = omega (arith, seen_at_most run.seen (u ∷ []), c.few);
}

judge_counts : (setup : Setup) (run : Run) (read : Result Proof ℕ) → CountsOn run (judged_with setup run read).run
judge_counts setup run (Err at) = none_counts run
judge_counts setup run (Ok p) = by_point (first_failed_point setup.suite.verifies setup.listed p) where
  by_point : (o : Option JudgeError)
      → CountsOn run (elim o as (λ x. Done) [ Some f ↦ record { answer = spaced (text_of_point f); behind = []; run = run } | None ↦ record { answer = spaced (text_of_verdict (verdict_of p)); behind = []; run = record run { judged = run.judged ++ p ∷ [] } } ]).run
  by_point (Some f) = none_counts run
  by_point None = none_counts run

-- each event
event_counts : (setup : Setup) (run : Run) (e : Event) → CountsOn run (done setup run e).run
unfolding done
event_counts setup run (event.Restart node) = node_counts run node None (λ s. restart_by s.correct) (λ s. restart_grows s)
event_counts setup run (event.Update label writer seq clock prev key value deps history) = update_counts (signs_on setup writer) run label (values_of (one_change key value)) (updated (signs_on setup writer) run writer seq clock prev (one_change key value) deps history)
event_counts setup run (event.Updates label writer seq clock prev changes deps history) = update_counts (signs_on setup writer) run label (values_of changes) (updated (signs_on setup writer) run writer seq clock prev changes deps history)
event_counts setup run (event.Voucher label writer seq refs) = none_counts run
event_counts setup run (event.Proof label kind first second) = none_counts run
event_counts setup run (event.Hollow label voucher plain) = none_counts run
event_counts setup run (event.Judge label) = judge_counts setup run (proof_in (bytes_of_label run label))
event_counts setup run (event.Raw label bytes) = none_counts run
event_counts setup run (event.Cut label source start count) = none_counts run
event_counts setup run (event.Flip label source place) = none_counts run
event_counts setup run (event.Join label first second) = none_counts run
event_counts setup run (event.Stop node call image) = pending_counts run node call image
event_counts setup run event.Audit = none_counts run
event_counts setup run (event.Trim node label name) = trim_counts setup run node (bytes_of_label run label) name
event_counts setup run (event.Tgive name label) = none_counts run
event_counts setup run (event.Tget name key) = none_counts run
event_counts setup run e = asked_counts setup run (event_node e) (label_by e) (request_in run e)

-- all events
counted_after : (setup : Setup) (run : Run) (es : List Event) (n : ℕ) → IsCounted n run.hosts run.seen → IsCounted (n + length es) (run_after setup run es).hosts (run_after setup run es).seen
unfolding run_after
counted_after setup run [] n c = record { were = c.were; few = omega (arith, c.few) }
counted_after setup run (e ∷ es) n c = let rest = counted_after setup (done setup run e).run es (n + 1) (event_counts setup run e n c) in record { were = rest.were; few = omega (arith, rest.few) }

-- the run that a simulation is at after some of the events that may be played
pub few_seen : (setup : Setup) (run few : Run) (es to_come : List Event) (i : ℕ) → IsRemembered run → length run.seen + length es ≤ MOST_LINES → IsSound setup (run_after setup run (take i es)) → IsAlikeFor to_come (run_after setup run (take i es)) few → length few.seen ≤ most_seen
few_seen setup run few es to_come i r lines sound alike =
    let then = run_after setup run (take i es) in
    let begin : IsCounted (length run.seen) run.hosts run.seen = record { were = r.accepted_were; few = omega arith } in
    let counted = counted_after setup run (take i es) (length run.seen) begin in
    omega (arith, counted.few, sound_is_few setup then sound, few_taken i es, lines, ap (λ (x : Run). length x.seen) alike.others)

-- ---- the room that is left

-- for one update more
pub room_for_one : {A R : Type 0} (view : A → ActorView) (reads : Reader → R → Type 0) (simulation : Simulation A R) → IsPlayed view reads simulation → length simulation.seen.listed.updates < 4294967295
room_for_one view reads simulation p = omega (arith, ap (λ (us : List Update). length us) p.at.seen_are, p.few)

-- for all that a node accepted, once it is back
pub room_for_all : (A : Type 0) {R : Type 0} (view : A → ActorView) (reads : Reader → R → Type 0) (node : ℕ) (left : Simulation A R) (acting : ActingNode A) (after : A) → IsLawful (view after).here (view after).journal → HasLeftSimulation A view reads node left acting
    → length left.seen.listed.updates + length (accepted (view after).journal) ≤ 4294967295
room_for_all A view reads node left acting after lawful l =
    let J = (view after).journal in
    omega (arith, ap (λ (x : KnownUpdates). length x.listed.updates) l.left.seen_stays, ap (λ (us : List Update). length us) l.played.at.seen_are, l.played.few, few_told J, lawful_is_short (view after).here J lawful)
