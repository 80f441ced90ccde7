-- A hosted node is started again from its disk.
use Rattle.std.proofs.Common.{◌≡◌, ℕ, zero, suc, take, ◌-◌, List, [], ◌++◌, length, None, refl, sym, ap, ◌∙◌}
use Rattle.std.specs.Prelude.{codes}
use Rattle.std.proofs.Math.Seq.{drop-length}
use Rattle.std.proofs.lemmas.List.{append-nil}
use Rattle.depot_answers.specs.AnswerTexts.{text_of_number, spaced}
use Rattle.depot_base.specs.Calls.{Call, Made, made, FailsAmong}
use Rattle.depot_base.specs.declared.record.Record.{Record}
use Rattle.depot_outside.specs.Stopping.{State, CallsLead}
use Rattle.depot_requests.specs.Effects.{ended}
use Rattle.depot_world.specs.ScheduleStops.{restart_by}
use Rattle.depot_world.specs.Run.{PendingStop, Host}
use Rattle.depot_world.specs.ScheduleStops.{journal_left, standing_after, event_result}
use Rattle.depot_world.specs.Setups.{Setup}
use Rattle.depot_simulation.specs.Acting.{CameTo, IsHosted, ActorView}
use Rattle.depot_replay.specs.Disks.{StoppedReading, pending_of}
use Rattle.depot_replay.specs.MemHosts.{stopped_line}
use Rattle.depot_replay.proofs.MemHostEvents.{IsThen, came_stopped, came_well}
use Rattle.depot_replay.proofs.MemHostLaws.{IsToCome}

-- one of some calls failed, as the states of a disk see it
pub fails_there : {D : Type 0} {after : D → List Made → D → Type 0} (old new : D) (s t : State) (calls : List Call) → ((made : List Made) → after old made new → CallsLead s made t) → FailsAmong after old new calls → FailsAmong CallsLead s t calls
fails_there old new s t calls sees f = record { before = f.before; failing = f.failing; rest = f.rest; parts = f.parts; fails = sees _ f.fails }

-- ---- starts

pub restart_came : (setup : Setup) (x : Host) (v w : ActorView) (s t : State) (calls : List Call) (lines : List ℕ) → IsHosted setup x v → v.pending ≡ pending_of s.next → IsToCome s → CallsLead s (made calls) t → length calls ≡ 3 → IsThen v w v.journal (pending_of t.next)
    → lines ≡ ended (spaced (text_of_number (codes "records") (length v.journal))) → CameTo setup (event_result x (restart_by x.correct)) w lines []
unfolding restart_by
restart_came setup x v w s t calls lines mem_host pending to_come led three then is =
    came_well setup x (restart_by x.correct) v w s t calls lines [] mem_host pending to_come led (sym three) (record { here = then.here; sign = then.sign; journal = then.journal ∙ mem_host.journal; pending_is = then.pending_is })
    (is ∙ ap (λ (J : List Record). ended (spaced (text_of_number (codes "records") (length J)))) mem_host.journal ∙ sym (append-nil (ended (spaced (text_of_number (codes "records") (length x.correct.journal)))))) refl

left_whole : (J : List Record) (a : PendingStop) → journal_left J J a ≡ J
left_whole J a = ap (λ (x : List Record). J ++ take (standing_after a) x) (drop-length J) ∙ ap (λ (x : List Record). J ++ x) (take_none (standing_after a)) ∙ append-nil J where
  take_none : (n : ℕ) → take {A = Record} n [] ≡ []
  take_none zero = refl
  take_none (suc n) = refl

pub restart_stopped : (setup : Setup) (x : Host) (v w : ActorView) (s t : State) (cut : StoppedReading s t 3) (lines : List ℕ) → IsHosted setup x v → v.pending ≡ pending_of s.next → IsThen v w v.journal None → lines ≡ stopped_line w.journal → CameTo setup (event_result x (restart_by x.correct)) w lines []
unfolding restart_by
restart_stopped setup x v w s t cut lines mem_host pending then is =
    came_stopped setup x (restart_by x.correct) v w s t cut.stopped lines mem_host pending
    (record { here = then.here; sign = then.sign; journal = then.journal ∙ sym (ap (λ (J : List Record). journal_left v.journal J cut.stopped.pending) (sym mem_host.journal) ∙ left_whole v.journal cut.stopped.pending); pending_is = then.pending_is }) is
