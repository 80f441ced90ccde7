-- Whatever a correct node does, and wherever a stop falls into it, its journal keeps its records.
use Rattle.std.proofs.Common.{◌-◌, Bool, true, false, leb, cond, take, drop, length, Option, Some, None, refl}
use Rattle.depot_model.specs.exchange.Bundle.{Signs}
use Rattle.depot_model.specs.checks.Checks.{Setting}
use Rattle.depot_requests.specs.Effects.{Effect}
use Rattle.depot_requests.specs.Requests.{effect_of}
use Rattle.depot_requests.specs.declared.request.Request.{Request}
use Rattle.depot_world.specs.ScheduleStops.{restart_by}
use Rattle.depot_world.specs.Run.{PendingStop, Host}
use Rattle.depot_world.specs.ScheduleStops.{EventResult, standing_after, journal_left, stopped_with, result_pending, result_by, event_result}
use Rattle.depot_model.specs.worlds.World.{Correct}
use Rattle.depot_model.proofs.of_journals.FeedGrowth.{IsGrown, grown_none}
use Rattle.depot_requests.proofs.ServedRequests.{served_grows}

-- ---- stops

-- an event that only adds to its node's journal, stopped or not
pub result_grows : (s : Host) (d : Effect) → IsGrown s.correct.journal d.journal → IsGrown s.correct.journal (event_result s d).host.correct.journal
unfolding event_result
result_grows s d e = by_stop s.pending where
  by_call : (a : PendingStop) (b : Bool) → IsGrown s.correct.journal (cond b (stopped_with s (journal_left s.correct.journal d.journal a)) (result_by s (Some (record { call = a.call - d.calls; image = a.image })) d)).host.correct.journal
  by_call a true = record { more = take (standing_after a) (drop (length s.correct.journal) d.journal); is = refl }
  by_call a false = e

  by_stop : (o : Option PendingStop) → IsGrown s.correct.journal (elim o as (λ x. EventResult) [ None ↦ result_by s None d | Some a ↦ result_pending s d a ]).host.correct.journal
  by_stop None = e
  by_stop (Some a) = by_call a (leb a.call d.calls)

-- ---- the events of nodes

asked_grows : (here : Setting) (sign : Signs) (c : Correct) (r : Request) → IsGrown c.journal (effect_of here sign c r).journal
unfolding effect_of
asked_grows here sign c r = served_grows here sign c.journal r

pub request_grows : (here : Setting) (sign : Signs) (s : Host) (r : Request) → IsGrown s.correct.journal (event_result s (effect_of here sign s.correct r)).host.correct.journal
request_grows here sign s r = result_grows s (effect_of here sign s.correct r) (asked_grows here sign s.correct r)

restart_stays : (c : Correct) → IsGrown c.journal (restart_by c).journal
unfolding restart_by
restart_stays c = grown_none c.journal

pub restart_grows : (s : Host) → IsGrown s.correct.journal (event_result s (restart_by s.correct)).host.correct.journal
restart_grows s = result_grows s (restart_by s.correct) (restart_stays s.correct)
