-- The reads that are kept of a node are its reads, request by request.
use Rattle.std.proofs.Common.{◌≡◌, ◌≤◌, ℕ, false, leb, List, [], ◌∷◌, ◌++◌, map, Some, sym, ap, ◌∙◌, arith}
use Rattle.std.proofs.lemmas.Bool.Decides.{nat_tests}
use Rattle.std.proofs.lemmas.List.{append-nil, map-append}
use Rattle.depot_base.specs.declared.record.Record.{Record}
use Rattle.depot_model.specs.worlds.Traces as audits
use Rattle.depot_traces.specs.SeenTraces as seen_traces
use Rattle.depot_traces.specs.declared.trace.ReadTrace.{ReadTrace}
use Rattle.depot_world.specs.Audits.{traced_read}
use Rattle.depot_model.specs.exchange.Bundle.{Signs}
use Rattle.depot_model.specs.checks.Checks.{Setting}
use Rattle.depot_model.specs.worlds.World.{Correct}
use Rattle.depot_requests.specs.Effects.{Effect, read_at_end}
use Rattle.depot_requests.specs.Requests.{effect_of, served}
use Rattle.depot_requests.specs.declared.request.Request.{Request}
use Rattle.depot_requests.specs.declared.request.Request.TheVariants as request
use Rattle.depot_world.specs.Run.{PendingStop, Host}
use Rattle.depot_world.specs.ScheduleStops.{event_result}
use Rattle.depot_world.specs.Setups.{Setup}
use Rattle.depot_world.proofs.ReadCounts.{request_reads, result_reads, result_whole}
use Rattle.depot_simulation.specs.Acting.{HaveTexts, IsHosted, TellReads, ActorView}
use Rattle.depot_simulation.specs.Doing.{reads_by}

-- a stop that waits on the disk comes in a call to come
abbrev pub IsToCome : ActorView → Type 0
IsToCome v = (stop : PendingStop) → v.pending ≡ Some stop → 1 ≤ stop.call

-- a read makes no call
none_made : (here : Setting) (sign : Signs) (c : Correct) (key : List ℕ) → (effect_of here sign c (request.Get key)).calls ≡ 0
unfolding effect_of served
none_made here sign c key = omega arith

not_now : (call calls : ℕ) → 1 ≤ call → calls ≡ 0 → leb call calls ≡ false
not_now call calls least none = grind (arith, nat_tests, least, none)

read_whole : (here : Setting) (sign : Signs) (s : Host) (key : List ℕ) → ((a : PendingStop) → s.pending ≡ Some a → 1 ≤ a.call) → (event_result s (effect_of here sign s.correct (request.Get key))).host.correct.reads ≡ (effect_of here sign s.correct (request.Get key)).reads
read_whole here sign s key waits =
    let d = effect_of here sign s.correct (request.Get key) in
    result_whole s d (λ a at. not_now a.call d.calls (waits a at) (none_made here sign s.correct key))

-- where an event adds no read
adds_none : (s : Host) (d : Effect) → d.reads ≡ s.correct.reads → map traced_read (event_result s d).host.correct.reads ≡ map traced_read s.correct.reads ++ []
adds_none s d same = ap (map traced_read) (result_reads s d same) ∙ sym (append-nil (map traced_read s.correct.reads))

-- the reads of a node after a request are those before it, and the one that it makes for it
request_adds : (here : Setting) (sign : Signs) (s : Host) (r : Request) → ((a : PendingStop) → s.pending ≡ Some a → 1 ≤ a.call) → map traced_read (event_result s (effect_of here sign s.correct r)).host.correct.reads ≡ map traced_read s.correct.reads ++ reads_by s.correct.journal r
request_adds here sign s (request.Get key) waits =
    ap (map traced_read) (read_whole here sign s key waits ∙ request_reads here sign s.correct (request.Get key)) ∙ map-append traced_read s.correct.reads (read_at_end s.correct.journal key ∷ [])
request_adds here sign s r waits = adds_none s (effect_of here sign s.correct r) (request_reads here sign s.correct r)

-- so what is kept of them goes on with it
pub tells_on : (setup : Setup) (here : Setting) (sign : Signs) (r : Request) (s : Host) (v : ActorView) (old new : List ReadTrace) → IsHosted setup s v → IsToCome v → TellReads s.correct.reads old → map seen_traces.read_of new ≡ map seen_traces.read_of old ++ reads_by v.journal r → HaveTexts new
    → TellReads (event_result s (effect_of here sign s.correct r)).host.correct.reads new
tells_on setup here sign r s v old new hosted waits told are fit = record {
  are = are ∙ ap (λ (rs : List audits.ReadTrace). rs ++ reads_by v.journal r) told.are ∙ ap (λ (J : List Record). map traced_read s.correct.reads ++ reads_by J r) hosted.journal
      ∙ sym (request_adds here sign s r (λ a at. waits a (hosted.pending ∙ at)));
  fit = fit;
}
