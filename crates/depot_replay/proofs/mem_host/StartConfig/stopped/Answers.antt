use Rattle.std.proofs.Common.{ℕ, refl, sym, ap, subst, ◌∙◌}
use Rattle.std.specs.Prelude.{codes}
use Rattle.std.proofs.lemmas.Result.{IfOk-at_ok}
use Rattle.depot_answers.specs.AnswerTexts.{text_of_number, spaced}
use Rattle.depot_requests.specs.Effects.{ended}
use Rattle.depot_base.specs.Calls.{calls_to_start}
use Rattle.depot_model.specs.exchange.Bundle.{Signs}
use Rattle.depot_model.specs.checks.Checks.{Setting}
use Rattle.depot_outside.specs.Stopping.{state_of}
use Rattle.depot_service.proofs.FedStreams.{if_both}
use Rattle.depot_replay.specs.MemHosts.{IsKeptOn}
use Rattle.depot_replay.proofs.DiskStops.{none_waits_after}
use Rattle.depot_replay.proofs.MemHostStarts.{again_wants, started_on}
use Rattle.depot_replay.proofs.mem_host.StartConfig.stopped.Goals as goal

pub invariant_of-event_outcome : goal.invariant_of-event_outcome
invariant_of-event_outcome g c =
    let x = started_on _ (state_of c.args.disk) (state_of c.in-Ok.node.store.disk) c.requires.journal c.in-Ok.node.store.records c.requires.begun c.in-Ok.ensures.started.from c.in-Ok.ensures.started.calls in
    record {
      runs = c.in-Ok.ensures.node.runs;
      is_me = ap (λ (h : Setting). h.me) c.in-Ok.ensures.node.stands;
      is_listed = ap (λ (h : Setting). h.listed) c.in-Ok.ensures.node.stands;
      signs = λ seq body. ap (λ (s : Signs). s seq body) c.in-Ok.ensures.node.signs;
      kept = subst (IsKeptOn (state_of c.in-Ok.node.store.disk)) (sym x.same) x.begun.kept;
    }

pub returns-in-Ok : goal.returns-in-Ok
returns-in-Ok g c =
    let s = state_of c.args.disk in
    let u = state_of c.in-Ok.node.store.disk in
    let x = started_on _ s u c.requires.journal c.in-Ok.node.store.records c.requires.begun c.in-Ok.ensures.started.from c.in-Ok.ensures.started.calls in
    if_both _ _ _ c.event_outcome.result (λ t same is. rw same (record {
      here_is = refl;
      sign_is = refl;
      journal = λ J begun. (started_on _ s u J c.in-Ok.node.store.records begun c.in-Ok.ensures.started.from c.in-Ok.ensures.started.calls).same;
      none_waits = none_waits_after s u (calls_to_start c.args.disk.file.bytes.items) x.led c.requires.none_waits;
      line = IfOk-at_ok _ is c.counted_printed-printed.ensures.lines ∙ ap (λ (n : ℕ). ended (spaced (text_of_number (codes "stopped records") n))) c.record_count.ensures;
      none = IfOk-at_ok _ is c.counted_printed-printed.ensures.bytes;
    })) c.event_outcome.ensures.actor c.event_outcome.ensures.printed

pub wanting-requires : goal.wanting-requires
wanting-requires g c = again_wants _ (state_of c.args.disk) (state_of c.in-Err.back.disk) c.in-Err.back.error c.requires c.in-Err.ensures.spares c.in-Err.ensures.failing
