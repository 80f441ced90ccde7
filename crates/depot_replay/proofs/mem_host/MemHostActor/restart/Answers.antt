use Rattle.std.proofs.Common.{◌≡◌, ℕ, List, [], length, refl, sym, ap, subst, ◌∙◌}
use Rattle.std.specs.Prelude.{codes}
use Rattle.std.proofs.lemmas.Result.{IfOk-at_ok}
use Rattle.depot_answers.specs.AnswerTexts.{text_of_number, spaced}
use Rattle.depot_base.specs.Calls.{calls_to_start}
use Rattle.depot_base.specs.declared.record.Record.{Record}
use Rattle.depot_model.specs.exchange.Bundle.{Signs}
use Rattle.depot_model.specs.checks.Checks.{Setting}
use Rattle.depot_outside.specs.Stopping.{state_of}
use Rattle.depot_outside.specs.declared.mem_disk.MemDisk.{MemDisk}
use Rattle.depot_requests.specs.Effects.{ended}
use Rattle.depot_replay.specs.Disks.{pending_of}
use Rattle.depot_replay.specs.MemHosts.{IsBegunOn, IsKeptOn}
use Rattle.depot_replay.proofs.MemHostEvents.{begun_there}
use Rattle.depot_replay.proofs.MemHostLaws.{has_records}
use Rattle.depot_service.proofs.FedStreams.{if_both}
use Rattle.depot_replay.proofs.MemHostRestarts.{restart_came, restart_stopped}
use Rattle.depot_replay.proofs.MemHostStarts.{start_stopped, started_on, stopped_begun, three_calls}
use Rattle.depot_replay.proofs.mem_host.MemHostActor.restart.Goals as goal

pub refused-requires-clause-spared : goal.refused-requires-clause-spared
refused-requires-clause-spared g c =
    let a = c.args.self in
    let n = a.node in
    let here : Setting = record { verifies = g.S.Scheme.verifies; me = a.start_config.me; listed = a.start_config.roster } in
    let s = state_of c.into_disk.result in
    let begun = subst (λ (d : MemDisk). IsBegunOn here (state_of d) n.store.records) (sym c.into_disk.ensures) (begun_there g.S.Scheme.verifies n.store.me a.start_config.me n.store.listed a.start_config.roster (state_of n.store.disk) n.store.records a.is_me a.is_listed n.kept.lawful n.kept.some a.kept) in
    c.in-Err.ensures.spares n.store.records (has_records here s.file n.store.records begun.lawful begun.kept.stand) begun.lawful

pub refused-requires-clause-stopped : goal.refused-requires-clause-stopped
refused-requires-clause-stopped g c = λ disk.
    let a = c.args.self in
    let n = a.node in
    let here : Setting = record { verifies = g.S.Scheme.verifies; me = a.start_config.me; listed = a.start_config.roster } in
    let s = state_of c.into_disk.result in
    let u = state_of c.in-Err.back.disk in
    let begun = subst (λ (d : MemDisk). IsBegunOn here (state_of d) n.store.records) (sym c.into_disk.ensures) (begun_there g.S.Scheme.verifies n.store.me a.start_config.me n.store.listed a.start_config.roster (state_of n.store.disk) n.store.records a.is_me a.is_listed n.kept.lawful n.kept.some a.kept) in
    let cut = start_stopped here s u n.store.records begun (λ L has. c.in-Err.ensures.failing disk L has) in
    record { journal = n.store.records; begun = stopped_begun here s u n.store.records begun cut; none_waits = cut.stopped.none_waits }

pub returns-in-Err : goal.returns-in-Err
returns-in-Err g c =
    let a = c.args.self in
    let n = a.node in
    let here : Setting = record { verifies = g.S.Scheme.verifies; me = a.start_config.me; listed = a.start_config.roster } in
    let s = state_of c.into_disk.result in
    let u = state_of c.in-Err.back.disk in
    let begun = subst (λ (d : MemDisk). IsBegunOn here (state_of d) n.store.records) (sym c.into_disk.ensures) (begun_there g.S.Scheme.verifies n.store.me a.start_config.me n.store.listed a.start_config.roster (state_of n.store.disk) n.store.records a.is_me a.is_listed n.kept.lawful n.kept.some a.kept) in
    let waits = sym (ap (λ (d : MemDisk). pending_of (state_of d).next) c.into_disk.ensures) in
    if_both _ _ _ c.refused.result (λ t disk again setup x mem_host.
    let cut = start_stopped here s u n.store.records begun (λ L has. c.in-Err.ensures.failing disk L has) in
    rw again.none (restart_stopped setup x _ _ s u cut t.lines mem_host waits (record { here = again.here_is; sign = again.sign_is; journal = again.journal n.store.records (stopped_begun here s u n.store.records begun cut); pending_is = again.none_waits }) again.line)) c.refused.ensures.stopped c.refused.ensures.again

pub invariant_of-event_outcome : goal.invariant_of-event_outcome
invariant_of-event_outcome g c =
    let a = c.args.self in
    let n = a.node in
    let m = c.in-Ok.node in
    let here : Setting = record { verifies = g.S.Scheme.verifies; me = a.start_config.me; listed = a.start_config.roster } in
    let begun = subst (λ (d : MemDisk). IsBegunOn here (state_of d) n.store.records) (sym c.into_disk.ensures) (begun_there g.S.Scheme.verifies n.store.me a.start_config.me n.store.listed a.start_config.roster (state_of n.store.disk) n.store.records a.is_me a.is_listed n.kept.lawful n.kept.some a.kept) in
    let x = started_on here (state_of c.into_disk.result) (state_of m.store.disk) n.store.records m.store.records begun c.in-Ok.ensures.started.from c.in-Ok.ensures.started.calls in
    record {
      runs = c.in-Ok.ensures.node.runs;
      is_me = ap (λ (h : Setting). h.me) c.in-Ok.ensures.node.stands;
      is_listed = ap (λ (h : Setting). h.listed) c.in-Ok.ensures.node.stands;
      signs = λ seq body. ap (λ (s : Signs). s seq body) c.in-Ok.ensures.node.signs;
      kept = subst (IsKeptOn (state_of m.store.disk)) (sym x.same) x.begun.kept;
    }

pub returns-in-Ok : goal.returns-in-Ok
returns-in-Ok g c =
    let a = c.args.self in
    let n = a.node in
    let m = c.in-Ok.node in
    let here : Setting = record { verifies = g.S.Scheme.verifies; me = a.start_config.me; listed = a.start_config.roster } in
    let s = state_of c.into_disk.result in
    let begun = subst (λ (d : MemDisk). IsBegunOn here (state_of d) n.store.records) (sym c.into_disk.ensures) (begun_there g.S.Scheme.verifies n.store.me a.start_config.me n.store.listed a.start_config.roster (state_of n.store.disk) n.store.records a.is_me a.is_listed n.kept.lawful n.kept.some a.kept) in
    let x = started_on here s (state_of m.store.disk) n.store.records m.store.records begun c.in-Ok.ensures.started.from c.in-Ok.ensures.started.calls in
    let waits = sym (ap (λ (d : MemDisk). pending_of (state_of d).next) c.into_disk.ensures) in
    if_both _ _ _ c.event_outcome.result (λ t same is setup y mem_host.
    let counted = IfOk-at_ok _ is c.counted_printed-printed.ensures.lines ∙ ap (λ (k : ℕ). ended (spaced (text_of_number (codes "records") k))) (c.record_count.ensures ∙ ap (λ (J : List Record). length J) x.same) in
    let none : t.bytes ≡ [] = IfOk-at_ok _ is c.counted_printed-printed.ensures.bytes in
    rw same (rw none (restart_came setup y _ _ s (state_of m.store.disk) (calls_to_start c.into_disk.result.file.bytes.items) t.lines mem_host waits begun.kept.to_come x.led (three_calls c.into_disk.result.file.bytes.items x.long)
    (record { here = refl; sign = refl; journal = x.same; pending_is = refl }) counted))) c.event_outcome.ensures.actor c.event_outcome.ensures.printed
