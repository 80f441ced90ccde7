use Rattle.std.proofs.Common.{◌≡◌, List, [], ◌∷◌, refl, ap, ◌∙◌}
use Rattle.depot_base.specs.declared.key.RosterEntry.{RosterEntry}
use Rattle.depot_base.specs.declared.record.Record.TheVariants.{Birth}
use Rattle.depot_model.specs.exchange.Bundle.{Signs}
use Rattle.depot_model.specs.checks.Checks.{Setting}
use Rattle.depot_model.specs.texts.Texts.{hash_of_roster}
use Rattle.depot_outside.specs.Stopping.{fresh, state_of}
use Rattle.depot_replay.proofs.MemHostEvents.{view_is}
use Rattle.depot_replay.proofs.MemHostStarts.{fresh_from, fresh_wants}
use Rattle.depot_replay.proofs.mem_host.MemHost.fresh_host.Goals as goal

pub invariant_of-result : goal.invariant_of-result
invariant_of-result g c =
    let is : state_of c.new-disk.result ≡ fresh [] [] = c.new-disk.ensures.state ∙ rw (c.new.ensures, c.new-2.ensures) refl in
    let x = fresh_from _ (state_of c.new-disk.result) (state_of c.in-Ok.node.store.disk) c.in-Ok.node.store.records is c.in-Ok.ensures.started.from c.in-Ok.ensures.started.calls in
    record {
      runs = c.in-Ok.ensures.node.runs;
      is_me = ap (λ (h : Setting). h.me) c.in-Ok.ensures.node.stands;
      is_listed = ap (λ (h : Setting). h.listed) c.in-Ok.ensures.node.stands;
      signs = λ seq body. ap (λ (s : Signs). s seq body) c.in-Ok.ensures.node.signs;
      kept = x.kept;
    }

pub returns-in-Ok : goal.returns-in-Ok
returns-in-Ok g c =
    let is : state_of c.new-disk.result ≡ fresh [] [] = c.new-disk.ensures.state ∙ rw (c.new.ensures, c.new-2.ensures) refl in
    let x = fresh_from _ (state_of c.new-disk.result) (state_of c.in-Ok.node.store.disk) c.in-Ok.node.store.records is c.in-Ok.ensures.started.from c.in-Ok.ensures.started.calls in
    view_is _ _ _ _ _ _ _ _ _ c.in_ok-copy.ensures (x.journal ∙ ap (λ (r : List RosterEntry). Birth c.args.node (hash_of_roster r) ∷ []) c.in_ok-copy.ensures) x.none_waits

pub wanting-requires : goal.wanting-requires
wanting-requires g c =
    let is : state_of c.new-disk.result ≡ fresh [] [] = c.new-disk.ensures.state ∙ rw (c.new.ensures, c.new-2.ensures) refl in
    fresh_wants _ (state_of c.new-disk.result) (state_of c.in-Err.back.disk) c.in-Err.back.error is c.in-Err.ensures.spares c.in-Err.ensures.failing
