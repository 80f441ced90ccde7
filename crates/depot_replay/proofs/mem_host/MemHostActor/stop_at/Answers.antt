use Rattle.std.proofs.Common.{◌≡◌, Some, refl, sym, ap, subst, arith}
use Rattle.depot_model.specs.exchange.Bundle.{Signs}
use Rattle.depot_model.specs.checks.Checks.{Setting}
use Rattle.depot_outside.specs.Stopping.{state_of}
use Rattle.depot_outside.specs.declared.mem_disk.MemDisk.{MemDisk}
use Rattle.depot_outside.specs.declared.stops.Stop.{Stop}
use Rattle.depot_replay.specs.MemHosts.{IsKeptOn}
use Rattle.depot_replay.proofs.MemHostEvents.{begun_there, view_is}
use Rattle.depot_replay.proofs.MemHostStarts.{behind_wants, pending_begun, pending_on, started_on}
use Rattle.depot_replay.proofs.mem_host.MemHostActor.stop_at.Goals as goal

-- the stop is set on the node's own disk
set_on : (d e n : MemDisk) (stop : Stop) → state_of n ≡ record (state_of d) { next = Some stop } → d ≡ e → state_of n ≡ record (state_of e) { next = Some stop }
set_on d e n stop is same = subst (λ (x : MemDisk). state_of n ≡ record (state_of x) { next = Some stop }) same is

pub invariant_of-result : goal.invariant_of-result
invariant_of-result g c =
    let a = c.args.self in
    let n = a.node in
    let begun = begun_there g.S.Scheme.verifies n.store.me a.start_config.me n.store.listed a.start_config.roster (state_of n.store.disk) n.store.records a.is_me a.is_listed n.kept.lawful n.kept.some a.kept in
    let pending = pending_begun _ (state_of n.store.disk) (state_of c.stop_at.new.self) n.store.records _ begun (set_on c.into_disk-disk.result n.store.disk c.stop_at.new.self _ c.stop_at.ensures.state c.into_disk-disk.ensures) (omega arith) in
    let x = started_on _ (state_of c.stop_at.new.self) (state_of c.in-Ok.node.store.disk) n.store.records c.in-Ok.node.store.records pending c.in-Ok.ensures.started.from c.in-Ok.ensures.started.calls in
    record {
      runs = c.in-Ok.ensures.node.runs;
      is_me = ap (λ (h : Setting). h.me) c.in-Ok.ensures.node.stands;
      is_listed = ap (λ (h : Setting). h.listed) c.in-Ok.ensures.node.stands;
      signs = λ seq body. ap (λ (s : Signs). s seq body) c.in-Ok.ensures.node.signs;
      kept = subst (IsKeptOn (state_of c.in-Ok.node.store.disk)) (sym x.same) x.begun.kept;
    }

pub returns-in-Ok : goal.returns-in-Ok
returns-in-Ok g c =
    let a = c.args.self in
    let n = a.node in
    let begun = begun_there g.S.Scheme.verifies n.store.me a.start_config.me n.store.listed a.start_config.roster (state_of n.store.disk) n.store.records a.is_me a.is_listed n.kept.lawful n.kept.some a.kept in
    let is = set_on c.into_disk-disk.result n.store.disk c.stop_at.new.self _ c.stop_at.ensures.state c.into_disk-disk.ensures in
    let pending = pending_begun _ (state_of n.store.disk) (state_of c.stop_at.new.self) n.store.records _ begun is (omega arith) in
    let x = started_on _ (state_of c.stop_at.new.self) (state_of c.in-Ok.node.store.disk) n.store.records c.in-Ok.node.store.records pending c.in-Ok.ensures.started.from c.in-Ok.ensures.started.calls in
    view_is _ _ _ _ _ _ _ _ _ refl x.same (pending_on _ (state_of n.store.disk) (state_of c.stop_at.new.self) (state_of c.in-Ok.node.store.disk) n.store.records c.in-Ok.node.store.records c.args.call c.args.image c.requires.image is x)

pub wanting-requires : goal.wanting-requires
wanting-requires g c =
    let a = c.args.self in
    let n = a.node in
    let begun = begun_there g.S.Scheme.verifies n.store.me a.start_config.me n.store.listed a.start_config.roster (state_of n.store.disk) n.store.records a.is_me a.is_listed n.kept.lawful n.kept.some a.kept in
    let is = set_on c.into_disk-disk.result n.store.disk c.stop_at.new.self _ c.stop_at.ensures.state c.into_disk-disk.ensures in
    let pending = pending_begun _ (state_of n.store.disk) (state_of c.stop_at.new.self) n.store.records _ begun is (omega arith) in
    behind_wants _ (state_of n.store.disk) (state_of c.stop_at.new.self) (state_of c.in-Err.back.disk) n.store.records c.args.call c.args.image c.in-Err.back.error c.requires.call c.requires.image pending is c.in-Err.ensures.spares c.in-Err.ensures.failing
