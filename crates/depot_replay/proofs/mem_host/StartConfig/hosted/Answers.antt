use Rattle.std.proofs.Common.{◌≡◌, None, Some, Ok, refl, sym, ap, subst, ◌∙◌}
use Rattle.std.proofs.lemmas.Result.{IfOk-at_ok, IfOk-weaker}
use Rattle.depot_model.specs.exchange.Bundle.{Signs}
use Rattle.depot_model.specs.checks.Checks.{Setting}
use Rattle.depot_outside.specs.Stopping.{state_of}
use Rattle.depot_outside.specs.declared.mem_disk.MemDisk.{MemDisk}
use Rattle.depot_replay.specs.Disks.{pending_of}
use Rattle.depot_replay.specs.MemHosts.{IsBegunOn}
use Rattle.depot_requests.specs.declared.printing.Printed.{Printed}
use Rattle.depot_replay.proofs.MemHostEvents.{begun_cut, called_kept, called_well, cut_ends, cut_of, left_by_cut}
use Rattle.depot_replay.proofs.mem_host.StartConfig.hosted.Goals as goal

-- what is printed is something
is_some : (p : Printed) → Some p ≡ None → ⊥
is_some p none = cc

pub invariant_of-result : goal.invariant_of-result
invariant_of-result g c =
    let is : c.args.printed ≡ Ok (Some c.in-Ok-Some.printed) = cc in
    let never = is_some c.in-Ok-Some.printed in
    record {
      runs = IfOk-at_ok _ is c.requires.runs never;
      is_me = ap (λ (h : Setting). h.me) c.requires.stands;
      is_listed = ap (λ (h : Setting). h.listed) c.requires.stands;
      signs = λ seq body. ap (λ (s : Signs). s seq body) c.requires.signs;
      kept = called_kept (IfOk-at_ok _ is c.requires.called).called never;
    }

pub stopped-requires : goal.stopped-requires
stopped-requires g c =
    let here : Setting = record { verifies = g.S.Scheme.verifies; me = c.args.self.me; listed = c.args.self.roster } in
    let is : c.args.printed ≡ Ok None = cc in
    let was = IfOk-at_ok _ is c.requires.called in
    let J = left_by_cut was.called refl in
    record {
      journal = J;
      begun = subst (λ (d : MemDisk). IsBegunOn here (state_of d) J) (sym c.into_disk.ensures) (subst (λ (h : Setting). IsBegunOn h (state_of c.args.node.store.disk) J) was.here_is (begun_cut was.called refl));
      none_waits = ap (λ (d : MemDisk). pending_of (state_of d).next) c.into_disk.ensures ∙ (cut_of was.called refl).stopped.none_waits;
    }

pub returns-in-Ok-Some-clause-ends : goal.returns-in-Ok-Some-clause-ends
returns-in-Ok-Some-clause-ends g c =
    let is : c.args.printed ≡ Ok (Some c.in-Ok-Some.printed) = cc in
    rw is (λ v s longer here sign called setup x d mem_host appends print.
    called_well called setup x d _ c.in-Ok-Some.printed.lines c.in-Ok-Some.printed.bytes (is_some c.in-Ok-Some.printed) mem_host appends (record { here = sym here; sign = sym sign; journal = refl; pending_is = refl }) print.0 print.1)

pub returns-in-Ok-None-clause-ends : goal.returns-in-Ok-None-clause-ends
returns-in-Ok-None-clause-ends g c =
    let there : Setting = record { verifies = g.S.Scheme.verifies; me = c.args.self.me; listed = c.args.self.roster } in
    let is : c.args.printed ≡ Ok None = cc in
    IfOk-weaker c.stopped.result _ _ (λ t again. rw is (λ v s longer here sign called.
    let J = left_by_cut called refl in
    let begun = subst (λ (d : MemDisk). IsBegunOn there (state_of d) J) (sym c.into_disk.ensures) (subst (λ (h : Setting). IsBegunOn h (state_of c.args.node.store.disk) J) here (begun_cut called refl)) in
    cut_ends None refl called _ t.lines t.bytes (record { here = again.here_is ∙ sym here; sign = again.sign_is ∙ sym sign; journal = again.journal J begun; pending_is = again.none_waits }) again.line again.none)) c.stopped.ensures
