use Rattle.std.proofs.Common.{◌≡◌, ℕ, List, [], Ok, Err, rules, refl, sym, subst}
use Rattle.std.proofs.lemmas.Result.{err_from_is_err_and}
use Rattle.depot_base.specs.declared.record.Record.{Record}
use Rattle.depot_model.specs.declared.bundle.VoucherError.TheVariants as voucher_error
use Rattle.depot_model.proofs.of_journals.JournalCallLaws.{idle_call, never_stopped}
use Rattle.depot_model.specs.checks.Vouching.{new_vouchers}
use Rattle.depot_readings.specs.ReadingsView as readings
use Rattle.depot_readings.specs.ReadingsView.{Known}
use Rattle.depot_readings.specs.RecordTexts.{IsGiven}
use Rattle.depot_decide.specs.PlanErrors.{voucher_error_of}
use Rattle.depot_decide.specs.PlannedVouchers.{ArePlanned, AreRefused}
use Rattle.depot_decide.specs.declared.plan_errors.VoucherPlanError.{VoucherPlanError}
use Rattle.depot_decide.specs.declared.plan_errors.VoucherPlanError.TheVariants as plan_error
use Rattle.depot_decide.proofs.VoucherPlans.{cut_vouchers, may_vouch, no_room, refused_vouches, vouched}
use Rattle.depot_node.specs.Commits.{Commits}
use Rattle.depot_node.specs.Holdings.{journal_on, node_setting}
use Rattle.depot_node.specs.StoreCalls.{IsCommitCall}
use Rattle.depot_node.specs.declared.commit.CommitError.{CommitError}
use Rattle.depot_node.specs.declared.commit.CommitError.TheVariants as refused
use Rattle.depot_node.proofs.CallNames.{voucher_call}
use Rattle.depot_node.proofs.GivenTexts.{vouchers_given}
use Rattle.depot_node.proofs.vouch.own_vouchers.Given.{Over}
use Rattle.depot_node.proofs.vouch.own_vouchers.Goals as goal
use Rattle.depot_node.proofs.vouch.own_vouchers.Goals.{In_ok-growth, In_err-growth}

-- of what isn't planned no disk is to blame, and no stop
not_disk : (e : VoucherPlanError) → voucher_error_of e ≡ voucher_error.Disk → ⊥
not_disk plan_error.Memory is = cc
not_disk (plan_error.Spent n) is = cc

not_stopped : (e : VoucherPlanError) → voucher_error_of e ≡ voucher_error.Stopped → ⊥
not_stopped plan_error.Memory is = cc
not_stopped (plan_error.Spent n) is = cc

-- what is planned of these ids
plan : (g : Over) (c : In_ok-growth g) → ArePlanned (node_setting g.S.Scheme.verifies c.args.store.now) c.args.store.now.records c.args.ids.now c.in_ok-growth.growth
plan g c =
    subst (λ (ids : List (List ℕ)). ArePlanned (node_setting g.S.Scheme.verifies c.args.store.now) c.args.store.now.records ids c.in_ok-growth.growth) c.as_slice.ensures
    (subst (λ (r : Known). ArePlanned (readings.standing g.S.Scheme.verifies r) r.records c.as_slice.result.now c.in_ok-growth.growth) c.readings.ensures c.in_ok-growth.ensures.planned)

-- and what a refusal says of them
refusal : (g : Over) (c : In_err-growth g) → AreRefused (node_setting g.S.Scheme.verifies c.args.store.now) c.args.store.now.records c.args.ids.now c.in_err-growth.field-0.0
refusal g c =
    subst (λ (ids : List (List ℕ)). AreRefused (node_setting g.S.Scheme.verifies c.args.store.now) c.args.store.now.records ids c.in_err-growth.field-0.0) c.as_slice.ensures
    (subst (λ (r : Known). AreRefused (readings.standing g.S.Scheme.verifies r) r.records c.as_slice.result.now c.in_err-growth.field-0.0) c.readings.ensures c.in_err-growth.ensures.refused)

pub commit-requires-clause-may : goal.commit-requires-clause-may
commit-requires-clause-may g c = may_vouch (node_setting g.S.Scheme.verifies c.args.store.now) c.args.store.now.records c.args.ids.now _ (plan g (goal.at.commit-requires-clause-may g c).In_ok-growth)

pub returns-in-Ok-clause-vouches : goal.returns-in-Ok-clause-vouches
returns-in-Ok-clause-vouches g c = vouched (node_setting g.S.Scheme.verifies c.args.store.now) c.args.store.now.records c.args.ids.now _ _ (plan g (goal.at.returns-in-Ok-clause-vouches g c).In_ok-growth) c.in-Ok.ensures.commits

pub returns-in-Err-Full-clause-vouches : goal.returns-in-Err-Full-clause-vouches
returns-in-Err-Full-clause-vouches g c =
    no_room (node_setting g.S.Scheme.verifies c.args.store.now) c.args.store.now.records c.args.ids.now _ _ c.in-Err-Full.full (plan g (goal.at.returns-in-Err-Full-clause-vouches g c).In_ok-growth)
    (subst (λ (e : CommitError). Commits c.args.store.now.me c.args.store.now.records c.in_ok-growth.growth (Err e) c.commit.new.self.records) c.in-Err-Full.field-0-is c.in-Err-Full.ensures.commits)

pub returns-in_err-growth-clause-vouches : goal.returns-in_err-growth-clause-vouches
returns-in_err-growth-clause-vouches g c =
    let p = err_from_is_err_and c.from_residual.result c.from_residual.ensures.1 in
    rw (p.1, p.2) (refused_vouches (node_setting g.S.Scheme.verifies c.args.store.now) c.args.store.now.records c.args.ids.now c.in_err-growth.field-0.0 (refusal g (goal.at.returns-in_err-growth-clause-vouches g c).In_err-growth))

pub returns-in-Err-Disk-clause-vouches : goal.returns-in-Err-Disk-clause-vouches
returns-in-Err-Disk-clause-vouches g c =
    let cut = subst (λ (e : CommitError). Commits c.args.store.now.me c.args.store.now.records c.in_ok-growth.growth (Err e) c.commit.new.self.records) c.in-Err-Disk.field-0-is c.in-Err-Disk.ensures.commits in
    cut_vouchers (node_setting g.S.Scheme.verifies c.args.store.now) c.args.store.now.records c.args.ids.now _ _ (plan g (goal.at.returns-in-Err-Disk-clause-vouches g c).In_ok-growth) cut.0 cut.1

pub commit-requires-clause-given : goal.commit-requires-clause-given
commit-requires-clause-given g c = subst (λ (rs : List Record). IsGiven rs []) (sym (plan g (goal.at.commit-requires-clause-given g c).In_ok-growth).grows) (vouchers_given (new_vouchers (node_setting g.S.Scheme.verifies c.args.store.now).me c.args.store.now.records c.args.ids.now) [])

-- ---- the call

pub returns-then-is_stopped-clause-call : goal.returns-then-is_stopped-clause-call
returns-then-is_stopped-clause-call g c = idle_call (journal_on g.D.Disk) (λ v file left. g.met.D.Disk.only_now v.disk file left) (λ v. g.met.D.Disk.after_none v.disk) c.args.store.now _ (c.is_stopped.ensures.stable c.requires.kept.read) (λ s. search rules, λ was. refl) (λ e. cc)

pub returns-in_err-growth-clause-call : goal.returns-in_err-growth-clause-call
returns-in_err-growth-clause-call g c =
    let p = err_from_is_err_and c.from_residual.result c.from_residual.ensures.1 in
    rw (p.1, p.2) (idle_call (journal_on g.D.Disk) (λ v file left. g.met.D.Disk.only_now v.disk file left) (λ v. g.met.D.Disk.after_none v.disk) c.args.store.now _ (c.is_stopped.ensures.stable c.requires.kept.read) (never_stopped c.args.store.now.stopped (search rules) (λ s. not_stopped c.in_err-growth.field-0.0 cc)) (λ e. not_disk c.in_err-growth.field-0.0 cc))

pub returns-in-Ok-clause-call : goal.returns-in-Ok-clause-call
returns-in-Ok-clause-call g c = voucher_call g.D.Disk c.args.store.now c.commit.new.self c.in_ok-growth.growth _ (Ok tt) (plan g (goal.at.returns-in-Ok-clause-call g c).In_ok-growth).grows c.in-Ok.ensures.call

pub returns-in-Err-Memory-clause-call : goal.returns-in-Err-Memory-clause-call
returns-in-Err-Memory-clause-call g c =
    voucher_call g.D.Disk c.args.store.now c.commit.new.self c.in_ok-growth.growth _ (Err refused.Memory) (plan g (goal.at.returns-in-Err-Memory-clause-call g c).In_ok-growth).grows
    (subst (λ (e : CommitError). IsCommitCall g.D.Disk c.args.store.now c.commit.new.self c.in_ok-growth.growth (Err e)) c.in-Err-Memory.field-0-is c.in-Err-Memory.ensures.call)

pub returns-in-Err-Disk-clause-call : goal.returns-in-Err-Disk-clause-call
returns-in-Err-Disk-clause-call g c =
    voucher_call g.D.Disk c.args.store.now c.commit.new.self c.in_ok-growth.growth _ (Err refused.Disk) (plan g (goal.at.returns-in-Err-Disk-clause-call g c).In_ok-growth).grows
    (subst (λ (e : CommitError). IsCommitCall g.D.Disk c.args.store.now c.commit.new.self c.in_ok-growth.growth (Err e)) c.in-Err-Disk.field-0-is c.in-Err-Disk.ensures.call)

pub returns-in-Err-Full-clause-call : goal.returns-in-Err-Full-clause-call
returns-in-Err-Full-clause-call g c =
    voucher_call g.D.Disk c.args.store.now c.commit.new.self c.in_ok-growth.growth _ (Err (refused.Full c.in-Err-Full.full)) (plan g (goal.at.returns-in-Err-Full-clause-call g c).In_ok-growth).grows
    (subst (λ (e : CommitError). IsCommitCall g.D.Disk c.args.store.now c.commit.new.self c.in_ok-growth.growth (Err e)) c.in-Err-Full.field-0-is c.in-Err-Full.ensures.call)
