use Rattle.std.proofs.Common.{◌≡◌, List, [], Ok, Err, rules, refl, sym, subst}
use Rattle.std.proofs.lemmas.Result.{err_from_is_err_and}
use Rattle.depot_base.specs.declared.record.Record.{Record}
use Rattle.depot_model.specs.declared.put_answers.PutError.TheVariants as put_error
use Rattle.depot_model.proofs.of_journals.JournalCallLaws.{idle_call, never_stopped}
use Rattle.depot_readings.specs.ReadingsView as readings
use Rattle.depot_readings.specs.ReadingsView.{Known}
use Rattle.depot_readings.specs.RecordTexts.{IsGiven}
use Rattle.depot_decide.proofs.PutLaws.{plan_may_grow, plan_is_cut, plan_is_put, plan_has_no_room, refused_puts}
use Rattle.depot_decide.specs.PlanErrors.{put_error_of}
use Rattle.depot_decide.specs.PlannedPuts.{IsPlanned, IsRefused}
use Rattle.depot_decide.specs.declared.plan_errors.PlanError.{PlanError}
use Rattle.depot_decide.specs.declared.plan_errors.PlanError.TheVariants as plan
use Rattle.depot_node.specs.Commits.{Commits}
use Rattle.depot_node.specs.Holdings.{journal_on, node_setting}
use Rattle.depot_node.specs.StoreCalls.{IsCommitCall}
use Rattle.depot_node.specs.declared.commit.CommitError.{CommitError}
use Rattle.depot_node.specs.declared.commit.CommitError.TheVariants as refused
use Rattle.depot_node.proofs.CallNames.{put_call}
use Rattle.depot_node.proofs.put.put_all.Given.{Over}
use Rattle.depot_node.proofs.put.put_all.Goals as goal
use Rattle.depot_node.proofs.put.put_all.Goals.{In_ok-plan, In_err-plan}

-- of what isn't planned no disk is to blame, and no stop
not_disk : (e : PlanError) → put_error_of e ≡ put_error.Disk → ⊥
not_disk plan.Memory is = cc
not_disk (plan.Spent n) is = cc
not_disk (plan.Tips n) is = cc
not_disk (plan.Collides h) is = cc

not_stopped : (e : PlanError) → put_error_of e ≡ put_error.Stopped → ⊥
not_stopped plan.Memory is = cc
not_stopped (plan.Spent n) is = cc
not_stopped (plan.Tips n) is = cc
not_stopped (plan.Collides h) is = cc

-- what is planned
planned : (g : Over) (c : In_ok-plan g) → IsPlanned (node_setting g.S.Scheme.verifies c.args.store.now) c.args.store.now.records c.args.changes c.in_ok-plan.plan.done c.in_ok-plan.plan.growth
planned g c = subst (λ (r : Known). IsPlanned (readings.standing g.S.Scheme.verifies r) r.records c.args.changes c.in_ok-plan.plan.done c.in_ok-plan.plan.growth) c.readings.ensures c.in_ok-plan.ensures.planned

-- and what a refusal says
refusal : (g : Over) (c : In_err-plan g) → IsRefused (node_setting g.S.Scheme.verifies c.args.store.now) c.args.store.now.records c.args.changes c.in_err-plan.field-0.0
refusal g c = subst (λ (r : Known). IsRefused (readings.standing g.S.Scheme.verifies r) r.records c.args.changes c.in_err-plan.field-0.0) c.readings.ensures c.in_err-plan.ensures.refused

pub commit-requires-clause-given : goal.commit-requires-clause-given
commit-requires-clause-given g c = subst (λ (rs : List Record). IsGiven rs []) (sym (planned g (goal.at.commit-requires-clause-given g c).In_ok-plan).grows) tt

pub commit-requires-clause-may : goal.commit-requires-clause-may
commit-requires-clause-may g c = plan_may_grow (node_setting g.S.Scheme.verifies c.args.store.now) c.args.store.now.records c.args.changes c.in_ok-plan.plan.done c.in_ok-plan.plan.growth (planned g (goal.at.commit-requires-clause-may g c).In_ok-plan)

pub returns-in-Ok-clause-puts : goal.returns-in-Ok-clause-puts
returns-in-Ok-clause-puts g c = plan_is_put (node_setting g.S.Scheme.verifies c.args.store.now) c.args.store.now.records c.args.changes c.in_ok-plan.plan.done c.in_ok-plan.plan.growth _ (planned g (goal.at.returns-in-Ok-clause-puts g c).In_ok-plan) c.in-Ok.ensures.commits

pub returns-in-Err-Full-clause-puts : goal.returns-in-Err-Full-clause-puts
returns-in-Err-Full-clause-puts g c =
    rw c.in-Err-Full.field-0-is (plan_has_no_room (node_setting g.S.Scheme.verifies c.args.store.now) c.args.store.now.records c.args.changes c.in_ok-plan.plan.done c.in_ok-plan.plan.growth _ c.in-Err-Full.full (planned g (goal.at.returns-in-Err-Full-clause-puts g c).In_ok-plan)
    (subst (λ (e : CommitError). Commits c.args.store.now.me c.args.store.now.records c.in_ok-plan.plan.growth (Err e) c.commit.new.self.records) c.in-Err-Full.field-0-is c.in-Err-Full.ensures.commits))

pub returns-in_err-plan-clause-puts : goal.returns-in_err-plan-clause-puts
returns-in_err-plan-clause-puts g c =
    let p = err_from_is_err_and c.from_residual.result c.from_residual.ensures.1 in
    rw (p.1, p.2) (refused_puts (node_setting g.S.Scheme.verifies c.args.store.now) c.args.store.now.records c.args.changes c.in_err-plan.field-0.0 (refusal g (goal.at.returns-in_err-plan-clause-puts g c).In_err-plan))

pub returns-in-Err-Disk-clause-puts : goal.returns-in-Err-Disk-clause-puts
returns-in-Err-Disk-clause-puts g c =
    let cut = subst (λ (e : CommitError). Commits c.args.store.now.me c.args.store.now.records c.in_ok-plan.plan.growth (Err e) c.commit.new.self.records) c.in-Err-Disk.field-0-is c.in-Err-Disk.ensures.commits in
    plan_is_cut (node_setting g.S.Scheme.verifies c.args.store.now) c.args.store.now.records c.args.changes c.in_ok-plan.plan.done c.in_ok-plan.plan.growth _ (planned g (goal.at.returns-in-Err-Disk-clause-puts g c).In_ok-plan) cut.0 cut.1

-- ---- the call

pub returns-then-is_stopped-clause-call : goal.returns-then-is_stopped-clause-call
returns-then-is_stopped-clause-call g c = idle_call (journal_on g.D.Disk) (λ v file left. g.met.D.Disk.only_now v.disk file left) (λ v. g.met.D.Disk.after_none v.disk) c.args.store.now _ (c.is_stopped.ensures.stable c.requires.kept.read) (λ s. search rules, λ was. refl) (λ e. cc)

pub returns-in_err-plan-clause-call : goal.returns-in_err-plan-clause-call
returns-in_err-plan-clause-call g c =
    let p = err_from_is_err_and c.from_residual.result c.from_residual.ensures.1 in
    rw (p.1, p.2) (idle_call (journal_on g.D.Disk) (λ v file left. g.met.D.Disk.only_now v.disk file left) (λ v. g.met.D.Disk.after_none v.disk) c.args.store.now _ (c.is_stopped.ensures.stable c.requires.kept.read) (never_stopped c.args.store.now.stopped (search rules) (λ s. not_stopped c.in_err-plan.field-0.0 cc)) (λ e. not_disk c.in_err-plan.field-0.0 cc))

pub returns-in-Ok-clause-call : goal.returns-in-Ok-clause-call
returns-in-Ok-clause-call g c = put_call g.D.Disk c.args.store.now c.commit.new.self c.in_ok-plan.plan.growth _ c.in_ok-plan.plan.done (Ok tt) (planned g (goal.at.returns-in-Ok-clause-call g c).In_ok-plan).grows c.in-Ok.ensures.call

pub returns-in-Err-Memory-clause-call : goal.returns-in-Err-Memory-clause-call
returns-in-Err-Memory-clause-call g c =
    put_call g.D.Disk c.args.store.now c.commit.new.self c.in_ok-plan.plan.growth _ c.in_ok-plan.plan.done (Err refused.Memory) (planned g (goal.at.returns-in-Err-Memory-clause-call g c).In_ok-plan).grows (subst (λ (e : CommitError). IsCommitCall g.D.Disk c.args.store.now c.commit.new.self c.in_ok-plan.plan.growth (Err e)) c.in-Err-Memory.field-0-is c.in-Err-Memory.ensures.call)

pub returns-in-Err-Disk-clause-call : goal.returns-in-Err-Disk-clause-call
returns-in-Err-Disk-clause-call g c =
    put_call g.D.Disk c.args.store.now c.commit.new.self c.in_ok-plan.plan.growth _ c.in_ok-plan.plan.done (Err refused.Disk) (planned g (goal.at.returns-in-Err-Disk-clause-call g c).In_ok-plan).grows (subst (λ (e : CommitError). IsCommitCall g.D.Disk c.args.store.now c.commit.new.self c.in_ok-plan.plan.growth (Err e)) c.in-Err-Disk.field-0-is c.in-Err-Disk.ensures.call)

pub returns-in-Err-Full-clause-call : goal.returns-in-Err-Full-clause-call
returns-in-Err-Full-clause-call g c =
    rw c.in-Err-Full.field-0-is (put_call g.D.Disk c.args.store.now c.commit.new.self c.in_ok-plan.plan.growth _ c.in_ok-plan.plan.done (Err (refused.Full c.in-Err-Full.full)) (planned g (goal.at.returns-in-Err-Full-clause-call g c).In_ok-plan).grows (subst (λ (e : CommitError). IsCommitCall g.D.Disk c.args.store.now c.commit.new.self c.in_ok-plan.plan.growth (Err e)) c.in-Err-Full.field-0-is c.in-Err-Full.ensures.call))
