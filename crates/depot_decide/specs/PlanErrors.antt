-- What a node answers where nothing is planned.
use Rattle.depot_model.specs.declared.bundle.VoucherError.{VoucherError}
use Rattle.depot_model.specs.declared.bundle.VoucherError.TheVariants as refused_vouchers
use Rattle.depot_decide.specs.declared.plan_errors.PlanError.{PlanError}
use Rattle.depot_decide.specs.declared.plan_errors.PlanError.TheVariants as plan
use Rattle.depot_model.specs.declared.put_answers.PutError.{PutError}
use Rattle.depot_model.specs.declared.put_answers.PutError.TheVariants as refused
use Rattle.depot_decide.specs.declared.plan_errors.NextError.{NextError}
use Rattle.depot_decide.specs.declared.plan_errors.NextError.TheVariants as next
use Rattle.depot_decide.specs.declared.plan_errors.VoucherPlanError.{VoucherPlanError}
use Rattle.depot_decide.specs.declared.plan_errors.VoucherPlanError.TheVariants as vouchers

-- why nothing is planned of a put whose update isn't made
abbrev pub of_next : NextError → PlanError
of_next next.Memory = plan.Memory
of_next (next.Tips n) = plan.Tips n

-- what is answered to a put of which nothing is planned
abbrev pub put_error_of : PlanError → PutError
put_error_of plan.Memory = refused.Memory
put_error_of (plan.Spent n) = refused.Spent n
put_error_of (plan.Tips n) = refused.Tips n
put_error_of (plan.Collides h) = refused.Collides h

-- what is answered to ids for which no vouchers are planned
abbrev pub voucher_error_of : VoucherPlanError → VoucherError
voucher_error_of vouchers.Memory = refused_vouchers.Memory
voucher_error_of (vouchers.Spent n) = refused_vouchers.Spent n
