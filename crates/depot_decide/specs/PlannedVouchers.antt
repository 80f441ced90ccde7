-- What a node decides where it is to vouch for ids.
use Rattle.std.specs.Prelude.{◌≡◌, ℕ, List, ◌++◌, Some, None, option_map}
use Rattle.depot_base.specs.declared.record.Record.{Record}
use Rattle.depot_model.specs.checks.Checks.{Setting}
use Rattle.depot_model.specs.journals.Lawful.{IsLawful}
use Rattle.depot_model.specs.checks.Limits.{spent, full}
use Rattle.depot_model.specs.checks.Room.{full_by}
use Rattle.depot_model.specs.checks.Vouching.{new_vouchers, records_of, limit_of_vouchers}
use Rattle.depot_decide.specs.declared.plan_errors.VoucherPlanError.{VoucherPlanError}
use Rattle.depot_decide.specs.declared.plan_errors.VoucherPlanError.TheVariants as refused

-- The vouchers are planned: of their limits only the room is unchecked, they are what the journal is to grow by, and
-- with them it stays lawful where there is room.
pub record ArePlanned (here : Setting) (J : List Record) (ids : List (List ℕ)) (new : List Record) : Type 0 where
  pub limit : limit_of_vouchers here J ids ≡ option_map full (full_by here.me J new)
  pub grows : new ≡ records_of (new_vouchers here.me J ids)
  pub lawful : full_by here.me J new ≡ None → IsLawful here (J ++ new)

-- What a refusal says before the room is checked. Memory may come in place of each answer.
abbrev pub AreRefused : Setting → List Record → List (List ℕ) → VoucherPlanError → Type 0
AreRefused here J ids refused.Memory = Unit {0}
AreRefused here J ids (refused.Spent n) = limit_of_vouchers here J ids ≡ Some (spent n)
