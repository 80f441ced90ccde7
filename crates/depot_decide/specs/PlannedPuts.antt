-- What is decided of a put.
use Rattle.std.specs.Prelude.{◌≡◌, ◌<◌, List, ◌++◌, length, Some, None, option_map}
use Rattle.depot_base.specs.declared.limits.TheConstants.{MOST_ENTRIES}
use Rattle.depot_base.specs.declared.update.Update.{Update}
use Rattle.depot_base.specs.declared.write.Change.{Change}
use Rattle.depot_base.specs.declared.record.Record.{Record}
use Rattle.depot_model.specs.checks.Checks.{Setting}
use Rattle.depot_model.specs.journals.Lawful.{IsLawful}
use Rattle.depot_model.specs.checks.Limits.{spent, tips, collides, full, limit_of_put}
use Rattle.depot_model.specs.checks.Own.{next_own}
use Rattle.depot_model.specs.checks.Putting.{put_done_of, put_records}
use Rattle.depot_model.specs.checks.Room.{full_by}
use Rattle.depot_model.specs.declared.put_answers.PutDone.{PutDone}
use Rattle.depot_decide.specs.declared.plan_errors.PlanError.{PlanError}
use Rattle.depot_decide.specs.declared.plan_errors.PlanError.TheVariants as plan
use Rattle.depot_decide.specs.declared.plan_errors.NextError.{NextError}
use Rattle.depot_decide.specs.declared.plan_errors.NextError.TheVariants as next

-- A put is planned: of its limits only the room is unchecked, this is to be reported of it, it is what the journal is
-- to grow by, and with it the journal stays lawful where there is room.
pub record IsPlanned (here : Setting) (J : List Record) (changes : List Change) (done : PutDone) (new : List Record) : Type 0 where
  pub limit : limit_of_put here J changes ≡ option_map full (full_by here.me J new)
  pub told : done ≡ put_done_of (next_own here.me J changes)
  pub grows : new ≡ put_records here J changes
  pub lawful : full_by here.me J new ≡ None → IsLawful here (J ++ new)

-- What a refusal says before the room is checked. Memory may come in place of each answer.
abbrev pub IsRefused : Setting → List Record → List Change → PlanError → Type 0
IsRefused here J changes plan.Memory = Unit {0}
IsRefused here J changes (plan.Spent n) = limit_of_put here J changes ≡ Some (spent n)
IsRefused here J changes (plan.Tips n) = limit_of_put here J changes ≡ Some (tips n)
IsRefused here J changes (plan.Collides h) = limit_of_put here J changes ≡ Some (collides h)

-- why an update isn't made: it has more than 1,024 entries, and this is their number; or memory ran out
abbrev pub IsTooWide : Update → NextError → Type 0
IsTooWide u next.Memory = Unit {0}
IsTooWide u (next.Tips n) = (n ≡ length u.deps) × (MOST_ENTRIES < n)
