use Rattle.std.proofs.Common.{refl}
use Rattle.depot_schedule.specs.EventWords.{named_by}
use Rattle.depot_schedule_parser.proofs.draft.Draft.new.Goals as goal

pub invariant_of-result : goal.invariant_of-result
unfolding named_by
invariant_of-result c = (c.requires, λ label. rw (c.new-3.ensures, c.new-2.ensures) refl)
