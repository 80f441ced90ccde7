-- Updates that were seen.
use Rattle.std.specs.Prelude.{◌≡◌, ◌⊎◌, List, [], Bool, true}
use Rattle.std.specs.List.{AllByRecursion}
use Rattle.depot_base.specs.declared.update.Update.{Update}
use Rattle.depot_model.specs.journals.Journal.{has_id}
use Rattle.depot_model.specs.updates.Order.{parents}
use Rattle.depot_schedule.specs.declared.event.HistoryWord.{HistoryWord}
use Rattle.depot_schedule.specs.declared.event.HistoryWord.TheVariants as history

-- each parent of an update was seen
abbrev pub HasSeenParents : List Update → Update → Type 0
HasSeenParents seen u = AllByRecursion (λ id. has_id seen id ≡ true) (parents u)

-- the right history of an update may be needed if it has no parents, or if such histories were announced
abbrev pub MayAsk : Bool → Update → HistoryWord → Type 0
MayAsk asked u history.Right = (parents u ≡ []) ⊎ (asked ≡ true)
MayAsk asked u (history.Given h) = Unit {0}
