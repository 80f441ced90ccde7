-- When labels are named last: what is kept of that.
use Rattle.std.specs.Prelude.{◌≡◌, ◌≤◌, ℕ, List, length, nat_lt, Bool, true, false, Option, Some, None, Vec, if◌then◌else◌}
use Rattle.std.specs.List.{slice_get}
use Rattle.std.specs.declared.alloc.Global.{Global}
use Rattle.depot_model.specs.lists.Lists.{IsIn, is_among}
use Rattle.depot_schedule.specs.declared.event.Event.{Event}
use Rattle.depot_world.specs.Forgetting.{NoneNames, labels_in}
use Rattle.depot_scenario.specs.Labels.{named_in}

-- there is a number, and it is no greater
abbrev pub HasAtMost : ℕ → Option ℕ → Type 0
HasAtMost most None = ⊥
HasAtMost most (Some n) = n ≤ most

-- whether there is a number, and it is less
abbrev pub has_below : ℕ → Option ℕ → Bool
has_below end None = false
has_below end (Some n) = nat_lt n end

-- Each label that an event at this place or later names is kept, with that place or an earlier one.
abbrev pub AreUsesFrom : ℕ → List (Vec ℕ Global × ℕ) → List Event → Type 0
AreUsesFrom from entries to_come = (place : ℕ) (e : Event) (label : List ℕ) → from ≤ place → slice_get to_come place ≡ Some e → IsIn label (labels_in e) → HasAtMost place (named_in label entries)

-- the same of each event
abbrev pub AreUses : List (Vec ℕ Global × ℕ) → List Event → Type 0
AreUses = AreUsesFrom 0

-- these labels are kept with this place, and others as they were
abbrev pub AreNoted : List (List ℕ) → ℕ → List (Vec ℕ Global × ℕ) → List (Vec ℕ Global × ℕ) → Type 0
AreNoted labels place old new = (label : List ℕ) → named_in label new ≡ (if is_among label labels then Some place else named_in label old)

-- For any number of later events: what is kept is of their uses still, and none of them names a label whose use has
-- ended.
abbrev pub EndsUse : List (Vec ℕ Global × ℕ) → List ℕ → ℕ → Bool → List (Vec ℕ Global × ℕ) → Type 0
EndsUse old label many ended new = (to_come : List Event) → length to_come ≡ many → AreUses old to_come → AreUses new to_come × (ended ≡ true → NoneNames to_come label)
