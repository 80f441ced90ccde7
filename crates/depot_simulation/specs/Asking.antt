-- Which events ask for right histories.
use Rattle.std.specs.Prelude.{List, [], ◌∷◌, Bool, true, false, Option, Some, None}
use Rattle.depot_schedule.specs.declared.event.Event.{Event}
use Rattle.depot_schedule.specs.declared.event.Event.TheVariants as event
use Rattle.depot_schedule.specs.declared.event.HistoryWord.{HistoryWord}
use Rattle.depot_schedule.specs.declared.event.HistoryWord.TheVariants as history
use Rattle.depot_schedule.specs.declared.event.Ref.{Ref}

-- a prev and entries name parents
abbrev pub names_parents : Option Ref → List Ref → Bool
names_parents (Some r) rs = true
names_parents None [] = false
names_parents None (r ∷ rs) = true

-- the right history of an update with parents is needed
abbrev pub asks_past : Option Ref → List Ref → HistoryWord → Bool
asks_past prev deps history.Right = names_parents prev deps
asks_past prev deps (history.Given h) = false

-- an event needs that of the update that a faulty node signs
abbrev pub asks_right_history : Event → Bool
asks_right_history (event.Update label writer seq clock prev key value deps history) = asks_past prev deps history
asks_right_history (event.Updates label writer seq clock prev changes deps history) = asks_past prev deps history
asks_right_history e = false
