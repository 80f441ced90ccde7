-- The checks of an update's content.
use Rattle.std.specs.Prelude.{◌≡◌, List, [], ◌∷◌, Option, Some, None}
use Rattle.depot_base.specs.declared.check.Check.{Check}
use Rattle.depot_base.specs.declared.check.Check.TheVariants as check
use Rattle.depot_base.specs.declared.update.Update.{Update}
use Rattle.depot_model.specs.checks.Checks.{Sight, sight, content_checks, wrong_dep, backward, clock_low, clock_far}
use Rattle.depot_model.specs.lists.Items.{AreItemsOf}
use Rattle.depot_model.specs.lists.Lists.{first}
use Rattle.depot_model.specs.updates.Order.{parents}
use Rattle.depot_graph.specs.UpdateRows.{IsJoinedRow}
use Rattle.depot_accept.specs.declared.content.Content.{Content}
use Rattle.depot_accept.specs.declared.content.Content.TheVariants as content

-- the checks of what the parents and the clock are, in their order, where no parent is missing
unfoldable pub checks_of_parents : Update → Sight → List (Option Check)
checks_of_parents u seen = wrong_dep u seen ∷ backward u seen ∷ clock_low u seen ∷ clock_far u seen ∷ []

-- the result of these and the other checks of an update's content
abbrev pub IsContentOf : List Update → Update → Content → Type 0
IsContentOf us u (content.Failed c) = first (content_checks u (sight us u)) ≡ Some c
IsContentOf us u (content.Passed found) = (first (content_checks u (sight us u)) ≡ None) × (AreItemsOf us (parents u) found.items.items × IsJoinedRow us found.items.items found.row.items)

-- it is another check than that of forks
abbrev pub TellsNoFork : Check → Type 0
TellsNoFork (check.Forked kept came kind) = ⊥
TellsNoFork c = Unit {0}
