-- Some updates of a list with all that precedes them.
use Rattle.std.specs.Prelude.{◌⊎◌, ℕ, List, [], ◌∷◌, ◌||◌, map, if◌then◌else◌}
use Rattle.depot_base.specs.declared.update.Update.{Update}
use Rattle.depot_model.specs.lists.Lists.{IsIn, is_among}
use Rattle.depot_model.specs.texts.Texts.{id_of_update}
use Rattle.depot_model.specs.updates.Order.{is_named, Precedes}
use Rattle.depot_model.specs.lists.Items.{updates_at}

-- what these ids name in a list, in which each parent comes before its children, and what that names in turn
unfoldable pub reached : List (List ℕ) → List Update → List Update
reached ids [] = []
reached ids (t ∷ ts) = if is_among (id_of_update t) ids || is_named t (reached ids ts) then t ∷ reached ids ts else reached ids ts

-- the updates at these places and all that precede one of them, in order
unfoldable pub closure_of : List ℕ → List Update → List Update
closure_of places us = reached (map id_of_update (updates_at us places)) us

-- the update is at one of these places, or precedes one that does
abbrev pub IsAtOrBefore : List Update → List ℕ → Update → Type 0
IsAtOrBefore us places t = IsIn t (updates_at us places) ⊎ ((u : Update) × (IsIn u (updates_at us places) × Precedes us t u))
