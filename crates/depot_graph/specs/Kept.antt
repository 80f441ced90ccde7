-- What a graph keeps of each item.
use Rattle.std.specs.Prelude.{ℕ, List, map, not, Option}
use Rattle.depot_base.specs.declared.update.Update.{Update}
use Rattle.depot_model.specs.lists.Lists.{is_among}
use Rattle.depot_model.specs.texts.Texts.{id_of_update}
use Rattle.depot_model.specs.updates.Order.{prevs}
use Rattle.depot_model.specs.updates.History.{is_prev_in}
use Rattle.depot_model.specs.lists.Items.{place_of_prev, places_where}

-- the updates under their ids
abbrev pub updates_in : List (List ℕ × Update) → List Update
updates_in items = map (λ e. e.1) items

-- the places of the children of each of the updates
abbrev pub child_lists : List Update → List (List ℕ)
child_lists us = map (λ t. places_where (λ u. is_among (id_of_update t) (prevs u)) 0 us) us

-- the places of the leaves, in rising order
abbrev pub leaf_places : List Update → List ℕ
leaf_places us = places_where (λ t. not (is_prev_in us (id_of_update t))) 0 us

-- the place of the prev of each of the updates, if it has one
abbrev pub prev_places : List Update → List (Option ℕ)
prev_places us = map (λ u. place_of_prev u.prev us) us
