-- Updates as the items of clocks.
use Rattle.std.specs.Prelude.{◌≡◌, ℕ, List, [], ◌∷◌, ◌++◌, refl}
use Rattle.std.specs.Coded.{Coded, Coded-set, code_by, coded×, coded_ℕ, coded_list}
use Rattle.depot_base.specs.declared.update.Update.{Update}
use Rattle.depot_model.specs.updates.Order.{parents}
use Rattle.depot_model.specs.lists.Items.{place_of_prev, places_of}
use Rattle.depot_order.specs.Spots.{next_spot, spots}
use Rattle.depot_order.specs.ChainItems.{ChainItem}
use Rattle.depot_graph.specs.Kept.{prev_places}

-- the places of the parents of u
abbrev pub parent_places : List Update → Update → List ℕ
parent_places us u = places_of us (parents u)

-- u after us, as an item
abbrev pub clock_item : List Update → Update → ChainItem
clock_item us u = record {
  chain = (next_spot (prev_places us) (spots (prev_places us)) (place_of_prev u.prev us)).chain;
  place = (next_spot (prev_places us) (spots (prev_places us)) (place_of_prev u.prev us)).place;
  parents = parent_places us u;
}

-- each of some updates, which follow others, as an item
unfoldable pub clock_items_behind : List Update → List Update → List ChainItem
clock_items_behind front [] = []
clock_items_behind front (u ∷ us) = clock_item front u ∷ clock_items_behind (front ++ u ∷ []) us

-- the updates as items
abbrev pub clock_items : List Update → List ChainItem
clock_items us = clock_items_behind [] us

coded_item : Coded ChainItem
coded_item = code_by (ℕ × (ℕ × List ℕ)) (coded× coded_ℕ (coded× coded_ℕ (coded_list coded_ℕ))) (λ x. (x.chain, (x.place, x.parents))) (λ p. record { chain = p.0; place = p.1.0; parents = p.1.1 }) (λ _. refl)

-- that some items are those of the updates has one proof at most, so that a type can keep it
pub are_items-prop : (items others : List ChainItem) → IsProp (items ≡ others)
are_items-prop items others = Coded-set (coded_list coded_item) _ _
