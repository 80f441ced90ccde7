-- What an update adds to a graph.
use Rattle.std.specs.Prelude.{◌≡◌, List, [], ◌∷◌, ◌++◌}
use Rattle.depot_base.specs.declared.update.Update.{Update}
use Rattle.depot_model.specs.lists.Items.{place_of_prev}
use Rattle.depot_order.specs.Spots.{next_spot, spots}
use Rattle.depot_graph.specs.declared.addition.Addition.{Addition}
use Rattle.depot_graph.specs.Clocked.{parent_places}
use Rattle.depot_graph.specs.Kept.{child_lists, leaf_places, prev_places}
use Rattle.depot_graph.specs.Kin.{with_siblings}

-- what u adds where it follows us
pub record IsAdditionBy (u : Update) (us : List Update) (addition : Addition) : Type 0 where
  pub prev : addition.prev ≡ place_of_prev u.prev us
  pub spot : addition.spot ≡ next_spot (prev_places us) (spots (prev_places us)) (place_of_prev u.prev us)
  pub parents : addition.parents.items ≡ parent_places us u
  pub leaves : addition.leaves.items ≡ leaf_places (us ++ u ∷ [])
  pub children : with_siblings addition.prev addition.siblings.items (child_lists us) ++ addition.none.items ∷ [] ≡ child_lists (us ++ u ∷ [])
