-- What the fields of a forest keep.
use Rattle.std.specs.Prelude.{◌≡◌, ℕ, ◌<◌, ◌^◌, List, length, false, Option, Some, slice_get}
use Rattle.depot_order.specs.declared.chains.Spot.{Spot}
use Rattle.depot_order.specs.Spots.{IsForest, has_child, chains_of, spots, IsTip}

-- The spots are those of the prevs, and the tips are those of the chains. So an item is a tip exactly where it has no child.
pub record AreSpotsNumbered (prevs : List (Option ℕ)) (placed : List Spot) (tips : List ℕ) : Type 0 where
  pub same : placed ≡ spots prevs
  pub chains : length tips ≡ chains_of placed
  pub last : (chain item : ℕ) → slice_get tips chain ≡ Some item → IsTip placed chain item
  pub tip : (item : ℕ) (s : Spot) → slice_get placed item ≡ Some s → has_child prevs item ≡ false → slice_get tips s.chain ≡ Some item
  pub childless : (item : ℕ) (s : Spot) → slice_get placed item ≡ Some s → slice_get tips s.chain ≡ Some item → has_child prevs item ≡ false
  pub forest : IsForest prevs
  pub few : length prevs < 2 ^ 32
