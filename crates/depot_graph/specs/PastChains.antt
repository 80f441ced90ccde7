-- The leaves of a past, by the chains of the forest by prev.
use Rattle.std.specs.Prelude.{◌≡◌, ◌<◌, ◌≤◌, ◌⊎◌, ◌↔◌, ℕ, List, length}
use Rattle.depot_base.specs.declared.update.Update.{Update}
use Rattle.depot_model.specs.lists.Lists.{IsIn}
use Rattle.depot_model.specs.lists.Items.{PrecedesAt, children_of}
use Rattle.depot_order.specs.Spots.{IsSpotAt}
use Rattle.depot_graph.specs.Kept.{prev_places}

-- the item is one of these, or precedes one of them
abbrev pub IsCovered : List Update → List ℕ → ℕ → Type 0
IsCovered us items n = (m : ℕ) × (IsIn m items × ((n ≡ m) ⊎ PrecedesAt us n m))

-- one of the items whose prev this one is, is covered
abbrev pub HasCoveredChild : List Update → List ℕ → ℕ → Type 0
HasCoveredChild us items n = (child : ℕ) × (IsIn child (children_of us n) × IsCovered us items child)

-- the item is covered, and none whose prev it is
pub record IsLastOfChain (us : List Update) (items : List ℕ) (n : ℕ) : Type 0 where
  pub covered : IsCovered us items n
  pub childless : (child : ℕ) → IsIn child (children_of us n) → IsCovered us items child → ⊥

-- these are the items that are so
abbrev pub AreLast : List Update → List ℕ → List ℕ → Type 0
AreLast us items found = (n : ℕ) → n < length us → (IsIn n found ↔ IsLastOfChain us items n)

-- the item is the last of its chain that comes before this place
pub record IsLastCounted (us : List Update) (chain count n : ℕ) : Type 0 where
  pub place : ℕ
  pub at : IsSpotAt (prev_places us) n chain place
  pub counted : place < count
  pub last : (m other : ℕ) → IsSpotAt (prev_places us) m chain other → other < count → other ≤ place
