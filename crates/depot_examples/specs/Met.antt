-- The conditions of laws, all of them, in one world.
use Rattle.std.specs.Prelude.{◌≡◌, ◌<◌, ◌≤◌, ℕ, List, length}
use Rattle.depot_base.specs.declared.update.Update.{Update}
use Rattle.depot_model.specs.lists.Lists.{IsIn}
use Rattle.depot_model.specs.worlds.Receipts.{receipts}
use Rattle.depot_model.specs.readers.Trimming.{trimmed}
use Rattle.depot_model.specs.worlds.World.{Correct, World, IsWorld, IsAuthentic, IsCollisionFree}
use Rattle.depot_laws.specs.ReceiptFacts.{HaveTrueReceipts, count_incorrect}
use Rattle.depot_laws.specs.TrimFacts.{AllSigned}

-- In a world of true receipts fewer nodes than so many aren't correct, and a correct node has receipts of so many.
pub record HasSettledPut (W : World) (k : ℕ) : Type 0 where
  pub world : IsWorld W
  pub authentic : IsAuthentic W
  pub genuine : HaveTrueReceipts W
  pub few : count_incorrect W < k
  pub node : Correct
  pub on : IsIn node W.nodes
  pub id : List ℕ
  pub long : length id ≡ 32
  pub many : k ≤ length (receipts node.journal id)

-- In a world without collisions every node of the roster has signed a checkpoint in a correct node's journal, and an update is trimmed there.
pub record HasSignedCheckpoint (W : World) : Type 0 where
  pub world : IsWorld W
  pub authentic : IsAuthentic W
  pub free : IsCollisionFree W
  pub node : Correct
  pub on : IsIn node W.nodes
  pub text : List ℕ
  pub ids : List (List ℕ)
  pub signed : AllSigned W node.journal text ids
  pub below : Update
  pub is_trimmed : IsIn below (trimmed node.journal ids)
