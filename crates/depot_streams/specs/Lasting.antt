-- What a call of several node calls appends, and its crash images.
use Rattle.std.specs.Prelude.{◌≡◌, ℕ, List, ◌++◌, take}
use Rattle.depot_base.specs.declared.record.Record.{Record}
use Rattle.depot_model.specs.checks.Checks.{Setting}
use Rattle.depot_model.specs.journals.JournalCalls.{Lasts}
use Rattle.depot_model.specs.journals.Lawful.{IsLawful}
use Rattle.depot_model.specs.worlds.Receipts.{AreReceiptsTrue}
use Rattle.depot_model.specs.journals.Replicas.{IsNodeCall, journal_of}
use Rattle.depot_model.specs.declared.node_state.NodeState.{Ghosts}

-- The call was to append these; with them the journal is lawful, and its receipts stay true. It has appended them all,
-- or, if the disk failed, a prefix of them.
pub record IsToAppend (here : Setting) (J new then : List Record) (failed : Type 0) : Type 0 where
  pub lawful : IsLawful here (J ++ new)
  pub receipts : AreReceiptsTrue J → AreReceiptsTrue (J ++ new)
  pub count : ℕ
  pub front : then ≡ J ++ take count new
  pub all : (failed → ⊥) → then ≡ J ++ new

-- Every crash image of such a call has the records from before and a prefix of those to append. Every later one has all
-- records of the node.
pub record LastsIn {N : Type 0} (g : Ghosts N) (failed : Type 0) (old new : N) : Type 0 where
  pub appends : List Record
  pub is : IsToAppend (g.stands old) (g.records old) appends (g.records new) failed
  pub lasts : Lasts (journal_of g) old new appends

-- What a call that was to append these records, in one node call or several, makes of a node. The journal is lawful
-- with the appended part of them.
pub record IsLawfulCall {N : Type 0} (g : Ghosts N) (old new : N) (appends : List Record) (stopped failed : Type 0) : Type 0 where
  pub node : IsNodeCall g old new appends stopped failed ⊥
  pub lasts : LastsIn g failed old new
