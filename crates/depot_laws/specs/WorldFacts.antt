-- What the laws of worlds speak of: own puts before others, correct nodes, and proofs that name them.
use Rattle.std.specs.Prelude.{◌≡◌, ℕ, List, [], ◌∷◌, ◌++◌, None, take}
use Rattle.depot_base.specs.Statement.{writer_of}
use Rattle.depot_base.specs.declared.update.Update.{Update}
use Rattle.depot_base.specs.declared.statement.Statement.TheVariants as statement
use Rattle.depot_base.specs.declared.statement.Signed.{Signed}
use Rattle.depot_base.specs.declared.proof.Kind.{Kind}
use Rattle.depot_base.specs.declared.proof.Proof.{Proof}
use Rattle.depot_base.specs.declared.proof.Proof.TheVariants.{Pair}
use Rattle.depot_base.specs.declared.record.Record.{Record}
use Rattle.depot_base.specs.declared.record.Record.TheVariants.{OwnPut}
use Rattle.depot_model.specs.lists.Lists.{IsIn, first}
use Rattle.depot_model.specs.texts.Texts.{IsProof}
use Rattle.depot_model.specs.updates.Order.{Precedes}
use Rattle.depot_model.specs.updates.Judgement.{first_failed_point}
use Rattle.depot_model.specs.journals.Journal.{accepted}
use Rattle.depot_model.specs.checks.Checks.{content_of}
use Rattle.depot_model.specs.worlds.World.{Correct, World, IsCorrect, proofs_of}
use Rattle.depot_laws.specs.Parents.{HasParents}

-- all that was accepted before an own update of the journal precedes it
abbrev pub OwnPutsFollowAll : List Record → Type 0
OwnPutsFollowAll J = (before : List Record) (u t : Update) (values : List (List ℕ)) (after : List Record)
    → J ≡ before ++ OwnPut u values ∷ after → IsIn t (accepted before) → Precedes (accepted J) t u

-- An update that c put passes the checks of its content at d, by each length of d's journal that has accepted its parents.
abbrev pub PutsPassAt : Correct → Correct → Type 0
PutsPassAt c d = (before : List Record) (u : Update) (values : List (List ℕ)) (after : List Record) (n : ℕ)
    → c.journal ≡ before ++ OwnPut u values ∷ after → HasParents (take n d.journal) u
    → first (content_of (take n d.journal) (statement.Update u)) ≡ None

-- each node is correct under the scheme and the roster of the world
abbrev pub AreCorrect : World → Type 0
AreCorrect W = (c : Correct) → IsIn c W.nodes
    → IsCorrect (record { verifies = W.verifies; listed = W.listed; nodes = []; judged = [] }) c

-- each proof that was judged has a text and a verdict
abbrev pub AreJudged : World → Type 0
AreJudged W = (p : Proof) → IsIn p W.judged → IsProof p × (first_failed_point W.verifies W.listed p ≡ None)

-- no conviction and no judged proof has two statements of a correct node
abbrev pub PairsConvictNoCorrectNode : World → Type 0
PairsConvictNoCorrectNode W = (c : Correct) (kind : Kind) (first second : Signed)
    → IsIn c W.nodes → IsIn (Pair kind first second) (proofs_of W) → writer_of first.statement ≡ c.node → ⊥
