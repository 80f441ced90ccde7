-- Runs of correct nodes under one roster, and what is assumed of signatures and hashes in them.
use Rattle.std.specs.Prelude.{◌≡◌, ℕ, ◌<◌, ◌≤◌, List, ◌++◌, length, take, map, true, false, None}
use Rattle.std.specs.List.{flat_map}
use Rattle.sha2.specs.Sha256.{sha256}
use Rattle.depot_base.specs.Pairs.{AllPairsByRecursion}
use Rattle.depot_base.specs.Zeros.{zeros}
use Rattle.depot_base.specs.Statement.{writer_of}
use Rattle.depot_base.specs.declared.update.Update.{Update}
use Rattle.depot_base.specs.declared.statement.Signed.{Signed}
use Rattle.depot_base.specs.declared.proof.Proof.{Proof}
use Rattle.depot_base.specs.declared.key.RosterEntry.{RosterEntry}
use Rattle.depot_base.specs.declared.record.Record.{Record}
use Rattle.depot_model.specs.lists.Lists.{IsIn}
use Rattle.depot_model.specs.texts.Texts.{IsProof, text_of_update, id_of_update}
use Rattle.depot_model.specs.updates.Order.{AreLatestIn}
use Rattle.depot_model.specs.lists.Items.{AreDistinct}
use Rattle.depot_model.specs.texts.Roster.{Verifies, has_node}
use Rattle.depot_model.specs.updates.Judgement.{first_failed_point}
use Rattle.depot_model.specs.journals.Journal.{accepted, own, foreign_by, proof_by, value_by, seen_under}
use Rattle.depot_model.specs.checks.Checks.{Setting}
use Rattle.depot_model.specs.journals.Lawful.{IsLawful, is_empty}
use Rattle.depot_model.specs.texts.Contents.{Sighting, halves, hollow_texts}

-- ---- worlds

-- an update that a read lists, and what it shows of the update's write of the key
pub record Shown : Type 0 where
  pub update : Update
  pub seen : Sighting

-- a read of a key, made when the journal had this many records, and its answer
pub record Read : Type 0 where
  pub at : ℕ
  pub key : List ℕ
  pub answer : List Shown

-- a correct node: its number, its journal, and its reads in the order in which it made them
pub record Correct : Type 0 where
  pub node : ℕ
  pub journal : List Record
  pub reads : List Read

-- one scheme, one roster, the correct nodes, and the proofs that were judged
pub record World : Type 0 where
  pub verifies : Verifies
  pub listed : List RosterEntry
  pub nodes : List Correct
  pub judged : List Proof

-- the setting of a node of a world
abbrev pub setting_of : World → Correct → Setting
setting_of W c = record { verifies = W.verifies; me = c.node; listed = W.listed }

-- the read lists the latest writes of its key among what the records then had accepted, each as they showed it
pub record IsRead (J : List Record) (r : Read) : Type 0 where
  pub begun : 0 < r.at
  pub within : r.at ≤ length J
  pub latest : AreLatestIn r.key (accepted (take r.at J)) (map (λ s. s.update) r.answer)
  pub values : (s : Shown) → IsIn s r.answer → s.seen ≡ seen_under (take r.at J) r.key s.update

-- no read was made at a shorter journal than one before it
abbrev pub NeverFall : List Read → Type 0
NeverFall = AllPairsByRecursion (λ r s. r.at ≤ s.at)

-- the roster has the node, its journal is lawful and has begun, and its reads are those of the journal
pub record IsCorrect (W : World) (c : Correct) : Type 0 where
  pub member : has_node W.listed c.node ≡ true
  pub lawful : IsLawful (setting_of W c) c.journal
  pub begun : is_empty c.journal ≡ false
  pub reads : (r : Read) → IsIn r c.reads → IsRead c.journal r
  pub in_order : NeverFall c.reads

-- the nodes are distinct and correct, and each judged proof has a verdict
pub record IsWorld (W : World) : Type 0 where
  pub distinct : AreDistinct (map (λ c. c.node) W.nodes)
  pub correct : (c : Correct) → IsIn c W.nodes → IsCorrect W c
  pub formed : (p : Proof) → IsIn p W.judged → IsProof p
  pub judged : (p : Proof) → IsIn p W.judged → first_failed_point W.verifies W.listed p ≡ None

-- ---- nothing of a correct node is forged

-- the signed statements of others that a record keeps
abbrev pub signed_in : Record → List Signed
signed_in r = foreign_by r ++ flat_map halves (proof_by r)

-- all signed statements of others that the nodes keep or that were judged
abbrev pub signed_met : World → List Signed
signed_met W = flat_map (λ c. flat_map signed_in c.journal) W.nodes ++ flat_map halves W.judged

-- No correct node's signature was forged: a statement in its name is one of its own.
pub record IsAuthentic (W : World) : Type 0 where
  pub made : (s : Signed) (c : Correct) → IsIn s (signed_met W) → IsIn c W.nodes → writer_of s.statement ≡ c.node → IsIn s.statement (own c.journal)

-- all proofs of a world, recorded or judged
abbrev pub proofs_of : World → List Proof
proofs_of W = flat_map (λ c. flat_map proof_by c.journal) W.nodes ++ W.judged

-- ---- no two hashed texts collide

-- all updates that some journal accepted
abbrev pub writes_of : World → List Update
writes_of W = flat_map (λ c. accepted c.journal) W.nodes

-- the bodies of these updates, the values that the journals hold, and the texts of hollow proofs
abbrev pub hashed_texts : World → List (List ℕ)
hashed_texts W = map text_of_update (writes_of W) ++ flat_map (λ c. flat_map value_by c.journal) W.nodes ++ flat_map hollow_texts (proofs_of W)

-- No two different texts of these have one SHA-256, and no body's is 32 zero bytes.
pub record IsCollisionFree (W : World) : Type 0 where
  pub one : (a b : List ℕ) → IsIn a (hashed_texts W) → IsIn b (hashed_texts W) → sha256 a ≡ sha256 b → a ≡ b
  pub named : (u : Update) → IsIn u (writes_of W) → id_of_update u ≡ zeros → ⊥
