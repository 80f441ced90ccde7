-- A node in memory, and the file on a disk in which its journal is kept.
use Rattle.std.specs.Prelude.{◌≡◌, ◌≤◌, ℕ, List, [], length, map, take, drop, Bool, true, false, IsTrue, Result, Ok, Err}
use Rattle.depot_base.specs.Disk.{Only}
use Rattle.depot_base.specs.File.{blocks}
use Rattle.depot_base.specs.declared.record.Record.{Record}
use Rattle.depot_journal.specs.WriteSteps.{StandsTo}
use Rattle.depot_model.specs.declared.node_state.NodeState.{Ghosts}
use Rattle.depot_model.specs.texts.Records.{text_of_record}
use Rattle.depot_outside.specs.declared.disk.Disk as disk_of
use Rattle.depot_outside.specs.Told.{Sinks, Wrote, WroteFront}
use Rattle.depot_service.specs.Answering.{IsServing}
use Rattle.depot_session.specs.declared.kept_node.KeptNode.{KeptNode}
use Rattle.depot_session.specs.declared.server_ending.ServeEnding.{ServeEnding}
use Rattle.depot_session.specs.declared.server_ending.ServeEnding.TheVariants as ending

-- the records of the node that are in the file
abbrev pub kept_records : {N D : Type 0} → Ghosts N → KeptNode N D → List Record
kept_records g k = take k.kept (g.records k.node)

-- those that aren't yet
abbrev pub unkept_records : {N D : Type 0} → Ghosts N → KeptNode N D → List Record
unkept_records g k = drop k.kept (g.records k.node)

-- It is seen as a node on that disk, whose records are those in the file.
abbrev pub kept_state : {N D : Type 0} → Ghosts N → disk_of.Ghosts D → Ghosts (KeptNode N D)
kept_state g d = record {
  stands = λ k. g.stands k.node;
  records = λ k. kept_records g k;
  key = λ k. g.key k.node;
  signature_of = λ k. g.signature_of k.node;
  stopped = λ k. k.stopped;
  handle = λ k. d.handle k.disk;
  faults = λ k. d.faults k.disk;
  is_faultless = λ k. d.is_faultless k.disk;
  tells = λ k. d.tells k.disk;
  may_leave = λ k file. d.may_leave k.disk file;
  moment = λ k. d.moment k.disk;
  left_since = λ k t file. d.left_since k.disk t file;
  reads = λ k. d.seen k.disk;
  after = λ k calls l. d.after k.disk calls l.disk;
}

-- The file has these records up to the gate, and nothing is unsynced.
pub record IsInFile {D : Type 0} (d : disk_of.Ghosts D) (disk : D) (J : List Record) (gate : ℕ) : Type 0 where
  pub gate_is : gate ≡ length (blocks (map text_of_record J))
  pub stands : IsTrue (d.tells disk) → StandsTo (d.seen disk) (map text_of_record J) gate
  pub stable : IsTrue (d.tells disk) → Only (d.seen disk) (d.may_leave disk)

-- The disk didn't fail, and the file has those records that it is to have.
pub record IsFileKept {N D : Type 0} (g : Ghosts N) (d : disk_of.Ghosts D) (k : KeptNode N D) : Type 0 where
  pub runs : k.stopped ≡ false
  pub inside : k.kept ≤ length (g.records k.node)
  pub file : IsInFile d k.disk (kept_records g k) k.gate

-- It has all records of the node, which runs.
pub record IsAllKept {N D : Type 0} (g : Ghosts N) (d : disk_of.Ghosts D) (k : KeptNode N D) : Type 0 where
  pub runs : k.stopped ≡ false
  pub all : k.kept ≡ length (g.records k.node)
  pub file : IsInFile d k.disk (g.records k.node) k.gate
  pub node : IsServing g k.node

-- no memory was found for a request that waited
abbrev pub lacks_memory : Result ℕ ServeEnding → Bool
lacks_memory (Err ending.Memory) = true
lacks_memory other = false

-- a sink in memory, before and after a run: it never fails
abbrev pub in_memory : List ℕ → List ℕ → Sinks
in_memory before after = record { tells = true; before = before; after = after; faults_before = 0; faults_after = 0 }

-- What became of the replies: they were written; or no memory was found, and none of them was; or the sink failed, and a
-- prefix of them was.
abbrev pub TellsReplies : Sinks → List ℕ → Result (Unit {0}) ServeEnding → Type 0
TellsReplies sink text (Ok _) = Wrote sink text
TellsReplies sink text (Err ending.Memory) = Wrote sink []
TellsReplies sink text (Err ending.Sink) = WroteFront sink text
TellsReplies sink text (Err other) = ⊥

-- The node's own disk never fails: no count of its faults is more than another.
abbrev pub NeverFails : {N : Type 0} → Ghosts N → Type 0
NeverFails {N} g = (n : N) → g.faults n ≡ 0
