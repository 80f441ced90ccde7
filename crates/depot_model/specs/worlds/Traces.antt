-- Traces, which nodes hand in, and what an audit of them finds.
use Rattle.std.specs.Prelude.{◌≡◌, ℕ, ◌<◌, ◌≤◌, List, [], ◌∷◌, ◌++◌, length, map, take, nat_lt, if◌then◌else◌}
use Rattle.std.specs.List.{AllByRecursion}
use Rattle.depot_base.specs.declared.key.RosterEntry.{RosterEntry}
use Rattle.depot_base.specs.declared.record.Record.{Record}
use Rattle.depot_model.specs.texts.Texts.{id_of_update}
use Rattle.depot_model.specs.texts.Roster.{Verifies}
use Rattle.depot_model.specs.texts.Contents.{Sighting}
use Rattle.depot_model.specs.checks.Checks.{Setting}
use Rattle.depot_model.specs.checks.RecordFaults.{AreTextsOf, HaveFaultAt}
use Rattle.depot_model.specs.worlds.World.{Shown, Correct, World, IsWorld}
use Rattle.depot_model.specs.worlds.Causality.{IsForkJoinCausal, ConvictsNoCorrectNode}
use Rattle.depot_model.specs.journals.ShownWrites.{shown_of}
use Rattle.depot_model.specs.worlds.Audit.{Finding, unlawful, answer_found, finding_in}

-- ---- traces

-- a write of an answer: its id, and what is shown of its write of the key
pub record Answered : Type 0 where
  pub id : List ℕ
  pub shown : Sighting

-- a read: the number of records then, the key, and the answer
pub record ReadTrace : Type 0 where
  pub length : ℕ
  pub key : List ℕ
  pub answer : List Answered

-- what a node hands in: its record texts, and its reads
pub record Trace : Type 0 where
  pub node : ℕ
  pub texts : List (List ℕ)
  pub reads : List ReadTrace

-- ---- reads

abbrev pub answered : Shown → Answered
answered s = record { id = id_of_update s.update; shown = s.seen }

-- a read of a trace is what the journal showed; the read before it was made at this many records
pub record IsRightRead (J : List Record) (last : ℕ) (r : ReadTrace) : Type 0 where
  pub begun : 0 < r.length
  pub later : last ≤ r.length
  pub within : r.length ≤ length J
  pub answer : r.answer ≡ map answered (shown_of (take r.length J) r.key)

-- all are, where the one before the first saw this many records
abbrev pub AreRightReads : List Record → ℕ → List ReadTrace → Type 0
AreRightReads J last [] = Unit {0}
AreRightReads J last (r ∷ rs) = IsRightRead J last r × AreRightReads J r.length rs

-- the length of the last read, or n
abbrev pub last_length : ℕ → List ReadTrace → ℕ
last_length n [] = n
last_length n (r ∷ rs) = last_length r.length rs

-- ---- nodes

-- the setting of a node of a trace
abbrev pub at_node : Verifies → List RosterEntry → Trace → Setting
at_node verifies listed t = record { verifies = verifies; me = t.node; listed = listed }

-- a node as its trace makes it, with this journal: its reads are what the journal shows
abbrev pub traced_node : Trace → List Record → Correct
traced_node t J = record { node = t.node; journal = J; reads = map (λ r. record { at = r.length; key = r.key; answer = shown_of (take r.length J) r.key }) t.reads }

-- its texts are those of a lawful journal
abbrev pub IsLawfulTrace : Verifies → List RosterEntry → Trace → Type 0
IsLawfulTrace verifies listed t = (J : List Record) × AreTextsOf (at_node verifies listed t) J t.texts

-- and its reads are what the journal showed
abbrev pub HasRightReads : Verifies → List RosterEntry → Trace → Type 0
HasRightReads verifies listed t = (J : List Record) × (AreTextsOf (at_node verifies listed t) J t.texts × AreRightReads J 0 t.reads)

-- the first read that isn't what the journal showed
pub record IsFirstBad (verifies : Verifies) (listed : List RosterEntry) (t : Trace) (place : ℕ) : Type 0 where
  pub journal : List Record
  pub texts : AreTextsOf (at_node verifies listed t) journal t.texts
  pub before : List ReadTrace
  pub read : ReadTrace
  pub after : List ReadTrace
  pub parts : t.reads ≡ before ++ read ∷ after
  pub at : place ≡ length before
  pub good : AreRightReads journal 0 before
  pub bad : IsRightRead journal (last_length 0 before) read → ⊥

-- ---- findings

-- put before the first of a higher node
unfoldable pub put_by_node : Trace → List Trace → List Trace
put_by_node t [] = t ∷ []
put_by_node t (x ∷ xs) = if nat_lt x.node t.node then x ∷ put_by_node t xs else t ∷ x ∷ xs

-- in rising order of their nodes
unfoldable pub by_node : List Trace → List Trace
by_node [] = []
by_node (t ∷ ts) = put_by_node t (by_node ts)

-- this holds of the first that isn't good
pub record FirstAt {X : Type 0} (good : X → Type 0) (xs : List X) (P : X → Type 0) : Type 0 where
  pub before : List X
  pub one : X
  pub after : List X
  pub parts : xs ≡ before ++ one ∷ after
  pub all : AllByRecursion good before
  pub holds : P one

-- these are the nodes as their traces make them, each with its lawful journal
abbrev pub AreNodesOf : Verifies → List RosterEntry → List Trace → List Correct → Type 0
AreNodesOf verifies listed [] [] = Unit {0}
AreNodesOf verifies listed [] (c ∷ cs) = ⊥
AreNodesOf verifies listed (t ∷ ts) [] = ⊥
AreNodesOf verifies listed (t ∷ ts) (c ∷ cs) =
    ((J : List Record) × (AreTextsOf (at_node verifies listed t) J t.texts × (AreRightReads J 0 t.reads × (c ≡ traced_node t J))))
    × AreNodesOf verifies listed ts cs

-- its nodes are those of these traces, in their order, and it is a world
pub record IsWorldOf (traces : List Trace) (W : World) : Type 0 where
  pub nodes : AreNodesOf W.verifies W.listed traces W.nodes
  pub is_world : IsWorld W

-- the world that traces make, in rising order of the nodes, without judged proofs
pub record AreTraced (verifies : Verifies) (listed : List RosterEntry) (traces : List Trace) (W : World) : Type 0 where
  pub nodes : List Correct
  pub are : AreNodesOf verifies listed (by_node traces) nodes
  pub is : W ≡ record { verifies = verifies; listed = listed; nodes = nodes; judged = [] }

-- What an audit finds: the first node whose records aren't lawful, else the first read that isn't what its journal showed, else
-- what is found in the world that the traces make.
abbrev pub IsFindingOf : Verifies → List RosterEntry → List Trace → Finding → Type 0
IsFindingOf verifies listed traces (unlawful n place fault) = FirstAt (IsLawfulTrace verifies listed) (by_node traces) (λ t. (t.node ≡ n) × HaveFaultAt (at_node verifies listed t) t.texts place fault)
IsFindingOf verifies listed traces (answer_found n place) = AllByRecursion (IsLawfulTrace verifies listed) (by_node traces)
    × FirstAt (HasRightReads verifies listed) (by_node traces) (λ t. (t.node ≡ n) × IsFirstBad verifies listed t place)
IsFindingOf verifies listed traces f = (W : World) × (AreTraced verifies listed traces W × (finding_in W ≡ f))

-- the traces make a world, which is fork-join causal, and in which no conviction names a node
pub record IsCausalWorldOf (verifies : Verifies) (listed : List RosterEntry) (traces : List Trace) : Type 0 where
  pub world : World
  pub traced : AreTraced verifies listed traces world
  pub is_world : IsWorld world
  pub causal : IsForkJoinCausal world
  pub named : ConvictsNoCorrectNode world
