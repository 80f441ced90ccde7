-- Observation among the operations of a world, and fork-join causal consistency.
use Rattle.std.specs.Prelude.{◌≡◌, ◌⊎◌, ◌↔◌, ℕ, ◌<◌, List, [], ◌∷◌, ◌++◌, take, drop, map, filter, ◌==◌, true, false, Some, slice_get}
use Rattle.std.specs.List.{flat_map}
use Rattle.depot_base.specs.Zeros.{zeros}
use Rattle.depot_base.specs.Statement.{writer_of}
use Rattle.depot_base.specs.declared.update.Update.{Update}
use Rattle.depot_base.specs.declared.statement.Signed.{Signed}
use Rattle.depot_base.specs.declared.proof.Kind.{Kind}
use Rattle.depot_base.specs.declared.proof.Proof.{Proof}
use Rattle.depot_base.specs.declared.record.Record.{Record}
use Rattle.depot_model.specs.lists.Lists.{IsIn}
use Rattle.depot_model.specs.texts.Texts.{id_of_update}
use Rattle.depot_model.specs.updates.Order.{Leads, parents, AreLatest}
use Rattle.depot_model.specs.updates.Chains.{IsChain, HasPrev}
use Rattle.depot_model.specs.updates.Contradictions.{contradicts}
use Rattle.depot_model.specs.journals.Journal.{accepted, own_by, foreign, update_in, accused, is_convicted}
use Rattle.depot_base.specs.declared.write.Wrote.TheVariants.{Gone}
use Rattle.depot_model.specs.texts.Contents.{IsValueOf, IsPutOf, IfHeld, gone, wrote_under}
use Rattle.depot_model.specs.worlds.World.{World, Correct, Read, Shown, writes_of}
pub use Rattle.depot_model.specs.worlds.World.{proofs_of}

-- ---- operations

-- a write, or a correct node's read at a place in its list
pub data Operation : Type 0 where
  write : Update → Operation
  read_at : Correct → ℕ → Read → Operation

-- it is one of the world: a write that some journal accepted, or a read of a node's list
abbrev pub IsOperation : World → Operation → Type 0
IsOperation W (write u) = IsIn u (writes_of W)
IsOperation W (read_at c place r) = IsIn c W.nodes × (slice_get c.reads place ≡ Some r)

-- the updates that a node put, in order
abbrev pub puts_of : List Record → List Update
puts_of J = flat_map (λ r. flat_map update_in (own_by r)) J

-- what directly precedes what
abbrev pub PrecedesDirectly : Operation → Operation → Type 0
-- a parent precedes its child
PrecedesDirectly (write t) (write u) = IsIn (id_of_update t) (parents u)
-- what a node had accepted precedes its read
PrecedesDirectly (write u) (read_at c place r) = IsIn u (accepted (take r.at c.journal))
-- an earlier read of a node precedes a later one
PrecedesDirectly (read_at c i r) (read_at d j s) = (c ≡ d) × (i < j)
-- a read precedes what the node put later
PrecedesDirectly (read_at c place r) (write u) = IsIn u (puts_of (drop r.at c.journal))

-- one operation of the world directly precedes another
pub record Edge (W : World) (a b : Operation) : Type 0 where
  pub above : IsOperation W a
  pub below : IsOperation W b
  pub step : PrecedesDirectly a b

-- One operation is observed before another: a path of such edges leads from the one to the other.
abbrev pub ObservedBefore : World → Operation → Operation → Type 0
ObservedBefore W = Leads (Edge W)

-- ---- the five parts

-- nothing is observed before itself, and observation is transitive
pub record IsStrictOrder (W : World) : Type 0 where
  pub onward : (a b c : Operation) → ObservedBefore W a b → ObservedBefore W b c → ObservedBefore W a c
  pub never : (a : Operation) → ObservedBefore W a a → ⊥

-- the reads and the own updates of a node
abbrev pub IsOf : Correct → Operation → Type 0
IsOf c (write u) = IsIn u (puts_of c.journal)
IsOf c (read_at d place r) = (d ≡ c) × (slice_get c.reads place ≡ Some r)

-- one comes before the other in a list
pub record StandsBefore (us : List Update) (t u : Update) : Type 0 where
  pub front : List Update
  pub behind : List Update
  pub parts : us ≡ front ++ u ∷ behind
  pub earlier : IsIn t front

-- a node made one of its operations before another
abbrev pub MadeBefore : Correct → Operation → Operation → Type 0
MadeBefore c (write t) (write u) = StandsBefore (puts_of c.journal) t u
MadeBefore c (write u) (read_at d place r) = IsIn u (puts_of (take r.at c.journal))
MadeBefore c (read_at d place r) (write u) = IsIn u (puts_of (drop r.at c.journal))
MadeBefore c (read_at d i r) (read_at e j s) = i < j

-- a node's reads and own updates are totally ordered, in the order in which it made them
pub record IsLine (W : World) (c : Correct) : Type 0 where
  pub total : (a b : Operation) → IsOf c a → IsOf c b → (a ≡ b) ⊎ (MadeBefore c a b ⊎ MadeBefore c b a)
  pub order : (a b : Operation) → IsOf c a → IsOf c b → MadeBefore c a b → ObservedBefore W a b

-- all updates that a node accepted before an own update precede it
abbrev pub ObservesAll : World → Correct → Type 0
ObservesAll W c = (before : List Record) (r : Record) (after : List Record) → c.journal ≡ before ++ r ∷ after
    → (t u : Update) → IsIn t (accepted before) → IsIn u (puts_of (r ∷ [])) → ObservedBefore W (write t) (write u)

-- a correct node's record puts the update, with the value that is shown
pub record HasPut (d : Correct) (key : List ℕ) (s : Shown) : Type 0 where
  pub by : Record
  pub kept : IsIn by d.journal
  pub put : IsPutOf key s.update s.seen by

-- A read shows exactly the latest writes of its key among those observed before it. A value that it shows is the one that the
-- write of the key names, and where a correct node wrote it, the one that this node put under the key; a deletion is shown where the
-- write is one, and nowhere else.
pub record IsExact (W : World) (c : Correct) (place : ℕ) (r : Read) : Type 0 where
  pub latest : AreLatest r.key (λ u. ObservedBefore W (write u) (read_at c place r)) (λ t u. ObservedBefore W (write t) (write u)) (map (λ s. s.update) r.answer)
  pub named : (s : Shown) → IsIn s r.answer → IfHeld s.seen (λ v. IsValueOf r.key s.update v)
  pub gone_shown : (s : Shown) → IsIn s r.answer → (s.seen ≡ gone) ↔ (wrote_under r.key s.update.writes ≡ Some Gone)
  pub put : (s : Shown) (d : Correct) → IsIn s r.answer → IsIn d W.nodes → s.update.writer ≡ d.node → HasPut d r.key s

-- In a journal the updates of each writer are a forest by prev, each after its prev. Those of a writer who isn't convicted there
-- are one chain. Statements of others that contradict each other have a convicted writer.
pub record HasForests (J : List Record) : Type 0 where
  pub prev : (before : List Update) (u : Update) (after : List Update) → accepted J ≡ before ++ u ∷ after → (u.prev ≡ zeros → ⊥) → HasPrev before u
  pub chain : (w : ℕ) → is_convicted J w ≡ false → IsChain zeros (filter (λ u. u.writer == w) (accepted J))
  pub exposed : (a b : Signed) → IsIn a (foreign J) → IsIn b (foreign J) → (k : Kind) → contradicts k a.statement b.statement ≡ true → is_convicted J (writer_of a.statement) ≡ true

-- ---- the property

-- Fork-join causal, as the article names it: observation is a strict partial order, in which each node's operations
-- form a line, all that it had accepted precedes what it then wrote, each read is exact, and a fork is a separate
-- branch of its writer.
pub record IsForkJoinCausal (W : World) : Type 0 where
  pub strict : IsStrictOrder W
  pub lines : (c : Correct) → IsIn c W.nodes → IsLine W c
  pub causes : (c : Correct) → IsIn c W.nodes → ObservesAll W c
  pub reads : (c : Correct) (place : ℕ) (r : Read) → IsIn c W.nodes → slice_get c.reads place ≡ Some r → IsExact W c place r
  pub forests : (c : Correct) → IsIn c W.nodes → HasForests c.journal

-- no proof names a correct node
pub record ConvictsNoCorrectNode (W : World) : Type 0 where
  pub never : (c : Correct) (p : Proof) → IsIn c W.nodes → IsIn p (proofs_of W) → accused p ≡ c.node → ⊥
