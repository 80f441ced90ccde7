-- The nodes of a world beside the traces that make them.
use Rattle.std.proofs.Common.{◌≡◌, ℕ, List, [], ◌∷◌, ◌++◌, length, map, take, refl, sym, ap, subst, ◌∙◌, inl, inr, arith}
use Rattle.std.specs.Borrow.{Bor}
use Rattle.std.specs.List.{flat_map}
use Rattle.std.proofs.lemmas.List.{length-map}
use Rattle.std.proofs.lemmas.Simd.{map-map}
use Rattle.std.proofs.lemmas.Grind.{flat_map-append}
use Rattle.depot_base.specs.declared.key.RosterEntry.{RosterEntry}
use Rattle.depot_base.specs.declared.record.Record.{Record}
use Rattle.depot_model.specs.journals.Journal.{accepted, value_by}
use Rattle.depot_model.specs.journals.Lawful.{IsLawful}
use Rattle.depot_model.specs.lists.Lists.{IsIn}
use Rattle.depot_model.specs.texts.Records.{IsRecord, text_of_record}
use Rattle.depot_model.specs.texts.Roster.{Verifies}
use Rattle.depot_model.specs.journals.ShownWrites.{shown_of}
use Rattle.depot_model.specs.texts.Texts.{id_of_update}
use Rattle.depot_model.specs.worlds.Traces as traces
use Rattle.depot_model.specs.worlds.Traces.{AreNodesOf, IsRightRead, AreRightReads, at_node, answered, IsWorldOf}
use Rattle.depot_model.specs.worlds.World.{Shown, Read, Correct, World, writes_of}
use Rattle.depot_laws.specs.OneText.{world_values}
use Rattle.depot_laws.proofs.own_updates.OwnTexts.{lawful_is_short}
use Rattle.depot_laws.proofs.lists.Splits.{lawful_texts}
use Rattle.depot_traces.specs.SeenTraces.{answered_of, read_of, trace_of}
use Rattle.depot_traces.specs.declared.trace.ReadTrace.{ReadTrace}
use Rattle.depot_traces.specs.declared.trace.Trace.{Trace}
use Rattle.depot_audit.specs.Lookups.{nodes_in}
use Rattle.depot_audit.specs.MetTexts.{ArePairs, AreTexts, IsToldBy, AreToldBy}
use Rattle.depot_audit.specs.TracedWorlds.{world_records}

-- a read as its trace makes it
abbrev pub made : List Record → ReadTrace → Read
made J r = record { at = r.length; key = r.key; answer = shown_of (take r.length J) r.key }

-- a node as its trace makes it
pub record IsNodeOf (verifies : Verifies) (listed : List RosterEntry) (c : Correct) (t : Trace) : Type 0 where
  pub node : c.node ≡ t.node
  pub lawful : IsLawful (at_node verifies listed (trace_of t)) c.journal
  pub texts : t.texts ≡ map text_of_record c.journal
  pub reads : c.reads ≡ map (made c.journal) t.reads
  pub right : AreRightReads c.journal 0 (map read_of t.reads)

module _ (verifies : Verifies) (listed : List RosterEntry) where
  pub nodes_are : (ts : List Trace) (cs : List Correct) → AreNodesOf verifies listed (map trace_of ts) cs → ArePairs (IsNodeOf verifies listed) cs ts
  nodes_are [] [] are = tt
  nodes_are [] (c ∷ cs) are = absurd are
  nodes_are (t ∷ ts) [] are = absurd are
  nodes_are (t ∷ ts) (c ∷ cs) ((J, (texts, (right, is))), are) =
      let journal : c.journal ≡ J = ap (λ (d : Correct). d.journal) is in
      let reads : c.reads ≡ map (made J) t.reads = ap (λ (d : Correct). d.reads) is ∙ map-map _ read_of t.reads in (
        record {
          node = ap (λ (d : Correct). d.node) is;
          lawful = subst (λ (K : List Record). IsLawful (at_node verifies listed (trace_of t)) K) (sym journal) texts.lawful;
          texts = texts.are ∙ ap (map text_of_record) (sym journal);
          reads = subst (λ (K : List Record). c.reads ≡ map (made K) t.reads) (sym journal) reads;
          right = subst (λ (K : List Record). AreRightReads K 0 (map read_of t.reads)) (sym journal) right;
        },
        nodes_are ts cs are,
      )

  texts_of : (J : List Record) → ((r : Record) → IsIn r J → IsRecord r) → AreTexts J (map text_of_record J)
  texts_of [] fits = tt
  texts_of (r ∷ J) fits = (record { fits = fits r (inl refl); is = refl }, texts_of J (λ q on. fits q (inr on)))

  told_by : (c : Correct) (t : Trace) → IsNodeOf verifies listed c t → IsToldBy c t
  told_by c t n = record {
    node = n.node;
    texts = subst (λ (texts : List (List ℕ)). AreTexts c.journal texts) (sym n.texts) (texts_of c.journal (λ r on. lawful_texts (at_node verifies listed (trace_of t)) c.journal r n.lawful on));
    few = omega (arith, ap length n.texts, length-map c.journal text_of_record, lawful_is_short (at_node verifies listed (trace_of t)) c.journal n.lawful);
  }

  pub told_by_traces : (cs : List Correct) (ts : List Trace) → ArePairs (IsNodeOf verifies listed) cs ts → AreToldBy cs ts
  told_by_traces [] [] pairs = tt
  told_by_traces [] (t ∷ ts) pairs = absurd pairs
  told_by_traces (c ∷ cs) [] pairs = absurd pairs
  told_by_traces (c ∷ cs) (t ∷ ts) pairs = (told_by c t pairs.0, told_by_traces cs ts pairs.1)

-- the numbers of nodes are those of their traces
pub nodes_told : (cs : List Correct) (ts : List Trace) → AreToldBy cs ts → map (λ c. c.node) cs ≡ nodes_in ts
nodes_told [] [] told = refl
nodes_told [] (t ∷ ts) told = absurd told
nodes_told (c ∷ cs) [] told = absurd told
nodes_told (c ∷ cs) (t ∷ ts) told = ap (λ (n : ℕ). n ∷ map (λ (d : Correct). d.node) cs) told.0.node ∙ ap (λ (ns : List ℕ). t.node ∷ ns) (nodes_told cs ts told.1)

-- ---- the records of all nodes

flat_flat : {X Y Z : Type 0} (f : Y → List Z) (g : X → List Y) (xs : List X) → flat_map f (flat_map g xs) ≡ flat_map (λ x. flat_map f (g x)) xs
flat_flat f g [] = refl
flat_flat f g (x ∷ xs) = flat_map-append f (g x) (flat_map g xs) ∙ ap (λ (zs : List _). flat_map f (g x) ++ zs) (flat_flat f g xs)

pub accepted_of : (W : World) → accepted (world_records W) ≡ writes_of W
accepted_of W = flat_flat _ (λ (c : Correct). c.journal) W.nodes

pub values_are : (W : World) → flat_map value_by (world_records W) ≡ world_values W
values_are W = flat_flat value_by (λ (c : Correct). c.journal) W.nodes

pub given_in : {X : Type 0} (f : Record → List X) (W : World) → flat_map f (world_records W) ≡ flat_map (λ c. flat_map f c.journal) W.nodes
given_in f W = flat_flat f (λ (c : Correct). c.journal) W.nodes

-- ---- reads

-- a right read lists the ids of what is shown
pub ids_are : (J : List Record) (n : ℕ) (r : ReadTrace) → IsRightRead J n (read_of r) → map (λ a. a.id) r.answer ≡ map (λ (s : Shown). id_of_update s.update) (made J r).answer
ids_are J n r right =
    sym (map-map (λ (a : traces.Answered). a.id) answered_of r.answer) ∙ ap (map (λ (a : traces.Answered). a.id)) right.answer
    ∙ map-map (λ (a : traces.Answered). a.id) answered (shown_of (take r.length J) r.key)

-- ---- traces after references

pub seen_traces : (ts : List (Bor Trace)) → map (λ t. trace_of t.now) ts ≡ map trace_of (map (λ t. t.now) ts)
seen_traces ts = sym (map-map trace_of (λ (t : Bor Trace). t.now) ts)

pub told_in : (W : World) (ts : List (Bor Trace)) → IsWorldOf (map (λ t. trace_of t.now) ts) W → AreToldBy W.nodes (map (λ t. t.now) ts)
told_in W ts of =
    let seen = map (λ (t : Bor Trace). t.now) ts in
    told_by_traces W.verifies W.listed W.nodes seen (nodes_are W.verifies W.listed seen W.nodes (subst (λ (xs : List traces.Trace). AreNodesOf W.verifies W.listed xs W.nodes) (seen_traces ts) of.nodes))
