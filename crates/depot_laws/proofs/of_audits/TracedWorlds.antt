-- Traces whose records are lawful and whose reads are right make a world.
use Rattle.std.proofs.Common.{◌≡◌, ℕ, ◌≤◌, ltb, Bool, true, false, cond, List, [], ◌∷◌, map, take, drop, refl, sym, ap, subst, ◌∙◌, inl, inr, ◌⊎◌, arith}
use Rattle.std.specs.List.{AllByRecursion}
use Rattle.std.proofs.lemmas.List.{take-append-drop}
use Rattle.depot_base.specs.declared.key.RosterEntry.{RosterEntry}
use Rattle.depot_base.specs.declared.record.Record.{Record}
use Rattle.depot_base.specs.declared.update.Update.{Update}
use Rattle.depot_model.specs.lists.Lists.{IsIn}
use Rattle.depot_model.specs.lists.Items.{AreDistinct}
use Rattle.depot_model.specs.texts.Roster.{Verifies, has_node}
use Rattle.depot_model.specs.updates.Order.{AreLatestIn}
use Rattle.depot_model.specs.journals.Journal.{accepted, seen_under}
use Rattle.depot_model.specs.checks.Checks.{Setting}
use Rattle.depot_model.specs.journals.Lawful.{IsLawful, is_empty}
use Rattle.depot_model.specs.texts.Records.{text_of_record}
use Rattle.depot_model.specs.worlds.World.{Shown, Read, Correct, World, IsRead, NeverFall, IsCorrect, IsWorld}
use Rattle.depot_model.proofs.lists.Members.{all_at, all_from, in_map, from_map}
use Rattle.depot_laws.proofs.lists.Splits.{lawful_front}
use Rattle.depot_laws.proofs.records.Causes.{lawful_is_causal}
use Rattle.depot_model.specs.updates.LatestList.{latest_in}
use Rattle.depot_model.specs.worlds.Traces.{Trace, ReadTrace, IsRightRead, AreRightReads, at_node, traced_node, put_by_node, by_node, AreNodesOf, AreTraced}
use Rattle.depot_model.proofs.of_updates.LatestWrites.{latest_are_listed}
use Rattle.depot_model.specs.checks.RecordFaults.{AreTextsOf}
use Rattle.depot_model.specs.journals.ShownWrites.{shown_of}

-- ---- reads

abbrev made : List Record → ReadTrace → Read
made J r = record { at = r.length; key = r.key; answer = shown_of (take r.length J) r.key }

updates_of : (f : Update → Shown) → ((u : Update) → (f u).update ≡ u) → (us : List Update) → map (λ (s : Shown). s.update) (map f us) ≡ us
updates_of f same [] = refl
updates_of f same (u ∷ us) = ap (λ (x : Update). x ∷ map (λ (s : Shown). s.update) (map f us)) (same u) ∙ ap (λ (xs : List Update). u ∷ xs) (updates_of f same us)

-- what a journal shows is a read of it
read_is : (here : Setting) (J : List Record) (last : ℕ) (r : ReadTrace) → IsLawful here J → IsRightRead J last r → IsRead J (made J r)
read_is here J last r l t =
    let K = take r.length J in
    let front = lawful_front here K (drop r.length J) (subst (λ (x : List Record). IsLawful here x) (sym (take-append-drop r.length J)) l) in
    record {
      begun = t.begun;
      within = t.within;
      latest = subst (λ (us : List Update). AreLatestIn r.key (accepted K) us) (sym (updates_of (λ u. record { update = u; seen = seen_under K r.key u }) (λ u. refl) (latest_in r.key (accepted K)))) (latest_are_listed r.key (accepted K) (lawful_is_causal here K front));
      values = λ s on. let u = from_map (λ (u : Update). record { update = u; seen = seen_under K r.key u }) s (latest_in r.key (accepted K)) on in subst (λ (x : Shown). x.seen ≡ seen_under K r.key x.update) u.1.1 refl;
    }

reads_are : (here : Setting) (J : List Record) (last : ℕ) (rs : List ReadTrace) → IsLawful here J → AreRightReads J last rs → (r : Read) → IsIn r (map (made J) rs) → IsRead J r
reads_are here J last [] l told r never = absurd never
reads_are here J last (x ∷ rs) l told r (inl here_it) = subst (IsRead J) here_it (read_is here J last x l told.0)
reads_are here J last (x ∷ rs) l told r (inr there) = reads_are here J x.length rs l told.1 r there

later : (J : List Record) (last : ℕ) (rs : List ReadTrace) → AreRightReads J last rs → AllByRecursion (λ (s : Read). last ≤ s.at) (map (made J) rs)
later J last [] told = tt
later J last (x ∷ rs) told = (told.0.later, all_from (λ (s : Read). last ≤ s.at) (map (made J) rs) (λ s on. omega (arith, told.0.later, all_at (λ (s : Read). x.length ≤ s.at) (map (made J) rs) s (later J x.length rs told.1) on)))

never_fall : (J : List Record) (last : ℕ) (rs : List ReadTrace) → AreRightReads J last rs → NeverFall (map (made J) rs)
never_fall J last [] told = tt
never_fall J last (x ∷ rs) told = (later J x.length rs told.1, never_fall J x.length rs told.1)

-- ---- the order of nodes

from_put_node : (t x : Trace) (ts : List Trace) → IsIn x (put_by_node t ts) → (t ≡ x) ⊎ IsIn x ts
unfolding put_by_node
from_put_node t x [] on = on
from_put_node t x (y ∷ ts) on = choice (ltb y.node t.node) on (from_put_node t x ts) where
  choice : (b : Bool) → IsIn x (cond b (y ∷ put_by_node t ts) (t ∷ y ∷ ts)) → (IsIn x (put_by_node t ts) → (t ≡ x) ⊎ IsIn x ts) → (t ≡ x) ⊎ IsIn x (y ∷ ts)
  choice true (inl here) behind = inr (inl here)
  choice true (inr there) behind = elim (behind there) [ inl same ↦ inl same | inr old ↦ inr (inr old) ]
  choice false on behind = on

from_by_node : (x : Trace) (ts : List Trace) → IsIn x (by_node ts) → IsIn x ts
unfolding by_node
from_by_node x [] never = never
from_by_node x (t ∷ ts) on = elim (from_put_node t x (by_node ts) on) [ inl here ↦ inl here | inr there ↦ inr (from_by_node x ts there) ]

-- a number is that of none of these
abbrev IsOther : ℕ → List Trace → Type 0
IsOther n ts = AllByRecursion (λ m. m ≡ n → ⊥) (map (λ t. t.node) ts)

other_put : (n : ℕ) (t : Trace) (ts : List Trace) → (t.node ≡ n → ⊥) → IsOther n ts → IsOther n (put_by_node t ts)
other_put n t ts one rest = all_from (λ m. m ≡ n → ⊥) (map (λ (x : Trace). x.node) (put_by_node t ts)) (λ m on e.
    let x = from_map (λ (x : Trace). x.node) m (put_by_node t ts) on in
    elim (from_put_node t x.0 ts x.1.0) [
      | inl same ↦ one (ap (λ (y : Trace). y.node) same ∙ x.1.1 ∙ e)
      | inr old ↦ all_at (λ k. k ≡ n → ⊥) (map (λ (y : Trace). y.node) ts) x.0.node rest (in_map (λ (y : Trace). y.node) x.0 ts old) (x.1.1 ∙ e)
    ])

distinct_put : (t : Trace) (ts : List Trace) → IsOther t.node ts → AreDistinct (map (λ t. t.node) ts) → AreDistinct (map (λ t. t.node) (put_by_node t ts))
unfolding put_by_node
distinct_put t [] other apart = (tt, tt)
distinct_put t (y ∷ ts) other apart = choice (ltb y.node t.node) (distinct_put t ts other.1 apart.1) (other_put y.node t ts (λ e. other.0 (sym e)) apart.0) where
  choice : (b : Bool) → AreDistinct (map (λ (x : Trace). x.node) (put_by_node t ts)) → IsOther y.node (put_by_node t ts) → AreDistinct (map (λ (x : Trace). x.node) (cond b (y ∷ put_by_node t ts) (t ∷ y ∷ ts)))
  choice true rest first = (first, rest)
  choice false rest first = (other, apart)

distinct_by_node : (ts : List Trace) → AreDistinct (map (λ t. t.node) ts) → AreDistinct (map (λ t. t.node) (by_node ts))
unfolding by_node
distinct_by_node [] apart = tt
distinct_by_node (t ∷ ts) apart = distinct_put t (by_node ts) (all_from (λ m. m ≡ t.node → ⊥) (map (λ (x : Trace). x.node) (by_node ts)) (λ m on e.
    let x = from_map (λ (x : Trace). x.node) m (by_node ts) on in
    all_at (λ k. k ≡ t.node → ⊥) (map (λ (y : Trace). y.node) ts) x.0.node apart.0 (in_map (λ (y : Trace). y.node) x.0 ts (from_by_node x.0 ts x.1.0)) (x.1.1 ∙ e))) (distinct_by_node ts apart.1)

-- ---- the world

module _ (verifies : Verifies) (listed : List RosterEntry) where
  nodes_of : (ts : List Trace) (cs : List Correct) → AreNodesOf verifies listed ts cs → map (λ c. c.node) cs ≡ map (λ t. t.node) ts
  nodes_of [] [] a = refl
  nodes_of [] (c ∷ cs) a = absurd a
  nodes_of (t ∷ ts) [] a = absurd a
  nodes_of (t ∷ ts) (c ∷ cs) ((J, (texts, (told, is))), a) = ap (λ (x : Correct). x.node ∷ map (λ (c : Correct). c.node) cs) is ∙ ap (λ (ns : List ℕ). t.node ∷ ns) (nodes_of ts cs a)

  -- the trace of a node, and its journal
  record IsTraced (ts : List Trace) (c : Correct) : Type 0 where
    pub trace : Trace
    pub on : IsIn trace ts
    pub journal : List Record
    pub texts : AreTextsOf (at_node verifies listed trace) journal trace.texts
    pub told : AreRightReads journal 0 trace.reads
    pub is : c ≡ traced_node trace journal

  traced : (ts : List Trace) (cs : List Correct) → AreNodesOf verifies listed ts cs → (c : Correct) → IsIn c cs → IsTraced ts c
  traced [] [] a c never = absurd never
  traced [] (d ∷ cs) a c on = absurd a
  traced (t ∷ ts) [] a c on = absurd a
  traced (t ∷ ts) (d ∷ cs) ((J, (texts, (told, is))), a) c (inl here) = record { trace = t; on = inl refl; journal = J; texts = texts; told = told; is = sym here ∙ is }
  traced (t ∷ ts) (d ∷ cs) (first, a) c (inr there) = let r = traced ts cs a c there in record { trace = r.trace; on = inr r.on; journal = r.journal; texts = r.texts; told = r.told; is = r.is }

  some_records : (J : List Record) (texts : List (List ℕ)) → texts ≡ map text_of_record J → (texts ≡ [] → ⊥) → is_empty J ≡ false
  some_records [] texts e some = absurd (some e)
  some_records (r ∷ J) texts e some = refl

  -- with distinct nodes of the roster, each of which has a record
  pub traced_is_world : (traces : List Trace) (W : World) → AreDistinct (map (λ t. t.node) traces) → ((t : Trace) → IsIn t traces → has_node listed t.node ≡ true) → ((t : Trace) → IsIn t traces → t.texts ≡ [] → ⊥) → AreTraced verifies listed traces W → IsWorld W
  traced_is_world traces W apart members some a = subst IsWorld (sym a.is) (record {
    distinct = subst (λ (ns : List ℕ). AreDistinct ns) (sym (nodes_of (by_node traces) a.nodes a.are)) (distinct_by_node traces apart);
    correct = λ c c_on.
        let r = traced (by_node traces) a.nodes a.are c c_on in
        let t_on = from_by_node r.trace traces r.on in
        let V : World = record { verifies = verifies; listed = listed; nodes = a.nodes; judged = [] } in
        subst (λ (x : Correct). IsCorrect V x) (sym r.is) (record {
          member = members r.trace t_on;
          lawful = r.texts.lawful;
          begun = some_records r.journal r.trace.texts r.texts.are (some r.trace t_on);
          reads = reads_are (at_node verifies listed r.trace) r.journal 0 r.trace.reads r.texts.lawful r.told;
          in_order = never_fall r.journal 0 r.trace.reads r.told;
        });
    formed = λ p never. absurd never;
    judged = λ p never. absurd never;
  })
