-- Where no two different texts have one hash, the reads that aren't exact are those that list an update of one of the
-- nodes that no node put.
use Rattle.std.proofs.Common.{◌≡◌, ℕ, ◌+◌, ◌==◌, Bool, true, false, not, ◌&&◌, cond, List, [], ◌∷◌, ◌++◌, length, map, Option, Some, None, refl, sym, ap, subst, ◌∙◌, append_assoc, inl, inr, length-append}
use Rattle.std.specs.Prelude.{slice_get, option_map, position}
use Rattle.std.specs.HashMap.{get}
use Rattle.std.specs.List.{list_any, position_from}
use Rattle.std.specs.Option.{option_map_or}
use Rattle.std.specs.Str.{bytes_eq}
use Rattle.std.proofs.lemmas.Bool.{both_ways, cases_Bool, eqb-true, eq-eqb, false_from_ne_true}
use Rattle.std.proofs.lemmas.Iterator.Adapters.{position_from-zero}
use Rattle.depot_base.specs.declared.update.Update.{Update}
use Rattle.depot_base.proofs.GeneralLaws.{same_test}
use Rattle.depot_model.specs.worlds.Audit.{wrong_found, reads_from, reads_of, is_exact, wrong_at, wrong}
use Rattle.depot_model.specs.worlds.Causality.{puts_of}
use Rattle.depot_model.specs.journals.Journal.{accepted}
use Rattle.depot_model.specs.lists.Lists.{IsIn, first, is_one_of}
use Rattle.depot_model.specs.texts.Texts.{id_of_update}
use Rattle.depot_model.specs.worlds.Traces.{AreRightReads, IsWorldOf}
use Rattle.depot_model.specs.worlds.World.{Shown, Read, Correct, World, IsWorld, writes_of}
use Rattle.depot_model.proofs.lists.Members.{any_from, any_to, in_map, from_map, in_right}
use Rattle.depot_laws.specs.OneText.{HaveOneText}
use Rattle.depot_laws.proofs.of_audits.AuditLaws.{apart_exact, exact_puts}
use Rattle.depot_laws.proofs.own_updates.Puts.{put_writer}
use Rattle.depot_laws.proofs.lists.Splits.{given_by, flat_gives}
use Rattle.depot_laws.proofs.of_worlds.Worlds.{giver_in, taken_in, write_from, one_node, one_write, journal_lawful}
use Rattle.depot_traces.specs.SeenTraces.{read_of, trace_of}
use Rattle.depot_traces.specs.declared.trace.Answered.{Answered}
use Rattle.depot_traces.specs.declared.trace.ReadTrace.{ReadTrace}
use Rattle.depot_traces.specs.declared.trace.Trace.{Trace}
use Rattle.depot_audit.specs.declared.met.Met.{Met}
use Rattle.depot_audit.specs.declared.met_updates.MetUpdate.{MetUpdate}
use Rattle.depot_audit.specs.Lookups.{nodes_in, is_unput_in, lists_unput, unput_in, first_unput}
use Rattle.depot_audit.specs.MetTexts.{ArePairs}
use Rattle.depot_audit.specs.Tables.{UpdateTable, AreMetUpdates}
use Rattle.depot_audit.specs.TracedWorlds.{world_records, IsMetIn}
use Rattle.depot_audit.proofs.ListLaws.{any_map, first_rows}
use Rattle.depot_audit.proofs.NodesOfTraces.{IsNodeOf, made, ids_are, accepted_of, given_in, nodes_are, told_by_traces, nodes_told}
use Rattle.depot_audit.proofs.TableLaws.{found_under, none_under}

-- ---- tests

none_passes : {X : Type 0} (test : X → Bool) (xs : List X) → list_any test xs ≡ false → (x : X) → IsIn x xs → test x ≡ false
none_passes test xs none x on = false_from_ne_true (test x) (λ e. both_ways (list_any test xs) none (any_from test x xs on e))

is_not : (b : Bool) → (b ≡ true → ⊥) → not b ≡ true
is_not true never = absurd (never refl)
is_not false never = refl

not_so : (b : Bool) → not b ≡ true → b ≡ false
not_so true e = absurd cc
not_so false e = refl

-- what isn't both, where the first is, isn't the second
put_is : (a b : Bool) → (a && not b) ≡ false → a ≡ true → b ≡ true
put_is true true e first = refl
put_is true false e first = absurd cc
put_is false b e first = absurd cc

-- where the second is, not the first and not the second aren't both
never_both : (a b : Bool) → (a ≡ true → b ≡ true) → (a && not b) ≡ false
never_both true true h = refl
never_both true false h = let never = h refl in absurd cc
never_both false b h = refl

-- one of the table, if something is under an id
record Stands (o : Option MetUpdate) : Type 0 where
  pub met : MetUpdate
  pub is : o ≡ Some met

stands : (o : Option MetUpdate) → (o ≡ None → ⊥) → Stands o
stands None some = absurd (some refl)
stands (Some x) some = record { met = x; is = refl }

module _ (W : World) (world : IsWorld W) (free : HaveOneText W) (table : UpdateTable) (apart : Bool) (met : AreMetUpdates (accepted (world_records W)) (puts_of (world_records W)) table apart) where
  -- the numbers of its nodes
  abbrev numbers : List ℕ
  numbers = map (λ c. c.node) W.nodes

  is_known : (u : Update) → IsIn u (writes_of W) → IsIn u (accepted (world_records W))
  is_known u on = subst (λ (us : List Update). IsIn u us) (sym (accepted_of W)) on

  -- a write is under its id
  record StandsUnder (u : Update) : Type 0 where
    pub found : MetUpdate
    pub is : get bytes_eq table (id_of_update u) ≡ Some found
    pub same : found.update ≡ u

  write_stands : (u : Update) → IsIn u (writes_of W) → StandsUnder u
  write_stands u on =
      let us = accepted (world_records W) in
      let s = stands (get bytes_eq table (id_of_update u)) (λ none. none_under id_of_update us (id_of_update u) (sym (met.first (id_of_update u)) ∙ ap (option_map (λ (x : MetUpdate). x.update)) none) u (is_known u on) refl) in
      let known = found_under id_of_update us (id_of_update u) s.met.update (sym (met.first (id_of_update u)) ∙ ap (option_map (λ (x : MetUpdate). x.update)) s.is) in
      record { found = s.met; is = s.is; same = one_write W world free s.met.update u (subst (λ (vs : List Update). IsIn s.met.update vs) (accepted_of W) known.0) on known.1 }

  unput_is : (u : Update) (s : StandsUnder u) → is_unput_in table numbers (id_of_update u) ≡ (is_one_of u.writer numbers && not s.found.put)
  unput_is u s =
      ap (λ (o : Option MetUpdate). option_map_or (λ (x : MetUpdate). is_one_of x.update.writer numbers && not x.put) o false) s.is
      ∙ ap (λ (v : Update). is_one_of v.writer numbers && not s.found.put) s.same

  node_of : (u : Update) → is_one_of u.writer numbers ≡ true → (d : Correct) × (IsIn d W.nodes × (u.writer ≡ d.node))
  node_of u e =
      let n = any_to (λ (m : ℕ). m == u.writer) numbers e in
      let d = from_map (λ (c : Correct). c.node) n.0 W.nodes n.1.0 in
      (d.0, (d.1.0, sym (eqb-true _ _ n.1.1) ∙ sym d.1.1))

  one_of : (u : Update) (d : Correct) → IsIn d W.nodes → u.writer ≡ d.node → is_one_of u.writer numbers ≡ true
  one_of u d d_on writer = any_from (λ (m : ℕ). m == u.writer) d.node numbers (in_map (λ (c : Correct). c.node) d W.nodes d_on) (eq-eqb d.node u.writer (sym writer))

  -- a node's put
  puts_in : (u : Update) (d : Correct) → IsIn d W.nodes → IsIn u (puts_of d.journal) → IsIn u (puts_of (world_records W))
  puts_in u d d_on on = subst (λ (us : List Update). IsIn u us) (sym (given_in _ W)) (flat_gives (λ (c : Correct). puts_of c.journal) u d W.nodes d_on on)

  put_of : (u : Update) (d : Correct) → IsIn d W.nodes → u.writer ≡ d.node → IsIn u (puts_of (world_records W)) → IsIn u (puts_of d.journal)
  put_of u d d_on writer on =
      let puts : Correct → List Update = λ c. puts_of c.journal in
      let g = given_by puts u W.nodes (subst (λ (us : List Update). IsIn u us) (given_in _ W) on) in
      let by_on = giver_in puts u W.nodes g in
      let number = put_writer _ g.by.journal u (journal_lawful W world g.by by_on) g.given in
      let same = one_node W world g.by d by_on d_on (sym number ∙ writer) in
      subst (λ (c : Correct). IsIn u (puts_of c.journal)) same g.given

  -- a write passes exactly where it isn't one of a node that didn't put it
  passes : (u : Update) → IsIn u (writes_of W) → ((d : Correct) → IsIn d W.nodes → u.writer ≡ d.node → IsIn u (puts_of d.journal)) → is_unput_in table numbers (id_of_update u) ≡ false
  passes u on puts =
      let s = write_stands u on in
      unput_is u s ∙ never_both (is_one_of u.writer numbers) s.found.put (λ e.
      let d = node_of u e in
      (met.put (id_of_update u) s.found s.is).1 (subst (λ (v : Update). IsIn v (puts_of (world_records W))) (sym s.same) (puts_in u d.0 d.1.0 (puts d.0 d.1.0 d.1.1))))

  passed : (u : Update) (d : Correct) → IsIn u (writes_of W) → IsIn d W.nodes → u.writer ≡ d.node → is_unput_in table numbers (id_of_update u) ≡ false → IsIn u (puts_of d.journal)
  passed u d on d_on writer e =
      let s = write_stands u on in
      let put : s.found.put ≡ true = put_is (is_one_of u.writer numbers) s.found.put (sym (unput_is u s) ∙ e) (one_of u d d_on writer) in
      put_of u d d_on writer (subst (λ (v : Update). IsIn v (puts_of (world_records W))) s.same ((met.put (id_of_update u) s.found s.is).0 put))

  -- ---- one read

  module _ (c : Correct) (c_on : IsIn c W.nodes) where
    shown_write : (r : Read) (s : Shown) → IsIn r c.reads → IsIn s r.answer → IsIn s.update (writes_of W)
    shown_write r s r_on on =
        let read = (world.correct c c_on).reads r r_on in
        let known = (read.latest.only s.update (in_map (λ (x : Shown). x.update) s r.answer on)).known in
        write_from W c s.update c_on (taken_in _ s.update r.at c.journal known)

    lists_is : (place : ℕ) (r : Read) (q : ReadTrace) → IsIn r c.reads → slice_get c.reads place ≡ Some r → map (λ a. a.id) q.answer ≡ map (λ (s : Shown). id_of_update s.update) r.answer
        → lists_unput table numbers q ≡ not (is_exact W c place r)
    lists_is place r q r_on at ids =
        let unput : Shown → Bool = λ s. is_unput_in table numbers (id_of_update s.update) in
        let told : lists_unput table numbers q ≡ list_any unput r.answer =
        sym (any_map (is_unput_in table numbers) (λ (a : Answered). a.id) q.answer) ∙ ap (list_any (is_unput_in table numbers)) ids ∙ any_map (is_unput_in table numbers) (λ (s : Shown). id_of_update s.update) r.answer in
        told ∙ same_test (list_any unput r.answer) (not (is_exact W c place r))
        (λ e.
        let s = any_to unput r.answer e in
        is_not (is_exact W c place r) (λ exact. both_ways (unput s.0) (passes s.0.update (shown_write r s.0 r_on s.1.0) (λ d d_on writer. exact_puts W world c place r c_on at exact s.0 d s.1.0 d_on writer)) s.1.1))
        (λ e. elim (cases_Bool (list_any unput r.answer)) [
          | inl yes_ ↦ yes_
          | inr none ↦ absurd (both_ways (is_exact W c place r) (not_so (is_exact W c place r) e) (apart_exact W world free c place r c_on at (λ s d on d_on writer.
              passed s.update d (shown_write r s r_on on) d_on writer (none_passes unput r.answer none s on))))
        ])

    -- ---- the reads of a node

    -- from a place on, a read of the trace lists such a write just where it is wrong
    abbrev AreAlike : ℕ → List Read → List ReadTrace → Type 0
    AreAlike n [] [] = Unit {0}
    AreAlike n [] (q ∷ qs) = ⊥
    AreAlike n (r ∷ rs) [] = ⊥
    AreAlike n (r ∷ rs) (q ∷ qs) = (lists_unput table numbers q ≡ not (is_exact W c n r)) × AreAlike (n + 1) rs qs

    row_is : (n : ℕ) (rs : List Read) (qs : List ReadTrace) → AreAlike n rs qs
        → first (map (wrong_at W) (reads_from c n rs)) ≡ option_map (λ place. wrong_found c.node place) (position_from (lists_unput table numbers) n qs)
    row_is n [] [] alike = refl
    row_is n [] (q ∷ qs) alike = absurd alike
    row_is n (r ∷ rs) [] alike = absurd alike
    row_is n (r ∷ rs) (q ∷ qs) alike = by_test (lists_unput table numbers q) (not (is_exact W c n r)) alike.0 (row_is (n + 1) rs qs alike.1) where
      by_test : (a b : Bool) → a ≡ b → first (map (wrong_at W) (reads_from c (n + 1) rs)) ≡ option_map (λ place. wrong_found c.node place) (position_from (lists_unput table numbers) (n + 1) qs)
          → first (cond b (Some (wrong_found c.node n)) None ∷ map (wrong_at W) (reads_from c (n + 1) rs)) ≡ option_map (λ place. wrong_found c.node place) (cond a (Some n) (position_from (lists_unput table numbers) (n + 1) qs))
      by_test true true e rest = refl
      by_test true false e rest = absurd cc
      by_test false true e rest = absurd cc
      by_test false false e rest = rest

    get_behind : (front : List Read) (r : Read) (rs : List Read) → slice_get (front ++ r ∷ rs) (length front) ≡ Some r
    get_behind [] r rs = refl
    get_behind (x ∷ front) r rs = get_behind front r rs

    alike : (front rs : List Read) (qs : List ReadTrace) (last : ℕ) → c.reads ≡ front ++ rs → rs ≡ map (made c.journal) qs → AreRightReads c.journal last (map read_of qs) → AreAlike (length front) rs qs
    alike front [] [] last whole is right = tt
    alike front [] (q ∷ qs) last whole is right = absurd cc
    alike front (r ∷ rs) [] last whole is right = absurd cc
    alike front (r ∷ rs) (q ∷ qs) last whole is right =
        let head : r ≡ made c.journal q = cc in
        let tail : rs ≡ map (made c.journal) qs = cc in
        let on : IsIn r c.reads = subst (λ (xs : List Read). IsIn r xs) (sym whole) (in_right r front (r ∷ rs) (inl refl)) in
        let at : slice_get c.reads (length front) ≡ Some r = ap (λ (xs : List Read). slice_get xs (length front)) whole ∙ get_behind front r rs in
        let ids : map (λ (a : Answered). a.id) q.answer ≡ map (λ (s : Shown). id_of_update s.update) r.answer = ids_are c.journal last q right.0 ∙ ap (λ (x : Read). map (λ (s : Shown). id_of_update s.update) x.answer) (sym head) in (
          lists_is (length front) r q on at ids,
          subst (λ (n : ℕ). AreAlike n rs qs) (length-append front (r ∷ []))
              (alike (front ++ r ∷ []) rs qs q.length (whole ∙ sym (append_assoc front (r ∷ []) rs)) tail right.1),
        )

    node_row : (t : Trace) → IsNodeOf W.verifies W.listed c t → first (map (wrong_at W) (reads_of c)) ≡ unput_in table numbers t
    node_row t n =
        row_is 0 c.reads t.reads (alike [] c.reads t.reads 0 refl n.reads n.right)
        ∙ ap (option_map (λ place. wrong_found c.node place)) (sym (position_from-zero (lists_unput table numbers) t.reads))
        ∙ ap (λ (m : ℕ). option_map (λ place. wrong_found m place) (position (lists_unput table numbers) t.reads)) n.node

  -- ---- the reads of all

  node_rows : (cs : List Correct) (ts : List Trace) → ((c : Correct) → IsIn c cs → IsIn c W.nodes) → ArePairs (IsNodeOf W.verifies W.listed) cs ts
      → ArePairs (λ c t. first (map (wrong_at W) (reads_of c)) ≡ unput_in table numbers t) cs ts
  node_rows [] [] on pairs = tt
  node_rows [] (t ∷ ts) on pairs = absurd pairs
  node_rows (c ∷ cs) [] on pairs = absurd pairs
  node_rows (c ∷ cs) (t ∷ ts) on pairs = (node_row c (on c (inl refl)) t pairs.0, node_rows cs ts (λ d d_on. on d (inr d_on)) pairs.1)

  pub wrong_is : (ts : List Trace) → ArePairs (IsNodeOf W.verifies W.listed) W.nodes ts → first_unput table (nodes_in ts) ts ≡ wrong W
  unfolding wrong
  wrong_is ts pairs =
      ap (λ (ns : List ℕ). first_unput table ns ts) (sym (nodes_told W.nodes ts (told_by_traces W.verifies W.listed W.nodes ts pairs)))
      ∙ sym (first_rows (wrong_at W) reads_of (unput_in table numbers) W.nodes ts (node_rows W.nodes ts (λ c on. on) pairs))

pub wrong_in : (W : World) (ts : List Trace) (met : Met) → IsWorldOf (map trace_of ts) W → IsMetIn W met → HaveOneText W → first_unput met.updates.table (nodes_in ts) ts ≡ wrong W
wrong_in W ts met of m free = wrong_is W of.is_world free met.updates.table met.updates.apart m.updates ts (nodes_are W.verifies W.listed ts W.nodes of.nodes)
