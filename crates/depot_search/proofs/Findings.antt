-- What the search finds is what the definitions find.
use Rattle.std.proofs.Common.{◌≡◌, ℕ, suc, ◌+◌, ◌==◌, ◌&&◌, ◌||◌, Bool, true, false, cond, not, List, [], ◌∷◌, ◌++◌, length, map, take, drop, Option, Some, None, refl, sym, ap, ◌∙◌, inl, inr, slice_get}
use Rattle.std.specs.Prelude.{find, option_map, option_and_then, unwrap_or}
use Rattle.std.specs.List.{flat_map, list_any, list_all}
use Rattle.std.proofs.lemmas.Bool.{both_ways}
use Rattle.depot_base.specs.declared.record.Record.{Record}
use Rattle.depot_base.specs.declared.update.Update.{Update}
use Rattle.depot_model.specs.worlds.Audit as audits
use Rattle.depot_model.specs.worlds.Audit.{is_body_in, writes_once, is_parent, closed, observed_by_parents, place_in, op_of, the_write, circle_found, wrong_found, circle, is_exact, reads_from, reads_of, wrong_at, wrong}
use Rattle.depot_model.specs.worlds.Causality.{write}
use Rattle.depot_model.specs.journals.Journal.{accepted, accepted_by}
use Rattle.depot_model.specs.lists.Lists.{IsIn, first, when}
use Rattle.depot_model.specs.worlds.ReadTests.{is_put_of}
use Rattle.depot_model.specs.worlds.World.{Shown, Read, Correct, World, IsWorld, writes_of}
use Rattle.depot_laws.proofs.lists.FirstOfRow.{none_of_map, no_place_to, row_none_to}
use Rattle.depot_laws.proofs.of_worlds.ObservedTests.{once_to}
use Rattle.depot_laws.proofs.orders.SameBodies.{body_in_from}
use Rattle.depot_laws.proofs.lists.Splits.{given_by}
use Rattle.depot_laws.proofs.of_worlds.Worlds.{write_to, giver_in}
use Rattle.depot_laws.proofs.of_worlds.WritesAlone.{circle_alone}
use Rattle.depot_search.proofs.Bodies.{journals_once}
use Rattle.depot_search.proofs.Journals.{AreReadsAs, AreOf}
use Rattle.depot_search.proofs.ReadLaws.{exact_is}
use Rattle.depot_search.proofs.Tables.{table_of, closes, own_is, get_place, drop_next}
use Rattle.depot_search.specs.Read.{is_put_in_each, is_exact_by, first_inexact, wrong_among}
use Rattle.depot_search.specs.Rows.{over_each, first_own}
use Rattle.depot_search.specs.Search.{op_among, circle_among, found_among}
use Rattle.depot_search.specs.Writes.{with_journals}
use Rattle.depot_search.specs.declared.journal.TracedJournal.{TracedJournal}
use Rattle.depot_traces.specs.SeenTraces.{finding_of}
use Rattle.depot_traces.specs.SeenTraces as seen
use Rattle.depot_traces.specs.declared.finding.Finding.{Finding}
use Rattle.depot_traces.specs.declared.finding.Finding.TheVariants.{Circle, Wrong}
use Rattle.depot_traces.specs.declared.finding.Op.{Op}
use Rattle.depot_traces.specs.declared.finding.Op.TheVariants.{Write}
use Rattle.depot_traces.specs.declared.trace.ReadTrace.{ReadTrace}

-- ---- options

and_then_twice : {X Y Z : Type 0} (f : X → Option Y) (g : Y → Option Z) (o : Option X) → option_and_then (λ x. option_and_then g (f x)) o ≡ option_and_then g (option_and_then f o)
and_then_twice f g None = refl
and_then_twice f g (Some x) = refl

map_first : {X Y : Type 0} (f : X → Y) (o : Option X) (os : List (Option X)) (ps : List (Option Y)) → option_map f (first os) ≡ first ps → option_map f (first (o ∷ os)) ≡ first (option_map f o ∷ ps)
map_first f None os ps rest = rest
map_first f (Some x) os ps rest = refl

same_first : {X : Type 0} (o p : Option X) (os ps : List (Option X)) → o ≡ p → first os ≡ first ps → first (o ∷ os) ≡ first (p ∷ ps)
same_first o p os ps e rest = ap (λ (q : Option _). first (q ∷ os)) e ∙ by_option p where
  by_option : (q : Option _) → first (q ∷ os) ≡ first (q ∷ ps)
  by_option None = rest
  by_option (Some x) = refl

found_in : {X : Type 0} (test : X → Bool) (xs : List X) (x : X) → find test xs ≡ Some x → IsIn x xs
found_in test [] x e = absurd cc
found_in test (y ∷ ys) x e = by_test (test y) e (found_in test ys x) where
  by_test : (b : Bool) → cond b (Some y) (find test ys) ≡ Some x → (find test ys ≡ Some x → IsIn x ys) → IsIn x (y ∷ ys)
  by_test true e rest = let same : y ≡ x = cc in inl same
  by_test false e rest = inr (rest e)

length_map : {X Y : Type 0} (f : X → Y) (xs : List X) → length (map f xs) ≡ length xs
length_map f [] = refl
length_map f (x ∷ xs) = ap (λ (n : ℕ). suc n) (length_map f xs)

-- ---- what journals say of a world

writes_are : (cs : List Correct) (js : List TracedJournal) → AreOf cs js → flat_map (λ (j : TracedJournal). accepted j.entries) js ≡ flat_map (λ (c : Correct). accepted c.journal) cs
writes_are [] [] of = refl
writes_are [] (j ∷ js) of = absurd of
writes_are (c ∷ cs) [] of = absurd of
writes_are (c ∷ cs) (j ∷ js) of = ap (λ (J : List Record). accepted J ++ flat_map (λ (k : TracedJournal). accepted k.entries) js) (sym of.0.journal) ∙ ap (λ (us : List Update). accepted c.journal ++ us) (writes_are cs js of.1)

pub once_is : (W : World) (js : List TracedJournal) → AreOf W.nodes js → with_journals [] js ≡ writes_once W
unfolding writes_once
once_is W js of = journals_once js ∙ ap (λ (us : List Update). audits.bodies_once us) (writes_are W.nodes js of)

puts_among : (key : List ℕ) (s : Shown) (cs : List Correct) (js : List TracedJournal) → AreOf cs js
    → list_all (λ d. not (s.update.writer == d.node) || list_any (is_put_of key s.update s.seen) d.journal) cs ≡ is_put_in_each js key s.update s.seen
puts_among key s [] [] of = refl
puts_among key s [] (j ∷ js) of = absurd of
puts_among key s (c ∷ cs) [] of = absurd of
puts_among key s (c ∷ cs) (j ∷ js) of =
    ap (λ (n : ℕ). (not (s.update.writer == n) || list_any (is_put_of key s.update s.seen) c.journal) && list_all (λ (d : Correct). not (s.update.writer == d.node) || list_any (is_put_of key s.update s.seen) d.journal) cs) of.0.node
    ∙ ap (λ (J : List Record). (not (s.update.writer == j.node) || list_any (is_put_of key s.update s.seen) J) && list_all (λ (d : Correct). not (s.update.writer == d.node) || list_any (is_put_of key s.update s.seen) d.journal) cs) of.0.journal
    ∙ ap (λ (b : Bool). (not (s.update.writer == j.node) || list_any (is_put_of key s.update s.seen) j.entries) && b) (puts_among key s cs js of.1)

-- the writes of journals, each body once, and the closed table of them
pub record IsMade (js : List TracedJournal) (vs : List Update) (rows : List (List Bool)) : Type 0 where
  pub writes : vs ≡ with_journals [] js
  pub table : rows ≡ over_each (table_of is_parent vs) (length vs)

-- ---- circles

abbrev ops_of : List Correct → Update → List (Option audits.Op)
ops_of cs u = map (λ c. option_map (λ place. the_write c.node place) (place_in c.journal u)) cs

op_at : (n m : ℕ) (J K : List Record) (u : Update) → n ≡ m → J ≡ K → option_map seen.op_of_trace (option_map (λ place. Write m place) (place_in K u)) ≡ option_map (λ place. the_write n place) (place_in J u)
op_at n m J K u e f = by_place (place_in K u) ∙ ap (λ (x : ℕ). option_map (λ place. the_write x place) (place_in K u)) (sym e) ∙ ap (λ (L : List Record). option_map (λ place. the_write n place) (place_in L u)) (sym f) where
  by_place : (o : Option ℕ) → option_map seen.op_of_trace (option_map (λ place. Write m place) o) ≡ option_map (λ place. the_write m place) o
  by_place None = refl
  by_place (Some place) = refl

ops_are : (u : Update) (cs : List Correct) (js : List TracedJournal) → AreOf cs js → option_map seen.op_of_trace (op_among js u) ≡ first (ops_of cs u)
ops_are u [] [] of = refl
ops_are u [] (j ∷ js) of = absurd of
ops_are u (c ∷ cs) [] of = absurd of
ops_are u (c ∷ cs) (j ∷ js) of =
    map_first seen.op_of_trace (option_map (λ place. Write j.node place) (place_in j.entries u)) (map (λ (k : TracedJournal). option_map (λ place. Write k.node place) (place_in k.entries u)) js) (ops_of cs u) (ops_are u cs js of.1)
    ∙ same_first _ _ (ops_of cs u) (ops_of cs u) (op_at c.node j.node c.journal j.entries u of.0.node of.0.journal) refl

op_there : (W : World) (u : Update) → IsIn u (writes_of W) → first (ops_of W.nodes u) ≡ None → ⊥
op_there W u on none =
    let w = write_to W u on in
    let r = given_by accepted_by u w.by.journal w.accepted in
    both_ways (is_body_in u (accepted_by r.by))
    (no_place_to (λ (x : Record). is_body_in u (accepted_by x)) w.by.journal (none_of_map (λ place. the_write w.by.node place) (place_in w.by.journal u) (row_none_to (λ (c : Correct). option_map (λ place. the_write c.node place) (place_in c.journal u)) W.nodes none w.by w.correct)) r.by (giver_in accepted_by u w.by.journal r))
    (body_in_from u (accepted_by r.by) r.given)

circle_at : (o : Option Op) (m : Option audits.Op) (d : audits.Op) → option_map seen.op_of_trace o ≡ m → (m ≡ None → ⊥) → option_map finding_of (option_map Circle o) ≡ Some (circle_found (unwrap_or m d))
circle_at None m d e there = absurd (there (sym e))
circle_at (Some p) m d e there = ap (λ (x : Option audits.Op). Some (circle_found (unwrap_or x d))) e

module _ (W : World) (world : IsWorld W) (js : List TracedJournal) (of : AreOf W.nodes js) where
  abbrev us : List Update
  us = writes_once W

  abbrev before : Update → Update → Bool
  before = observed_by_parents W

  circle_told : (o : Option Update) → ((u : Update) → o ≡ Some u → IsIn u us) → option_map finding_of (option_and_then (λ u. option_map Circle (op_among js u)) o) ≡ option_map (λ u. circle_found (op_of W (write u))) o
  circle_told None on = refl
  circle_told (Some u) on = circle_at (op_among js u) (first (ops_of W.nodes u)) (the_write 0 0) (ops_are u W.nodes js of) (op_there W u (once_to W world u (on u refl)))

  circle_law : option_map finding_of (circle_among js us (table_of before us)) ≡ circle W
  circle_law =
      ap (option_map finding_of) (and_then_twice (λ at. slice_get us at) (λ u. option_map Circle (op_among js u)) (first_own 0 (table_of before us))
      ∙ ap (option_and_then (λ u. option_map Circle (op_among js u))) (own_is before us))
      ∙ circle_told (find (λ u. before u u) us) (λ u e. found_in (λ u. before u u) us u e)
      ∙ sym (circle_alone W world)

  -- ---- reads

  -- the reads of a node from a place on
  reads_wrong : (c : Correct) → IsIn c W.nodes → (place : ℕ) (rs : List Read) (ts : List ReadTrace) → drop place c.reads ≡ rs → AreReadsAs rs ts → (more : List (Option audits.Finding))
      → first (map (wrong_at W) (reads_from c place rs) ++ more) ≡ first (option_map (λ n. wrong_found c.node n) (first_inexact js us (table_of before us) c.journal place ts) ∷ more)
  reads_wrong c on place [] [] at told more = refl
  reads_wrong c on place [] (t ∷ ts) at told more = absurd told
  reads_wrong c on place (r ∷ rs) [] at told more = absurd told
  reads_wrong c on place (r ∷ rs) (t ∷ ts) at told more =
      by_test (is_exact W c place r) (is_exact_by js us (table_of before us) (take t.length c.journal) t)
      (exact_is W world js (λ key s. puts_among key s W.nodes js of) c place r t (record { on = on; at = get_place place c.reads r rs at; length = told.0.length; key = told.0.key; answer = told.0.answer })
      ∙ ap (λ (n : ℕ). is_exact_by js us (table_of before us) (take n c.journal) t) told.0.length)
      (reads_wrong c on (place + 1) rs ts (drop_next place c.reads r rs at) told.1 more) where
        by_test : (a b : Bool) → a ≡ b
            → first (map (wrong_at W) (reads_from c (place + 1) rs) ++ more) ≡ first (option_map (λ n. wrong_found c.node n) (first_inexact js us (table_of before us) c.journal (place + 1) ts) ∷ more)
            → first (when (not a) (wrong_found c.node place) ∷ (map (wrong_at W) (reads_from c (place + 1) rs) ++ more))
            ≡ first (option_map (λ n. wrong_found c.node n) (cond b (first_inexact js us (table_of before us) c.journal (place + 1) ts) (Some place)) ∷ more)
        by_test true true e rest = rest
        by_test true false e rest = absurd cc
        by_test false true e rest = absurd cc
        by_test false false e rest = refl

  map_parts : {X Y : Type 0} (f : X → Y) (xs ys : List X) → map f (xs ++ ys) ≡ map f xs ++ map f ys
  map_parts f [] ys = refl
  map_parts f (x ∷ xs) ys = ap (λ (zs : List _). f x ∷ zs) (map_parts f xs ys)

  wrong_map : (n : ℕ) (o : Option ℕ) → option_map finding_of (option_map (λ place. Wrong n place) o) ≡ option_map (λ place. wrong_found n place) o
  wrong_map n None = refl
  wrong_map n (Some place) = refl

  all_wrong : (cs : List Correct) (ks : List TracedJournal) → ((c : Correct) → IsIn c cs → IsIn c W.nodes) → AreOf cs ks → first (map (wrong_at W) (flat_map reads_of cs)) ≡ option_map finding_of (wrong_among js us (table_of before us) ks)
  all_wrong [] [] on a = refl
  all_wrong [] (k ∷ ks) on a = absurd a
  all_wrong (c ∷ cs) [] on a = absurd a
  all_wrong (c ∷ cs) (k ∷ ks) on a =
      let rest = map (wrong_at W) (flat_map reads_of cs) in
      let rows = table_of before us in
      ap first (map_parts (wrong_at W) (reads_of c) (flat_map reads_of cs))
      ∙ reads_wrong c (on c (inl refl)) 0 c.reads k.reads.now refl a.0.reads rest
      ∙ ap (λ (J : List Record). first (option_map (λ n. wrong_found c.node n) (first_inexact js us rows J 0 k.reads.now) ∷ rest)) a.0.journal
      ∙ ap (λ (m : ℕ). first (option_map (λ n. wrong_found m n) (first_inexact js us rows k.entries 0 k.reads.now) ∷ rest)) a.0.node
      ∙ sym (map_first finding_of (option_map (λ place. Wrong k.node place) (first_inexact js us rows k.entries 0 k.reads.now)) (map (λ (j : TracedJournal). option_map (λ place. Wrong j.node place) (first_inexact js us rows j.entries 0 j.reads.now)) ks) rest (sym (all_wrong cs ks (λ d d_on. on d (inr d_on)) a.1))
      ∙ ap (λ (o : Option audits.Finding). first (o ∷ rest)) (wrong_map k.node (first_inexact js us rows k.entries 0 k.reads.now)))

  wrong_law : option_map finding_of (wrong_among js us (table_of before us) js) ≡ wrong W
  unfolding wrong
  wrong_law = sym (all_wrong W.nodes js (λ c on. on) of)

  -- ---- over what the search makes

  table_law : (vs : List Update) (rows : List (List Bool)) → IsMade js vs rows → rows ≡ table_of before us
  table_law vs rows made = made.table ∙ closes is_parent vs ∙ ap (λ (xs : List Update). table_of (closed is_parent xs) xs) (made.writes ∙ once_is W js of)

  circle_is : (vs : List Update) (rows : List (List Bool)) → IsMade js vs rows → option_map finding_of (circle_among js vs rows) ≡ circle W
  circle_is vs rows made =
      ap (λ (table : List (List Bool)). option_map finding_of (circle_among js vs table)) (table_law vs rows made)
      ∙ ap (λ (xs : List Update). option_map finding_of (circle_among js xs (table_of before us))) (made.writes ∙ once_is W js of)
      ∙ circle_law

  wrong_is : (vs : List Update) (rows : List (List Bool)) → IsMade js vs rows → option_map finding_of (wrong_among js vs rows js) ≡ wrong W
  wrong_is vs rows made =
      ap (λ (table : List (List Bool)). option_map finding_of (wrong_among js vs table js)) (table_law vs rows made)
      ∙ ap (λ (xs : List Update). option_map finding_of (wrong_among js xs (table_of before us) js)) (made.writes ∙ once_is W js of)
      ∙ wrong_law

-- the table of the writes is closed
pub is_made : {Y : Type 0} (f : Y → List Bool) (js : List TracedJournal) (vs : List Update) (table : List Y) (rows : List (List Bool)) → vs ≡ with_journals [] js → map f table ≡ table_of is_parent vs → rows ≡ over_each (map f table) (length table) → IsMade js vs rows
is_made f js vs table rows writes first_rows closed_rows = record {
  writes = writes;
  table =
      closed_rows
      ∙ ap (λ (n : ℕ). over_each (map f table) n) (sym (length_map f table))
      ∙ ap (λ (q : List (List Bool)). over_each q (length q)) first_rows
      ∙ ap (λ (n : ℕ). over_each (table_of is_parent vs) n) (length_map (λ a. map (λ b. is_parent a b) vs) vs);
}

-- the first of two options, mapped
first_mapped : {X Y : Type 0} (f : X → Y) (a b : Option X) (c d : Option Y) → option_map f a ≡ c → option_map f b ≡ d → option_map f (first (a ∷ b ∷ [])) ≡ first (c ∷ d ∷ [])
first_mapped f a b c d e g =
    map_first f a (b ∷ []) (option_map f b ∷ []) (map_first f b [] [] refl)
    ∙ ap (λ (o : Option _). first (o ∷ option_map f b ∷ [])) e
    ∙ ap (λ (o : Option _). first (c ∷ o ∷ [])) g

-- in the world of the traces from which the journals were read it is what the definitions find
pub found_is : (W : World) → IsWorld W → (js : List TracedJournal) → AreOf W.nodes js → (vs : List Update) (rows : List (List Bool)) → IsMade js vs rows → option_map finding_of (found_among js vs rows) ≡ first (circle W ∷ wrong W ∷ [])
found_is W world js of vs rows made = first_mapped finding_of (circle_among js vs rows) (wrong_among js vs rows js) (circle W) (wrong W) (circle_is W world js of vs rows made) (wrong_is W world js of vs rows made)
