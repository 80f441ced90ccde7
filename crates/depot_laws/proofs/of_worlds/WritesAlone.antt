-- An audit may look at writes alone: observation among them is the closure of parents over all writes; a read observes
-- what its records accepted and what precedes that; and the least operation that is observed before itself is a write.
use Rattle.std.proofs.Common.{◌≡◌, ℕ, ◌+◌, ◌||◌, Bool, true, false, cond, List, [], ◌∷◌, ◌++◌, take, map, Option, Some, None, refl, sym, ap, subst, ◌∙◌, inl, inr, slice_get}
use Rattle.std.specs.Prelude.{find, option_map}
use Rattle.std.specs.List.{flat_map}
use Rattle.std.proofs.lemmas.Bool.{or_cases, or_left, or_right, both_ways, false_from_ne_true}
use Rattle.depot_base.specs.declared.update.Update.{Update}
use Rattle.depot_model.specs.lists.Lists.{IsIn}
use Rattle.depot_model.specs.texts.Texts.{id_of_update}
use Rattle.depot_model.specs.updates.Order.{IsPath, IsParent, Precedes, parents}
use Rattle.depot_model.specs.journals.Journal.{accepted, accepted_by}
use Rattle.depot_model.specs.worlds.World.{Read, Correct, World, IsWorld, writes_of}
use Rattle.depot_model.specs.worlds.Causality.{Operation, write, read_at, ObservedBefore}
use Rattle.depot_model.proofs.lists.Members.{in_map, any_from, any_to, among_from, among_to}
use Rattle.depot_model.proofs.of_updates.Orders.{precedes_from}
use Rattle.depot_laws.proofs.lists.Splits.{given_by}
use Rattle.depot_laws.proofs.of_worlds.Worlds.{taken_in, write_from, write_fits}
use Rattle.depot_model.specs.worlds.Audit.{circle_found, same_body, reads_from, reads_of, writes_once, operations, is_parent, IsEdge, observed, op_of, circle, observed_by_parents, observed_by_read}
use Rattle.depot_laws.proofs.orders.SameBodies.{body_is, body_from}
use Rattle.depot_laws.proofs.orders.ClosedPaths.{closed_from, closed_to}
use Rattle.depot_laws.proofs.of_worlds.ObservedTests.{once_to, once_from, read_on, observed_from, observed_to}
use Rattle.depot_laws.proofs.of_worlds.ByParents.{writes_to, writes_from, read_to, read_from, read_circle}
use Rattle.depot_laws.proofs.lists.FirstOfRow.{none_from, none_to}

-- two tests that pass together are one
one_test : (a b : Bool) → (a ≡ true → b ≡ true) → (b ≡ true → a ≡ true) → a ≡ b
one_test true b to back = sym (to refl)
one_test false true to back = back refl
one_test false false to back = refl

-- ---- the first that passes

same_find : {X : Type 0} (f g : X → Bool) (xs : List X) → ((x : X) → IsIn x xs → f x ≡ g x) → find f xs ≡ find g xs
same_find f g [] each = refl
same_find f g (x ∷ xs) each = step (f x) (g x) (each x (inl refl)) (same_find f g xs (λ y on. each y (inr on))) where
  step : (a b : Bool) → a ≡ b → find f xs ≡ find g xs → cond a (Some x) (find f xs) ≡ cond b (Some x) (find g xs)
  step a b e rest = ap (λ (c : Bool). cond c (Some x) (find f xs)) e ∙ ap (λ (o : Option _). cond b (Some x) o) rest

map_find : {X Y : Type 0} (g : X → Y) (test : Y → Bool) (xs : List X) → find test (map g xs) ≡ option_map g (find (λ x. test (g x)) xs)
map_find g test [] = refl
map_find g test (x ∷ xs) = step (test (g x)) (map_find g test xs) where
  step : (b : Bool) → find test (map g xs) ≡ option_map g (find (λ y. test (g y)) xs) → cond b (Some (g x)) (find test (map g xs)) ≡ option_map g (cond b (Some x) (find (λ y. test (g y)) xs))
  step true rest = refl
  step false rest = rest

front_find : {X : Type 0} (test : X → Bool) (xs ys : List X) → ((find test xs ≡ None) → find test ys ≡ None) → find test (xs ++ ys) ≡ find test xs
front_find test [] ys rest = rest refl
front_find test (x ∷ xs) ys rest = step (test x) rest (λ more. front_find test xs ys more) where
  step : (b : Bool) → (cond b (Some x) (find test xs) ≡ None → find test ys ≡ None) → ((find test xs ≡ None → find test ys ≡ None) → find test (xs ++ ys) ≡ find test xs) → cond b (Some x) (find test (xs ++ ys)) ≡ cond b (Some x) (find test xs)
  step true rest later = refl
  step false rest later = later rest

map_map : {X Y Z : Type 0} (f : X → Y) (g : Y → Z) (o : Option X) → option_map g (option_map f o) ≡ option_map (λ x. g (f x)) o
map_map f g None = refl
map_map f g (Some x) = refl

-- no write is one of the reads
not_read : (W : World) (u : Update) → IsIn (write u) (flat_map reads_of W.nodes) → ⊥
not_read W u on =
    let g = given_by reads_of (write u) W.nodes on in
    none_written g.by 0 g.by.reads u g.given where
      none_written : (c : Correct) (n : ℕ) (rs : List Read) (u : Update) → IsIn (write u) (reads_from c n rs) → ⊥
      none_written c n [] u never = never
      none_written c n (r ∷ rs) u (inl here) = cc
      none_written c n (r ∷ rs) u (inr there) = none_written c (n + 1) rs u there

module _ (W : World) (world : IsWorld W) where
  -- ---- paths of parents

  steps_to : (t : Update) (stops : List Update) (u : Update) → IsIn t (writes_of W) → ((x : Update) → IsIn x stops → IsIn x (writes_once W)) → IsIn u (writes_of W) → IsPath (IsEdge is_parent) t stops u → IsPath (IsParent (writes_of W)) t stops u
  steps_to t [] u t_on known u_on path = record { above = t_on; below = u_on; named = among_to (id_of_update t) (parents u) path }
  steps_to t (s ∷ stops) u t_on known u_on path =
      let s_on = once_to W world s (known s (inl refl)) in
      (record { above = t_on; below = s_on; named = among_to (id_of_update t) (parents s) path.0 }, steps_to s stops u s_on (λ x on. known x (inr on)) u_on path.1)

  steps_from : (t : Update) (stops : List Update) (u : Update) → IsPath (IsParent (writes_of W)) t stops u → IsPath (IsEdge is_parent) t stops u
  steps_from t [] u path = among_from (id_of_update t) (parents u) path.named
  steps_from t (s ∷ stops) u path = (among_from (id_of_update t) (parents s) path.0.named, steps_from s stops u path.1)

  stops_known : (t : Update) (stops : List Update) (u : Update) → IsPath (IsParent (writes_of W)) t stops u → (x : Update) → IsIn x stops → IsIn x (writes_once W)
  stops_known t [] u path x never = absurd never
  stops_known t (s ∷ stops) u path x (inl here) = subst (λ (y : Update). IsIn y (writes_once W)) here (once_from W world s path.0.below)
  stops_known t (s ∷ stops) u path x (inr there) = stops_known s stops u path.1 x there

  parents_to : (t u : Update) → IsIn t (writes_of W) → IsIn u (writes_of W) → observed_by_parents W t u ≡ true → Precedes (writes_of W) t u
  parents_to t u t_on u_on e = let p = closed_to is_parent (writes_once W) t u e in record { stops = p.stops; path = steps_to t p.stops u t_on p.known u_on p.path }

  parents_from : (t u : Update) → Precedes (writes_of W) t u → observed_by_parents W t u ≡ true
  parents_from t u p = closed_from is_parent (writes_once W) t u (record { stops = p.stops; known = stops_known t p.stops u p.path; path = steps_from t p.stops u p.path })

  -- ---- observation

  -- among writes
  pub writes_alone : (t u : Update) → IsIn t (writes_of W) → IsIn u (writes_of W) → observed W (write t) (write u) ≡ observed_by_parents W t u
  writes_alone t u t_on u_on = one_test _ _
      (λ e. parents_from t u (writes_to W world t u (observed_to W world (write t) (write u) t_on u_on e)))
      (λ e. observed_from W world (write t) (write u) (writes_from W world t u (parents_to t u t_on u_on e)))

  -- before a read
  pub reads_alone : (u : Update) (c : Correct) (place : ℕ) (r : Read) → IsIn u (writes_of W) → IsIn c W.nodes → slice_get c.reads place ≡ Some r → observed W (write u) (read_at c place r) ≡ observed_by_read W u c r
  reads_alone u c place r u_on c_on at = one_test _ _
      (λ e.
      let up = read_to W world u c place r (observed_to W world (write u) (read_at c place r) u_on (c_on, at) e) in
      any_from (λ (x : Update). same_body u x || observed_by_parents W u x) up.update (accepted (take r.at c.journal)) up.told (elim up.up [
        | inl same ↦ or_left _ _ (body_from u up.update same)
        | inr before ↦ or_right (same_body u up.update) _ (parents_from u up.update before)
      ]))
      (λ e.
      let x = any_to (λ (x : Update). same_body u x || observed_by_parents W u x) (accepted (take r.at c.journal)) e in
      let x_on = write_from W c x.0 c_on (taken_in accepted_by x.0 r.at c.journal x.1.0) in
      observed_from W world (write u) (read_at c place r) (read_from W world u c place r (c_on, at) (record {
        update = x.0;
        told = x.1.0;
        up = elim (or_cases (same_body u x.0) (observed_by_parents W u x.0) x.1.1) [
          | inl same ↦ inl (body_is u x.0 (write_fits W world u u_on) (write_fits W world x.0 x_on) same)
          | inr before ↦ inr (parents_to u x.0 u_on x_on before)
        ];
      })))

  -- ---- circles

  no_read_circle : find (λ o. observed W o o) (map (λ u. write u) (writes_once W)) ≡ None → (o : Operation) → IsIn o (flat_map reads_of W.nodes) → observed W o o ≡ false
  no_read_circle none o on = false_from_ne_true (observed W o o) (λ e. of_read o on (observed_to W world o o (read_on W o on) (read_on W o on) e)) where
    of_read : (o : Operation) → IsIn o (flat_map reads_of W.nodes) → ObservedBefore W o o → ⊥
    of_read (write u) on o = absurd (not_read W u on)
    of_read (read_at c place r) on o =
        let t = read_circle W world c place r o in
        let t_on = precedes_from (writes_of W) t.0 t.0 t.1 in
        both_ways (observed W (write t.0) (write t.0)) (none_to (λ o. observed W o o) (map (λ u. write u) (writes_once W)) none (write t.0) (in_map (λ u. write u) t.0 (writes_once W) (once_from W world t.0 t_on)))
        (observed_from W world (write t.0) (write t.0) (writes_from W world t.0 t.0 t.1))

  pub circle_alone : circle W ≡ option_map (λ u. circle_found (op_of W (write u))) (find (λ u. observed_by_parents W u u) (writes_once W))
  unfolding circle operations
  circle_alone =
      let ws = map (λ (u : Update). write u) (writes_once W) in
      let test : Operation → Bool = λ o. observed W o o in
      let front : find test (ws ++ flat_map reads_of W.nodes) ≡ find test ws = front_find test ws (flat_map reads_of W.nodes) (λ none. none_from test (flat_map reads_of W.nodes) (no_read_circle none)) in
      let written : find test ws ≡ option_map (λ (u : Update). write u) (find (λ (u : Update). test (write u)) (writes_once W)) = map_find (λ (u : Update). write u) test (writes_once W) in
      let same : find (λ (u : Update). test (write u)) (writes_once W) ≡ find (λ (u : Update). observed_by_parents W u u) (writes_once W) = same_find (λ (u : Update). test (write u)) (λ (u : Update). observed_by_parents W u u) (writes_once W) (λ u on. let u_on = once_to W world u on in writes_alone u u u_on u_on) in
      ap (option_map (λ o. circle_found (op_of W o))) (front ∙ written ∙ ap (option_map (λ (u : Update). write u)) same)
      ∙ map_map (λ (u : Update). write u) (λ o. circle_found (op_of W o)) (find (λ (u : Update). observed_by_parents W u u) (writes_once W))
