-- Observation as a test is observation.
use Rattle.std.proofs.Common.{◌≡◌, ℕ, suc, ◌+◌, ◌==◌, true, List, [], ◌∷◌, take, drop, map, Some, refl, sym, ap, subst, ◌∙◌, inl, inr, arith, slice_get, ltb, zero, lt-ltb, ltb-true, eq-eqb, eqb-true}
use Rattle.std.specs.List.{flat_map}
use Rattle.std.proofs.lemmas.Grind.{flat_map-append}
use Rattle.std.proofs.lemmas.List.{take-append-drop}
use Rattle.std.proofs.lemmas.Bool.{and_parts, and_from}
use Rattle.depot_base.specs.declared.update.Update.{Update}
use Rattle.depot_base.specs.declared.record.Record.{Record}
use Rattle.depot_model.specs.lists.Lists.{IsIn}
use Rattle.depot_model.specs.texts.Texts.{id_of_update}
use Rattle.depot_model.specs.updates.Order.{IsPath, parents}
use Rattle.depot_model.specs.journals.Journal.{accepted, accepted_by}
use Rattle.depot_model.specs.worlds.World.{Read, Correct, World, IsWorld, writes_of}
use Rattle.depot_model.specs.worlds.Causality.{Operation, write, read_at, IsOperation, puts_of, PrecedesDirectly, Edge, ObservedBefore}
use Rattle.depot_model.proofs.lists.Members.{in_left, in_right, in_parts, in_map, from_map, among_from, among_to}
use Rattle.depot_laws.proofs.lists.Splits.{flat_gives, given_by}
use Rattle.depot_laws.proofs.own_updates.Puts.{put_by, put_is_accepted}
use Rattle.depot_laws.proofs.of_worlds.Worlds.{taken_in, giver_in, write_from, write_fits, one_node}
use Rattle.depot_model.specs.worlds.Audit.{reads_from, reads_of, writes_once, operations, is_step, IsEdge, observed}
use Rattle.depot_laws.proofs.orders.SameBodies.{AllFit, body_in_from, body_in_to, from_bodies, into_bodies}
use Rattle.depot_laws.proofs.orders.ClosedPaths.{closed_from, closed_to}

-- ---- reads by their places

-- a read of a list that begins at a place
record IsReadFrom (c : Correct) (n : ℕ) (rs : List Read) (o : Operation) : Type 0 where
  pub place : ℕ
  pub read : Read
  pub at : slice_get rs place ≡ Some read
  pub is : o ≡ read_at c (n + place) read

read_place : (c : Correct) (m n : ℕ) (r : Read) → m ≡ n → read_at c m r ≡ read_at c n r
read_place c m n r same = ap (λ (k : ℕ). read_at c k r) same

reads_to : (c : Correct) (n : ℕ) (rs : List Read) (o : Operation) → IsIn o (reads_from c n rs) → IsReadFrom c n rs o
reads_to c n [] o never = absurd never
reads_to c n (r ∷ rs) o (inl here) = record { place = 0; read = r; at = refl; is = sym here ∙ read_place c n (n + 0) r (omega arith) }
reads_to c n (r ∷ rs) o (inr there) =
    let p = reads_to c (n + 1) rs o there in
    record { place = suc p.place; read = p.read; at = p.at; is = p.is ∙ read_place c ((n + 1) + p.place) (n + suc p.place) p.read (omega arith) }

reads_in : (c : Correct) (n : ℕ) (rs : List Read) (i : ℕ) (r : Read) → slice_get rs i ≡ Some r → IsIn (read_at c (n + i) r) (reads_from c n rs)
reads_in c n [] i r at = absurd cc
reads_in c n (x ∷ rs) zero r at = let same : x ≡ r = cc in inl (read_place c n (n + 0) x (omega arith) ∙ ap (λ (y : Read). read_at c (n + 0) y) same)
reads_in c n (x ∷ rs) (suc i) r at = inr (subst (λ (k : ℕ). IsIn (read_at c k r) (reads_from c (n + 1) rs)) (place_is n i) (reads_in c (n + 1) rs i r at)) where
  place_is : (n i : ℕ) → (n + 1) + i ≡ n + suc i
  place_is n i = omega arith

-- a read of a node at its place
pub read_of : (c : Correct) (place : ℕ) (r : Read) → slice_get c.reads place ≡ Some r → IsIn (read_at c place r) (reads_of c)
read_of c place r at = subst (λ (k : ℕ). IsIn (read_at c k r) (reads_of c)) (from_zero place) (reads_in c 0 c.reads place r at) where
  from_zero : (n : ℕ) → 0 + n ≡ n
  from_zero n = omega arith

-- what is one of the reads of the nodes is one of the world
pub read_on : (W : World) (o : Operation) → IsIn o (flat_map reads_of W.nodes) → IsOperation W o
read_on W o on =
    let g = given_by reads_of o W.nodes on in
    let p = reads_to g.by 0 g.by.reads o g.given in
    subst (λ (q : Operation). IsOperation W q) (sym p.is) (giver_in reads_of o W.nodes g, subst (λ (k : ℕ). slice_get g.by.reads k ≡ Some p.read) (from_zero p.place) p.at) where
      from_zero : (n : ℕ) → n ≡ 0 + n
      from_zero n = omega arith

-- ---- operations

module _ (W : World) (world : IsWorld W) where
  pub writes_fit : AllFit (writes_of W)
  writes_fit u on = write_fits W world u on

  pub once_to : (u : Update) → IsIn u (writes_once W) → IsIn u (writes_of W)
  unfolding writes_once
  once_to u on = from_bodies [] (writes_of W) u on

  pub once_from : (u : Update) → IsIn u (writes_of W) → IsIn u (writes_once W)
  unfolding writes_once
  once_from u on = elim (into_bodies [] (writes_of W) u (λ x never. absurd never) writes_fit on) [ inl never ↦ absurd never | inr there ↦ there ]

  -- the operations are those of the list
  pub in_operations : (o : Operation) → IsOperation W o → IsIn o (operations W)
  unfolding operations
  in_operations (write u) on = in_left (write u) (map (λ (x : Update). write x) (writes_once W)) (flat_map reads_of W.nodes) (in_map (λ (x : Update). write x) u (writes_once W) (once_from u on))
  in_operations (read_at c place r) on = in_right (read_at c place r) (map (λ (x : Update). write x) (writes_once W)) (flat_map reads_of W.nodes) (flat_gives reads_of (read_at c place r) c W.nodes on.0 (read_of c place r on.1))

  pub from_operations : (o : Operation) → IsIn o (operations W) → IsOperation W o
  unfolding operations
  from_operations o on = elim (in_parts o (map (λ (x : Update). write x) (writes_once W)) (flat_map reads_of W.nodes) on) [
    | inl written ↦ let u = from_map (λ (x : Update). write x) o (writes_once W) written in subst (λ (p : Operation). IsOperation W p) u.1.1 (once_to u.0 u.1.0)
    | inr read ↦ read_on W o read
  ]

  -- ---- steps

  pub taken_fit : (c : Correct) (n : ℕ) → IsIn c W.nodes → AllFit (accepted (take n c.journal))
  taken_fit c n c_on u on = writes_fit u (write_from W c u c_on (taken_in accepted_by u n c.journal on))

  pub dropped_in : (n : ℕ) (J : List Record) (u : Update) → IsIn u (puts_of (drop n J)) → IsIn u (puts_of J)
  dropped_in n J u on = subst (λ (K : List Record). IsIn u (puts_of K)) (take-append-drop n J) (subst (λ (us : List Update). IsIn u us) (sym (flat_map-append put_by (take n J) (drop n J))) (in_right u (puts_of (take n J)) (puts_of (drop n J)) on))

  pub dropped_fit : (c : Correct) (n : ℕ) → IsIn c W.nodes → AllFit (puts_of (drop n c.journal))
  dropped_fit c n c_on u on = writes_fit u (write_from W c u c_on (put_is_accepted u c.journal (dropped_in n c.journal u on)))

  step_to : (a b : Operation) → IsOperation W a → IsOperation W b → is_step a b ≡ true → PrecedesDirectly a b
  step_to (write t) (write u) t_on u_on e = among_to (id_of_update t) (parents u) e
  step_to (write u) (read_at c place r) u_on r_on e = body_in_to u (accepted (take r.at c.journal)) (writes_fit u u_on) (taken_fit c r.at r_on.0) e
  step_to (read_at c i r) (read_at d j s) r_on s_on e =
      let p = and_parts (c.node == d.node) (ltb i j) e in
      (one_node W world c d r_on.0 s_on.0 (eqb-true _ _ p.0), ltb-true _ _ p.1)
  step_to (read_at c place r) (write u) r_on u_on e = body_in_to u (puts_of (drop r.at c.journal)) (writes_fit u u_on) (dropped_fit c r.at r_on.0) e

  step_from : (a b : Operation) → PrecedesDirectly a b → is_step a b ≡ true
  step_from (write t) (write u) s = among_from (id_of_update t) (parents u) s
  step_from (write u) (read_at c place r) s = body_in_from u (accepted (take r.at c.journal)) s
  step_from (read_at c i r) (read_at d j s) p = and_from (c.node == d.node) (ltb i j) (eq-eqb _ _ (ap (λ (x : Correct). x.node) p.0)) (lt-ltb _ _ p.1)
  step_from (read_at c place r) (write u) s = body_in_from u (puts_of (drop r.at c.journal)) s

  -- ---- paths

  edges : (a : Operation) (stops : List Operation) (b : Operation) → IsOperation W a → ((o : Operation) → IsIn o stops → IsOperation W o) → IsOperation W b → IsPath (IsEdge is_step) a stops b → IsPath (Edge W) a stops b
  edges a [] b a_on known b_on path = record { above = a_on; below = b_on; step = step_to a b a_on b_on path }
  edges a (s ∷ stops) b a_on known b_on path =
      let s_on = known s (inl refl) in
      (record { above = a_on; below = s_on; step = step_to a s a_on s_on path.0 }, edges s stops b s_on (λ o on. known o (inr on)) b_on path.1)

  tests : (a : Operation) (stops : List Operation) (b : Operation) → IsPath (Edge W) a stops b → IsPath (IsEdge is_step) a stops b
  tests a [] b path = step_from a b path.step
  tests a (s ∷ stops) b path = (step_from a s path.0.step, tests s stops b path.1)

  stops_on : (a : Operation) (stops : List Operation) (b : Operation) → IsPath (Edge W) a stops b → (o : Operation) → IsIn o stops → IsIn o (operations W)
  stops_on a [] b path o never = absurd never
  stops_on a (s ∷ stops) b path o (inl here) = subst (λ (x : Operation). IsIn x (operations W)) here (in_operations s path.0.below)
  stops_on a (s ∷ stops) b path o (inr there) = stops_on s stops b path.1 o there

  -- the test passes where one is observed before the other
  pub observed_from : (a b : Operation) → ObservedBefore W a b → observed W a b ≡ true
  unfolding observed
  observed_from a b o = closed_from is_step (operations W) a b (record { stops = o.stops; known = stops_on a o.stops b o.path; path = tests a o.stops b o.path })

  -- and only there
  pub observed_to : (a b : Operation) → IsOperation W a → IsOperation W b → observed W a b ≡ true → ObservedBefore W a b
  unfolding observed
  observed_to a b a_on b_on e =
      let p = closed_to is_step (operations W) a b e in
      record { stops = p.stops; path = edges a p.stops b a_on (λ o on. from_operations o (p.known o on)) b_on p.path }

  first_on : (a : Operation) (stops : List Operation) (b : Operation) → IsPath (Edge W) a stops b → IsOperation W a
  first_on a [] b path = path.above
  first_on a (s ∷ stops) b path = path.0.above

  -- what is observed is an operation, and what it is observed before too
  pub observed_above : (a b : Operation) → ObservedBefore W a b → IsOperation W a
  observed_above a b o = first_on a o.stops b o.path
