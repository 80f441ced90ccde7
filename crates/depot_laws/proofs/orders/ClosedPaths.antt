-- A closure by a list finds just the paths whose stops are of the list.
use Rattle.std.proofs.Common.{◌≡◌, Bool, true, List, [], ◌∷◌, ◌++◌, refl, sym, subst, inl, inr, ◌⊎◌}
use Rattle.std.proofs.lemmas.Bool.{or_cases, or_left, or_right, and_parts, and_from}
use Rattle.depot_model.specs.lists.Lists.{IsIn}
use Rattle.depot_model.specs.updates.Order.{IsPath}
use Rattle.depot_model.proofs.lists.Members.{in_parts}
use Rattle.depot_model.specs.worlds.Audit.{IsEdge, HasPath, closed}

module _ {X : Type 0} (edge : X → X → Bool) where
  -- an edge is a path
  edge_closed : (xs : List X) (a b : X) → edge a b ≡ true → closed edge xs a b ≡ true
  unfolding closed
  edge_closed [] a b e = e
  edge_closed (x ∷ xs) a b e = or_left _ _ (edge_closed xs a b e)

  through : (xs : List X) (x a b : X) → closed edge xs a x ≡ true → closed edge xs x b ≡ true → closed edge (x ∷ xs) a b ≡ true
  unfolding closed
  through xs x a b one two = or_right (closed edge xs a b) _ (and_from _ _ one two)

  -- what is found with one stop more
  parts : (xs : List X) (x a b : X) → closed edge (x ∷ xs) a b ≡ true → (closed edge xs a b ≡ true) ⊎ ((closed edge xs a x ≡ true) × (closed edge xs x b ≡ true))
  unfolding closed
  parts xs x a b e = elim (or_cases (closed edge xs a b) _ e) [ inl here ↦ inl here | inr both ↦ inr (and_parts _ _ both) ]

  wider : (xs : List X) (x a b : X) → closed edge xs a b ≡ true → closed edge (x ∷ xs) a b ≡ true
  unfolding closed
  wider xs x a b e = or_left _ _ e

  -- to the stop that is taken in, and from it, it isn't needed
  to_stop : (xs : List X) (x a : X) → closed edge (x ∷ xs) a x ≡ true → closed edge xs a x ≡ true
  to_stop xs x a e = elim (parts xs x a x e) [ inl one ↦ one | inr both ↦ both.0 ]

  from_stop : (xs : List X) (x b : X) → closed edge (x ∷ xs) x b ≡ true → closed edge xs x b ≡ true
  from_stop xs x b e = elim (parts xs x x b e) [ inl one ↦ one | inr both ↦ both.1 ]

  -- two paths that meet in one of the stops are one
  joined : (xs : List X) (a s b : X) → IsIn s xs → closed edge xs a s ≡ true → closed edge xs s b ≡ true → closed edge xs a b ≡ true
  joined [] a s b never one two = absurd never
  joined (x ∷ xs) a s b (inl here) one two =
      through xs x a b (to_stop xs x a (subst (λ (y : X). closed edge (x ∷ xs) a y ≡ true) (sym here) one)) (from_stop xs x b (subst (λ (y : X). closed edge (x ∷ xs) y b ≡ true) (sym here) two))
  joined (x ∷ xs) a s b (inr there) one two = elim (parts xs x a s one) [
    | inl a_s ↦ elim (parts xs x s b two) [
      | inl s_b ↦ wider xs x a b (joined xs a s b there a_s s_b)
      | inr s_x_b ↦ through xs x a b (joined xs a s x there a_s s_x_b.0) s_x_b.1
    ]
    | inr a_x_s ↦ elim (parts xs x s b two) [
      | inl s_b ↦ through xs x a b a_x_s.0 (joined xs x s b there a_x_s.1 s_b)
      | inr s_x_b ↦ through xs x a b a_x_s.0 s_x_b.1
    ]
  ]

  from_stops : (xs : List X) (a : X) (stops : List X) (b : X) → ((x : X) → IsIn x stops → IsIn x xs) → IsPath (IsEdge edge) a stops b → closed edge xs a b ≡ true
  from_stops xs a [] b known path = edge_closed xs a b path
  from_stops xs a (s ∷ stops) b known path = joined xs a s b (known s (inl refl)) (edge_closed xs a s path.0) (from_stops xs s stops b (λ x on. known x (inr on)) path.1)

  -- each path is found
  pub closed_from : (xs : List X) (a b : X) → HasPath edge xs a b → closed edge xs a b ≡ true
  closed_from xs a b p = from_stops xs a p.stops b p.known p.path

  both_paths : (a : X) (stops : List X) (x : X) (more : List X) (b : X) → IsPath (IsEdge edge) a stops x → IsPath (IsEdge edge) x more b → IsPath (IsEdge edge) a (stops ++ x ∷ more) b
  both_paths a [] x more b one two = (one, two)
  both_paths a (s ∷ stops) x more b one two = (one.0, both_paths s stops x more b one.1 two)

  one_edge : (a b : X) → closed edge [] a b ≡ true → edge a b ≡ true
  unfolding closed
  one_edge a b e = e

  -- and only paths are
  pub closed_to : (xs : List X) (a b : X) → closed edge xs a b ≡ true → HasPath edge xs a b
  closed_to [] a b e = record { stops = []; known = λ x never. never; path = one_edge a b e }
  closed_to (x ∷ xs) a b e = elim (parts xs x a b e) [
    | inl one ↦ let p = closed_to xs a b one in record { stops = p.stops; known = λ y on. inr (p.known y on); path = p.path }
    | inr both ↦
        let p = closed_to xs a x both.0 in
        let q = closed_to xs x b both.1 in
        record {
          stops = p.stops ++ x ∷ q.stops;
          known = λ y on. elim (in_parts y p.stops (x ∷ q.stops) on) [
            | inl before ↦ inr (p.known y before)
            | inr rest ↦ elim rest [ inl here ↦ inl here | inr after ↦ inr (q.known y after) ]
          ];
          path = both_paths a p.stops x q.stops b p.path q.path;
        }
  ]
