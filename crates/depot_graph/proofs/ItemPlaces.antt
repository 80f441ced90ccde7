-- Updates by their places in a list.
use Rattle.std.proofs.Common.{◌≡◌, ℕ, suc, ◌+◌, ◌<◌, nat_lt, subst, Bool, true, false, cond, not, List, [], ◌∷◌, length, get_or, Some, None, refl, ap, ◌∙◌, arith, inl, inr}
use Rattle.std.specs.Prelude.{slice_get, position}
use Rattle.std.specs.List.{AllByRecursion, position_or_len}
use Rattle.std.specs.Str.{bytes_eq}
use Rattle.std.proofs.lemmas.Bool.{lt-ltb, ltb-true, ltb-false}
use Rattle.std.proofs.lemmas.Option.{slice_get-get_or, slice_get_within}
use Rattle.std.proofs.lemmas.List.Quantifiers.{position-Some}
use Rattle.std.proofs.lemmas.Slice.Eq.{bytes_eq-Decides}
use Rattle.depot_base.specs.declared.update.Update.{Update}
use Rattle.depot_model.specs.lists.Lists.{IsIn}
use Rattle.depot_model.specs.texts.Texts.{id_of_update}
use Rattle.depot_model.specs.updates.Order.{IsCausal}
use Rattle.depot_model.specs.lists.Items.{place_of_id, AreItemsOf}
use Rattle.depot_model.proofs.lists.Elements.{in_at}
use Rattle.depot_graph.specs.OrderLaws.{one_place}

-- ---- the first that passes a test

found_at : {X : Type 0} (test : X → Bool) (xs : List X) (n : ℕ) → position test xs ≡ Some n → (x : X) × ((slice_get xs n ≡ Some x) × (test x ≡ true))
found_at test [] n e = absurd cc
found_at test (y ∷ ys) n e = let p = position-Some test (y ∷ ys) n y e in (get_or (y ∷ ys) n y, (slice_get-get_or (y ∷ ys) n y p.0, p.1))

passes_within : {X : Type 0} (test : X → Bool) (xs : List X) (x : X) → IsIn x xs → test x ≡ true → position_or_len test xs < length xs
passes_within test [] x never e = absurd never
passes_within test (y ∷ ys) x on e = by_test (test y) refl (λ there. passes_within test ys x there e) where
  by_test : (b : Bool) → test y ≡ b → (IsIn x ys → position_or_len test ys < length ys) → cond (not b) (1 + position_or_len test ys) 0 < suc (length ys)
  by_test true is later = omega arith
  by_test false is later = elim on [
    | inl here ↦ let passes : test y ≡ true = ap test here ∙ e in absurd cc
    | inr there ↦ omega (arith, later there)
  ]

first_place : {X : Type 0} (test : X → Bool) (xs : List X) (x : X) → IsIn x xs → test x ≡ true → position test xs ≡ Some (position_or_len test xs)
first_place test xs x on e = let lt = passes_within test xs x on e in rw (lt-ltb _ _ lt) refl

-- ---- the place of an id

-- what is at the place of an id has it
pub has_place : (h : List ℕ) (us : List Update) (n : ℕ) → place_of_id h us ≡ Some n → (t : Update) × ((slice_get us n ≡ Some t) × (id_of_update t ≡ h))
has_place h us n e = let f = found_at (λ u. bytes_eq (id_of_update u) h) us n e in (f.0, (f.1.0, (bytes_eq-Decides (id_of_update f.0) h).0 f.1.1))

-- an id without a place is that of none
pub has_no_place : (h : List ℕ) (us : List Update) (u : Update) → place_of_id h us ≡ None → IsIn u us → id_of_update u ≡ h → ⊥
has_no_place h us u e on same =
    let there = first_place (λ u. bytes_eq (id_of_update u) h) us u on ((bytes_eq-Decides (id_of_update u) h).1 same) in
    absurd cc

-- the place of an update's own id is where it is
pub own_place : (us : List Update) (n : ℕ) (t : Update) → IsCausal [] us → slice_get us n ≡ Some t → place_of_id (id_of_update t) us ≡ Some n
own_place us n t c at =
    let place = first_place (λ u. bytes_eq (id_of_update u) (id_of_update t)) us t (in_at us n t at) ((bytes_eq-Decides (id_of_update t) (id_of_update t)).1 refl) in
    let f = has_place (id_of_update t) us (position_or_len (λ u. bytes_eq (id_of_update u) (id_of_update t)) us) place in
    place ∙ ap (λ (k : ℕ). Some k) (one_place [] us (position_or_len (λ u. bytes_eq (id_of_update u) (id_of_update t)) us) n f.0 t c f.1.0 at f.1.1)

-- ---- lists by index

-- one of a list is what some index gives
pub index_of : {X : Type 0} (x d : X) (xs : List X) → IsIn x xs → (j : ℕ) × ((j < length xs) × (get_or xs j d ≡ x))
index_of x d [] never = absurd never
index_of x d (y ∷ ys) (inl here) = (0, (omega arith, here))
index_of x d (y ∷ ys) (inr there) = let p = index_of x d ys there in (suc p.0, (omega (arith, p.1.0), p.1.1))

-- what holds below an index and at it holds below the next
pub below_more : (P : ℕ → Type 0) (i : ℕ) → ((j : ℕ) → j < i → P j) → P i → (j : ℕ) → j < i + 1 → P j
below_more P i below here j lt = by_test (nat_lt j i) refl where
  by_test : (b : Bool) → nat_lt j i ≡ b → P j
  by_test true is = below j (ltb-true j i is)
  by_test false is = let same : i ≡ j = omega (arith, lt, ltb-false j i is) in subst P same here

-- places are places of the list
pub places_within : (us : List Update) (hs : List (List ℕ)) (ns : List ℕ) → AreItemsOf us hs ns → AllByRecursion (λ n. n < length us) ns
places_within us [] [] e = tt
places_within us [] (n ∷ ns) e = absurd cc
places_within us (h ∷ hs) [] e = absurd cc
places_within us (h ∷ hs) (n ∷ ns) e =
    let place : place_of_id h us ≡ Some n = cc in
    let rest : AreItemsOf us hs ns = cc in
    let p = has_place h us n place in
    (slice_get_within us n p.0 p.1.0, places_within us hs ns rest)
