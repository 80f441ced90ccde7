-- The first that passes a test, and the first of some options, where there is none.
use Rattle.std.proofs.Common.{◌≡◌, ℕ, ◌+◌, Bool, true, false, cond, List, [], ◌∷◌, map, Option, Some, None, refl, sym, ap, ◌∙◌, inl, inr, ◌⊎◌}
use Rattle.std.specs.Prelude.{find, option_map, position}
use Rattle.std.specs.List.{position_from}
use Rattle.std.proofs.lemmas.Iterator.Adapters.{position_from-zero}
use Rattle.depot_model.specs.lists.Lists.{IsIn, first, when}

-- ---- the first that passes

-- none passes where each fails
pub none_from : {X : Type 0} (test : X → Bool) (xs : List X) → ((x : X) → IsIn x xs → test x ≡ false) → find test xs ≡ None
none_from test [] each = refl
none_from test (x ∷ xs) each = skipped (test x) (each x (inl refl)) (none_from test xs (λ y on. each y (inr on))) where
  skipped : (b : Bool) → b ≡ false → find test xs ≡ None → cond b (Some x) (find test xs) ≡ None
  skipped true is rest = absurd cc
  skipped false is rest = rest

-- each fails where none passes
pub none_to : {X : Type 0} (test : X → Bool) (xs : List X) → find test xs ≡ None → (x : X) → IsIn x xs → test x ≡ false
none_to test [] e x never = absurd never
none_to test (y ∷ ys) e x on = by_test (test y) refl e on (λ later there. none_to test ys later x there) where
  by_test : (b : Bool) → test y ≡ b → cond b (Some y) (find test ys) ≡ None → (y ≡ x) ⊎ IsIn x ys → (find test ys ≡ None → IsIn x ys → test x ≡ false) → test x ≡ false
  by_test true is e on later = absurd cc
  by_test false is e (inl here) later = ap test (sym here) ∙ is
  by_test false is e (inr there) later = later e there

-- ---- the first place

place_none_from : {X : Type 0} (test : X → Bool) (n : ℕ) (xs : List X) → ((x : X) → IsIn x xs → test x ≡ false) → position_from test n xs ≡ None
place_none_from test n [] each = refl
place_none_from test n (x ∷ xs) each = skipped (test x) (each x (inl refl)) (place_none_from test (n + 1) xs (λ y on. each y (inr on))) where
  skipped : (b : Bool) → b ≡ false → position_from test (n + 1) xs ≡ None → cond b (Some n) (position_from test (n + 1) xs) ≡ None
  skipped true is rest = absurd cc
  skipped false is rest = rest

place_none_to : {X : Type 0} (test : X → Bool) (n : ℕ) (xs : List X) → position_from test n xs ≡ None → (x : X) → IsIn x xs → test x ≡ false
place_none_to test n [] e x never = absurd never
place_none_to test n (y ∷ ys) e x on = by_test (test y) refl e on (λ later there. place_none_to test (n + 1) ys later x there) where
  by_test : (b : Bool) → test y ≡ b → cond b (Some n) (position_from test (n + 1) ys) ≡ None → (y ≡ x) ⊎ IsIn x ys → (position_from test (n + 1) ys ≡ None → IsIn x ys → test x ≡ false) → test x ≡ false
  by_test true is e on later = absurd cc
  by_test false is e (inl here) later = ap test (sym here) ∙ is
  by_test false is e (inr there) later = later e there

-- no place passes where each fails
pub no_place_from : {X : Type 0} (test : X → Bool) (xs : List X) → ((x : X) → IsIn x xs → test x ≡ false) → position test xs ≡ None
no_place_from test xs each = position_from-zero test xs ∙ place_none_from test 0 xs each

-- and the other way
pub no_place_to : {X : Type 0} (test : X → Bool) (xs : List X) → position test xs ≡ None → (x : X) → IsIn x xs → test x ≡ false
no_place_to test xs e x on = place_none_to test 0 xs (sym (position_from-zero test xs) ∙ e) x on

-- ---- options

-- nothing is made of nothing
pub map_none : {X Y : Type 0} (f : X → Y) (o : Option X) → o ≡ None → option_map f o ≡ None
map_none f None e = refl
map_none f (Some x) e = absurd cc

pub none_of_map : {X Y : Type 0} (f : X → Y) (o : Option X) → option_map f o ≡ None → o ≡ None
none_of_map f None e = refl
none_of_map f (Some x) e = absurd cc

-- a test that fails shows nothing
pub when_false : {X : Type 0} (b : Bool) (x : X) → b ≡ false → when b x ≡ None
when_false true x e = absurd cc
when_false false x e = refl

pub when_none : {X : Type 0} (b : Bool) (x : X) → when b x ≡ None → b ≡ false
when_none true x e = absurd cc
when_none false x e = refl

-- where each gives none, none is the first
pub row_none : {X Y : Type 0} (f : X → Option Y) (xs : List X) → ((x : X) → IsIn x xs → f x ≡ None) → first (map f xs) ≡ None
row_none f [] each = refl
row_none f (x ∷ xs) each = skips (f x) (each x (inl refl)) (row_none f xs (λ y on. each y (inr on))) where
  skips : (o : Option _) → o ≡ None → first (map f xs) ≡ None → first (o ∷ map f xs) ≡ None
  skips None e rest = rest
  skips (Some y) e rest = absurd cc

-- and the other way
pub row_none_to : {X Y : Type 0} (f : X → Option Y) (xs : List X) → first (map f xs) ≡ None → (x : X) → IsIn x xs → f x ≡ None
row_none_to f [] e x never = absurd never
row_none_to f (y ∷ ys) e x on = by_option (f y) refl e on (λ later there. row_none_to f ys later x there) where
  by_option : (o : Option _) → f y ≡ o → first (o ∷ map f ys) ≡ None → (y ≡ x) ⊎ IsIn x ys → (first (map f ys) ≡ None → IsIn x ys → f x ≡ None) → f x ≡ None
  by_option (Some z) is e on later = absurd cc
  by_option None is e (inl here) later = ap f (sym here) ∙ is
  by_option None is e (inr there) later = later e there
