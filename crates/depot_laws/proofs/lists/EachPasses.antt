-- Tests that each of a list passes, and tests of what there may be.
use Rattle.std.proofs.Common.{◌≡◌, Bool, true, List, [], ◌∷◌, refl, sym, ap, ◌∙◌, inl, inr}
use Rattle.std.specs.List.{AllByRecursion, list_all}
use Rattle.std.proofs.lemmas.Bool.{and_parts, and_from}
use Rattle.depot_model.specs.lists.Lists.{IsIn}

-- what each passes one passes
pub each_to : {X : Type 0} (test : X → Bool) (x : X) (xs : List X) → IsIn x xs → list_all test xs ≡ true → test x ≡ true
each_to test x [] never e = absurd never
each_to test x (y ∷ ys) (inl here) e = ap test (sym here) ∙ (and_parts (test y) (list_all test ys) e).0
each_to test x (y ∷ ys) (inr there) e = each_to test x ys there (and_parts (test y) (list_all test ys) e).1

-- and the other way
pub each_from : {X : Type 0} (test : X → Bool) (xs : List X) → ((x : X) → IsIn x xs → test x ≡ true) → list_all test xs ≡ true
each_from test [] each = refl
each_from test (y ∷ ys) each = and_from (test y) (list_all test ys) (each y (inl refl)) (each_from test ys (λ x on. each x (inr on)))

-- as a fact by cases
pub all_tests_to : {X : Type 0} (test : X → Bool) (xs : List X) → list_all test xs ≡ true → AllByRecursion (λ (x : X). test x ≡ true) xs
all_tests_to test [] e = tt
all_tests_to test (y ∷ ys) e = let p = and_parts (test y) (list_all test ys) e in (p.0, all_tests_to test ys p.1)

pub all_tests_from : {X : Type 0} (test : X → Bool) (xs : List X) → AllByRecursion (λ (x : X). test x ≡ true) xs → list_all test xs ≡ true
all_tests_from test [] all = refl
all_tests_from test (y ∷ ys) all = and_from (test y) (list_all test ys) all.0 (all_tests_from test ys all.1)
