-- Options in a row, and lists one after another.
use Rattle.std.proofs.Common.{◌≡◌, List, [], ◌∷◌, ◌++◌, Option, Some, None, refl}
use Rattle.std.specs.List.{AllByRecursion}
-- what a passed negation says
pub use Rattle.std.proofs.lemmas.Bool.{not-false as holds_from_not, not-true as fails_from_not}
use Rattle.depot_model.specs.lists.Lists.{first}

-- ---- options in a row

-- what holds of all of both holds of all of each
pub all_left : {X : Type 0} (P : X → Type 0) (xs ys : List X) → AllByRecursion P (xs ++ ys) → AllByRecursion P xs
all_left P [] ys all = tt
all_left P (x ∷ xs) ys all = (all.0, all_left P xs ys all.1)

pub all_right : {X : Type 0} (P : X → Type 0) (xs ys : List X) → AllByRecursion P (xs ++ ys) → AllByRecursion P ys
all_right P [] ys all = all
all_right P (x ∷ xs) ys all = all_right P xs ys all.1

-- where each is none, there is no first
pub first-none : {X : Type 0} (os : List (Option X)) → AllByRecursion (λ (o : Option X). o ≡ None) os → first os ≡ None
first-none [] all = refl
first-none (o ∷ os) all = skips o os all.0 (first-none os all.1) where
  skips : {X : Type 0} (o : Option X) (os : List (Option X)) → o ≡ None → first os ≡ None → first (o ∷ os) ≡ None
  skips None os e rest = rest
  skips (Some x) os e rest = absurd cc
