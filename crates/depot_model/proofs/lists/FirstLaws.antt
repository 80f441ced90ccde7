-- What the first of a list of options says of each of them, and each of them of it.
use Rattle.std.proofs.Common.{◌≡◌, Bool, true, false, List, [], ◌∷◌, ◌++◌, map, Option, Some, None, refl, subst}
use Rattle.std.specs.List.{AllByRecursion}
use Rattle.depot_model.specs.lists.Lists.{when, first}

-- where there is no first, each is none
pub each_is_none : {X : Type 0} (os : List (Option X)) → first os ≡ None → AllByRecursion (λ (o : Option X). o ≡ None) os
each_is_none [] e = tt
each_is_none (None ∷ os) e = (refl, each_is_none os e)
each_is_none (Some x ∷ os) e = absurd cc

-- what is said of each that there is holds of the first
pub first_is : {X : Type 0} (P : X → Type 0) (os : List (Option X)) (x : X) → AllByRecursion (λ (o : Option X). (y : X) → o ≡ Some y → P y) os → first os ≡ Some x → P x
first_is P [] x each e = absurd cc
first_is P (None ∷ os) x each e = first_is P os x each.1 e
first_is P (Some y ∷ os) x each e = each.0 x e

-- where nothing is shown, the test fails
pub when-none : {X : Type 0} (test : Bool) (x : X) → when test x ≡ None → test ≡ false
when-none true x e = absurd cc
when-none false x e = refl

-- what is shown where a test holds
pub when-some : {X : Type 0} (test : Bool) (x y : X) → when test x ≡ Some y → x ≡ y
when-some true x y e = cc
when-some false x y e = absurd cc

-- and that the test holds
pub when-both : {X : Type 0} (test : Bool) (x y : X) → when test x ≡ Some y → (test ≡ true) × (x ≡ y)
when-both true x y e = (refl, cc)
when-both false x y e = absurd cc

-- ---- what holds of each that is shown

-- it holds of what is shown, if something is
abbrev pub Shows : {Y : Type 0} → (Y → Type 0) → Option Y → Type 0
Shows {Y} P o = (y : Y) → o ≡ Some y → P y

pub shows_when : {Y : Type 0} (P : Y → Type 0) (test : Bool) (y : Y) → P y → Shows P (when test y)
shows_when P test y holds z e = subst P (when-some test y z e) holds

pub shows_map : {X Y : Type 0} (P : Y → Type 0) (row : X → Option Y) (xs : List X) → ((x : X) → Shows P (row x)) → AllByRecursion (Shows P) (map row xs)
shows_map P row [] each = tt
shows_map P row (x ∷ xs) each = (each x, shows_map P row xs each)

pub shows_append : {Y : Type 0} (P : Y → Type 0) (os ps : List (Option Y)) → AllByRecursion (Shows P) os → AllByRecursion (Shows P) ps → AllByRecursion (Shows P) (os ++ ps)
shows_append P [] ps all more = more
shows_append P (o ∷ os) ps all more = (all.0, shows_append P os ps all.1 more)

pub shows_first : {Y : Type 0} (P : Y → Type 0) (os : List (Option Y)) → AllByRecursion (Shows P) os → Shows P (first os)
shows_first P os all y e = first_is P os y all e
