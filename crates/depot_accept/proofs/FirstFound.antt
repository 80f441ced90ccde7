-- The first element of several lists in turn, if there is one.
use Rattle.std.proofs.Common.{◌≡◌, List, [], ◌∷◌, ◌++◌, Some, None, refl}
use Rattle.std.specs.Prelude.{Option}
use Rattle.depot_model.specs.lists.Lists.{first}

-- ---- one list after another

-- that of the first list, where it has one
pub first_front : {X : Type 0} (os ps : List (Option X)) (x : X) → first os ≡ Some x → first (os ++ ps) ≡ Some x
first_front [] ps x e = absurd cc
first_front (None ∷ os) ps x e = first_front os ps x e
first_front (Some y ∷ os) ps x e = e

-- that of the second, where the first has none
pub first_behind : {X : Type 0} (os ps : List (Option X)) → first os ≡ None → first (os ++ ps) ≡ first ps
first_behind [] ps e = refl
first_behind (None ∷ os) ps e = first_behind os ps e
first_behind (Some y ∷ os) ps e = absurd cc

-- that of a list of one
pub first_one : {X : Type 0} (o : Option X) → first (o ∷ []) ≡ o
first_one None = refl
first_one (Some x) = refl

-- the one at the front, where it is there
pub first_now : {X : Type 0} (o : Option X) (os : List (Option X)) (x : X) → Some x ≡ o → Some x ≡ first (o ∷ os)
first_now None os x e = absurd cc
first_now (Some y) os x e = e

-- else one of those after it
pub first_later : {X : Type 0} (o : Option X) (os : List (Option X)) (r : Option X) → None ≡ o → r ≡ first os → r ≡ first (o ∷ os)
first_later None os r e later = later
first_later (Some y) os r e later = absurd cc

-- it is none, and so is the one at the front
pub none_front : {X : Type 0} (o : Option X) (os : List (Option X)) → first (o ∷ os) ≡ None → o ≡ None
none_front None os e = refl
none_front (Some x) os e = absurd cc

-- and so is that of those after it
pub none_behind : {X : Type 0} (o : Option X) (os : List (Option X)) → first (o ∷ os) ≡ None → first os ≡ None
none_behind None os e = e
none_behind (Some x) os e = absurd cc
