-- What is one of a list, and what holds of all of it.
use Rattle.std.proofs.Common.{◌≡◌, ℕ, zero, suc, ◌<◌, List, [], ◌∷◌, ◌++◌, length, get_or, Contains, subst, refl, arith, inl, inr, ◌⊎◌}
use Rattle.std.specs.List.{AllByRecursion}
use Rattle.depot_base.specs.Membership.{IsIn}

-- ---- lists one after another

-- what is one of the first list is one of both
pub in_left : {X : Type 0} (x : X) (xs ys : List X) → IsIn x xs → IsIn x (xs ++ ys)
in_left x [] ys never = absurd never
in_left x (y ∷ xs) ys (inl here) = inl here
in_left x (y ∷ xs) ys (inr there) = inr (in_left x xs ys there)

-- what is one of the second list is one of both
pub in_right : {X : Type 0} (x : X) (xs ys : List X) → IsIn x ys → IsIn x (xs ++ ys)
in_right x [] ys on = on
in_right x (y ∷ xs) ys on = inr (in_right x xs ys on)

-- what is one of both is one of the first or of the second
pub in_parts : {X : Type 0} (x : X) (xs ys : List X) → IsIn x (xs ++ ys) → IsIn x xs ⊎ IsIn x ys
in_parts x [] ys on = inr on
in_parts x (y ∷ xs) ys (inl here) = inl (inl here)
in_parts x (y ∷ xs) ys (inr there) = elim (in_parts x xs ys there) [ inl front ↦ inl (inr front) | inr back ↦ inr back ]

-- what is one of a list or the last after it
pub in_pushed : {X : Type 0} (x : X) (xs : List X) (y : X) → IsIn x (xs ++ y ∷ []) → IsIn x xs ⊎ (y ≡ x)
in_pushed x xs y on = elim (in_parts x xs (y ∷ []) on) [
  | inl front ↦ inl front
  | inr back ↦ elim back [ inl here ↦ inr here | inr never ↦ absurd never ]
]

-- the last is one of the list
pub in_last : {X : Type 0} (xs : List X) (y : X) → IsIn y (xs ++ y ∷ [])
in_last xs y = in_right y xs (y ∷ []) (inl refl)

-- ---- what holds of all

-- what holds of all holds of each
pub all_at : {X : Type 0} (P : X → Type 0) (xs : List X) (x : X) → AllByRecursion P xs → IsIn x xs → P x
all_at P [] x all never = absurd never
all_at P (y ∷ ys) x all (inl here) = subst P here all.0
all_at P (y ∷ ys) x all (inr there) = all_at P ys x all.1 there

-- what holds of each holds of all
pub all_from : {X : Type 0} (P : X → Type 0) (xs : List X) → ((x : X) → IsIn x xs → P x) → AllByRecursion P xs
all_from P [] each = tt
all_from P (y ∷ ys) each = (each y (inl refl), all_from P ys (λ x on. each x (inr on)))

-- ---- by places

-- what is one of a list has a place there
pub to_contains : {X : Type 0} (x : X) (xs : List X) → IsIn x xs → Contains xs x
to_contains x [] never = absurd never
to_contains x (y ∷ ys) (inl here) = (0, omega arith, here)
to_contains x (y ∷ ys) (inr there) = let r = to_contains x ys there in (suc r.0, omega (arith, r.1), r.2)

-- what is at a place is one of the list
pub in_read : {X : Type 0} (x : X) (xs : List X) (k : ℕ) → k < length xs → get_or xs k x ≡ x → IsIn x xs
in_read x [] k lt e = absurd (omega arith)
in_read x (y ∷ ys) zero lt e = inl e
in_read x (y ∷ ys) (suc k) lt e = inr (in_read x ys k (omega arith) e)

pub from_contains : {X : Type 0} (x : X) (xs : List X) → Contains xs x → IsIn x xs
from_contains x xs c = in_read x xs c.0 c.1 c.2
