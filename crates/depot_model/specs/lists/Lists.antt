-- Membership and the like, by cases on the list.
use Rattle.std.specs.Prelude.{◌≡◌, ℕ, List, [], ◌∷◌, Bool, Option, Some, None, ◌||◌, ◌==◌, if◌then◌else◌}
use Rattle.std.specs.List.{list_any}
use Rattle.std.specs.Str.{bytes_eq}
pub use Rattle.depot_base.specs.Membership.{IsIn}

-- whether these bytes are one of the list
abbrev pub is_among : List ℕ → List (List ℕ) → Bool
is_among h hs = list_any (bytes_eq h) hs

-- just the members of the first list and of the second are among the third
abbrev pub AreTogether : List (List ℕ) → List (List ℕ) → List (List ℕ) → Type 0
AreTogether old more new = (h : List ℕ) → is_among h new ≡ (is_among h old || is_among h more)

-- whether a number is one of these
abbrev pub is_one_of : ℕ → List ℕ → Bool
is_one_of n ns = list_any (λ m. m == n) ns

-- x where the test holds
abbrev pub when : {X : Type 0} → Bool → X → Option X
when test x = if test then Some x else None

-- the first that there is
abbrev pub first : {X : Type 0} → List (Option X) → Option X
first [] = None
first (None ∷ os) = first os
first (Some x ∷ os) = Some x

-- no element occurs twice
abbrev pub AreApart : {X : Type 0} → List X → Type 0
AreApart [] = Unit {0}
AreApart (x ∷ xs) = (IsIn x xs → ⊥) × AreApart xs
