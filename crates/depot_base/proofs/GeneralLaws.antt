-- Laws of tests, numbers, byte strings and lists that std lacks and that several crates need.
use Rattle.std.proofs.Common.{◌≡◌, ℕ, zero, suc, ◌<◌, ◌≤◌, List, [], ◌∷◌, ◌++◌, ◌+◌, take, drop, get_or, length, Bool, true, false, ◌&&◌, ◌||◌, cond, eqb, Option, Some, None, is_some, Vec, refl, sym, ap, ◌∙◌, arith, inl, inr, ◌⊎◌}
use Rattle.std.specs.List.{AllByRecursion, filter, flat_map, list_any, slice_get}
use Rattle.std.specs.Option.{option_map}
use Rattle.std.specs.Ordering.{nat_cmp, is_lt, is_eq, ordering_then}
use Rattle.std.specs.Str.{bytes_eq}
use Rattle.std.specs.Cmp.Lexicographic.{slice_cmp}
use Rattle.std.specs.declared.alloc.Global.{Global}
use Rattle.std.specs.declared.cmp.Ordering.{Ordering}
use Rattle.std.specs.declared.cmp.Ordering.TheVariants.{Less, Equal, Greater}
use Rattle.std.proofs.Math.Bool.{or-false, or_assoc, or_comm}
use Rattle.std.proofs.lemmas.Bool.Decides.{nat_tests}
use Rattle.std.proofs.lemmas.Grind.{flat_map-append}
use Rattle.std.proofs.lemmas.List.{append-nil, take_more}
use Rattle.std.proofs.lemmas.Option.{same_Some}
use Rattle.std.proofs.lemmas.List.Folds.{list_any-append}
use Rattle.std.proofs.lemmas.Slice.Eq.{bytes_eq-Decides}

-- ---- tests

pub or_none : (a : Bool) → a ≡ (a || false)
or_none true = refl
or_none false = refl

-- what implies a test adds nothing to it
pub or_again : (a b : Bool) → (b ≡ true → a ≡ true) → a ≡ (a || (b || false))
or_again true b h = refl
or_again false true h = h refl
or_again false false h = refl

-- the second of three tests comes first
pub or_swap : (a b c : Bool) → (b || (a || c)) ≡ ((a || b) || c)
or_swap a b c = sym (or_assoc b a c) ∙ ap (λ (t : Bool). t || c) (or_comm b a)

-- both aren't so and the first is: the second isn't
pub second_fails : (a b : Bool) → a ≡ true → (a && b) ≡ false → b ≡ false
second_fails true b t e = e
second_fails false b t e = absurd cc

-- two tests that pass at the same time are one
pub same_test : (a b : Bool) → (a ≡ true → b ≡ true) → (b ≡ true → a ≡ true) → a ≡ b
same_test true b p q = sym (p refl)
same_test false true p q = q refl
same_test false false p q = refl

-- what a number at which a test holds says of the test
pub when_none : (b : Bool) (p : ℕ) → cond b (Some p) None ≡ None → b ≡ false
when_none true p e = absurd cc
when_none false p e = refl

pub when_some : (b : Bool) (p n : ℕ) → cond b (Some p) None ≡ Some n → (b ≡ true) × (p ≡ n)
when_some true p n e = (refl, cc)
when_some false p n e = absurd cc

pub mapped-none : {X Y : Type 0} (f : X → Y) (o : Option X) → option_map f o ≡ None → o ≡ None
mapped-none f None e = refl
mapped-none f (Some x) e = absurd cc

-- where there isn't something there is nothing
pub is_none : {X : Type 0} (o : Option X) → is_some o ≡ false → o ≡ None
is_none None e = refl
is_none (Some x) e = absurd cc

-- ---- numbers and orderings

pub eqb_comm : (a b : ℕ) → eqb a b ≡ eqb b a
eqb_comm a b = grind (arith, nat_tests)

pub is_eq-nat_cmp : (a b : ℕ) → is_eq (nat_cmp a b) ≡ eqb a b
is_eq-nat_cmp a b = grind (arith, nat_tests)

pub is_eq-then : (o p : Ordering) → is_eq (ordering_then o p) ≡ (is_eq o && is_eq p)
is_eq-then Less p = refl
is_eq-then Equal p = refl
is_eq-then Greater p = refl

pub less_is : (o : Ordering) → is_lt o ≡ true → o ≡ Less
less_is Less e = refl
less_is Equal e = absurd cc
less_is Greater e = absurd cc

-- ---- byte strings

-- the order of byte strings
abbrev pub vec_cmp : Vec ℕ Global → Vec ℕ Global → Ordering
vec_cmp a b = slice_cmp nat_cmp a.items b.items

pub same_bytes : (a : List ℕ) → bytes_eq a a ≡ true
same_bytes a = (bytes_eq-Decides a a).1 refl

-- byte strings are compared in either order
pub bytes_eq_comm : (a b : List ℕ) → bytes_eq a b ≡ bytes_eq b a
bytes_eq_comm a b = same_test (bytes_eq a b) (bytes_eq b a) (λ e. (bytes_eq-Decides b a).1 (sym ((bytes_eq-Decides a b).0 e))) (λ e. (bytes_eq-Decides a b).1 (sym ((bytes_eq-Decides b a).0 e)))

-- ---- elements by their place

-- what is at one place is one
pub same_at : {X : Type 0} (xs : List X) (i k : ℕ) (x y : X) → i ≡ k → slice_get xs i ≡ Some x → slice_get xs k ≡ Some y → x ≡ y
same_at {X = X} xs i k x y same at_i at_k = same_Some _ _ (sym at_i ∙ (ap (slice_get xs) same ∙ at_k))

-- the first i + 1 elements are the first i and the one that was read
pub take_next : {X : Type 0} (xs : List X) (i : ℕ) (x : X) → i < length xs → x ≡ get_or xs i x → take (i + 1) xs ≡ take i xs ++ x ∷ []
take_next {X = X} xs i x low is = take_more xs i x low ∙ ap (λ (y : X). take i xs ++ y ∷ []) (sym is)

pub at_place : {X : Type 0} (xs : List X) (n : ℕ) → n < length xs → (x : X) × (slice_get xs n ≡ Some x)
at_place [] n lt = absurd (omega arith)
at_place (x ∷ xs) zero lt = (x, refl)
at_place (x ∷ xs) (suc n) lt = at_place xs n (omega arith)

-- a list, around the element at a place
pub parts_at : {X : Type 0} (xs : List X) (n : ℕ) (x : X) → slice_get xs n ≡ Some x → xs ≡ take n xs ++ x ∷ drop (suc n) xs
parts_at [] n x e = absurd cc
parts_at (y ∷ ys) zero x e = let same : y ≡ x = cc in ap (λ (z : _). z ∷ ys) same
parts_at (y ∷ ys) (suc n) x e = ap (λ (zs : _). y ∷ zs) (parts_at ys n x e)

-- an element of a longer list is one of the list, or the new one
pub from_pushed : {X : Type 0} (xs : List X) (y : X) (i : ℕ) (x : X) → slice_get (xs ++ y ∷ []) i ≡ Some x → (slice_get xs i ≡ Some x) ⊎ ((i ≡ length xs) × (y ≡ x))
from_pushed [] y zero x e = inr (refl, cc)
from_pushed [] y (suc i) x e = absurd cc
from_pushed (z ∷ zs) y zero x e = inl e
from_pushed (z ∷ zs) y (suc i) x e = elim (from_pushed zs y i x e) [ inl h ↦ inl h | inr h ↦ inr (omega arith, h.1) ]

pub to_pushed : {X : Type 0} (xs : List X) (y : X) (i : ℕ) (x : X) → slice_get xs i ≡ Some x → slice_get (xs ++ y ∷ []) i ≡ Some x
to_pushed [] y i x e = absurd cc
to_pushed (z ∷ zs) y zero x e = e
to_pushed (z ∷ zs) y (suc i) x e = to_pushed zs y i x e

pub get_last : {X : Type 0} (xs : List X) (x : X) → slice_get (xs ++ x ∷ []) (length xs) ≡ Some x
get_last [] x = refl
get_last (y ∷ ys) x = get_last ys x

-- ---- lists

pub any_push : {X : Type 0} (test : X → Bool) (xs : List X) (x : X) → list_any test (xs ++ x ∷ []) ≡ (list_any test xs || test x)
any_push test xs x = list_any-append test xs (x ∷ []) ∙ ap (λ (b : Bool). list_any test xs || b) (or-false (test x))

pub flat_push : {R X : Type 0} (f : R → List X) (rs : List R) (r : R) → flat_map f (rs ++ r ∷ []) ≡ flat_map f rs ++ f r
flat_push f rs r = flat_map-append f rs (r ∷ []) ∙ ap (λ (ys : List _). flat_map f rs ++ ys) (append-nil (f r))

pub filter_short : {X : Type 0} (test : X → Bool) (xs : List X) → length (filter test xs) ≤ length xs
filter_short test [] = omega arith
filter_short test (x ∷ xs) = by_test (test x) (filter_short test xs) where
  by_test : (b : Bool) → length (filter test xs) ≤ length xs → length (cond b (x ∷ filter test xs) (filter test xs)) ≤ suc (length xs)
  by_test true short = omega (arith, short)
  by_test false short = omega (arith, short)

pub all_both : {X : Type 0} (P : X → Type 0) (xs ys : List X) → AllByRecursion P xs → AllByRecursion P ys → AllByRecursion P (xs ++ ys)
all_both P [] ys front back = back
all_both P (x ∷ xs) ys front back = (front.0, all_both P xs ys front.1 back)

-- one where two numbers are the same, and none where they aren't
pub one_or_none : (m n : ℕ) → ((m ≡ n) × (cond {A = ℕ} (eqb m n) 1 0 ≡ 1)) ⊎ ((m ≡ n → ⊥) × (cond {A = ℕ} (eqb m n) 1 0 ≡ 0))
one_or_none m n = elim (either (eqb m n)) [
  | inl yes_ ↦ inl (grind (arith, nat_tests), ap (λ (b : Bool). cond {A = ℕ} b 1 0) yes_)
  | inr no_ ↦ inr ((λ same. absurd (grind (arith, nat_tests))), ap (λ (b : Bool). cond {A = ℕ} b 1 0) no_)
]
  where
    either : (b : Bool) → (b ≡ true) ⊎ (b ≡ false)
    either true = inl refl
    either false = inr refl
