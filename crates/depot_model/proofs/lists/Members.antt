-- Membership, and the tests that decide it.
use Rattle.std.proofs.Common.{◌≡◌, ℕ, zero, suc, List, [], ◌∷◌, ◌++◌, map, take, Bool, true, false, ◌||◌, ◌&&◌, cond, refl, sym, ap, subst, ◌∙◌, inl, inr, ◌⊎◌}
use Rattle.std.specs.List.{AllByRecursion, filter, list_any, list_all}
use Rattle.std.specs.List.Sorted.{IsPermutation}
use Rattle.std.specs.Str.{bytes_eq}
use Rattle.std.proofs.Math.Bool.{or_assoc, and_assoc}
use Rattle.std.proofs.lemmas.List.Sorted.{Contains-permutation}
use Rattle.std.proofs.lemmas.Slice.Eq.{bytes_eq-Decides}
use Rattle.std.proofs.lemmas.Bool.{or_cases, or_left, or_right, and_parts, and_from}
pub use Rattle.depot_base.proofs.MembershipLaws.{in_left, in_right, in_parts, in_pushed, in_last, all_at, all_from}
use Rattle.depot_base.proofs.MembershipLaws.{from_contains, to_contains}
use Rattle.depot_model.specs.lists.Lists.{IsIn, is_among}

-- ---- map

-- what f gives of one of the list is one of those that f gives
pub in_map : {X Y : Type 0} (f : X → Y) (x : X) (xs : List X) → IsIn x xs → IsIn (f x) (map f xs)
in_map f x [] never = absurd never
in_map f x (y ∷ ys) (inl here) = inl (ap f here)
in_map f x (y ∷ ys) (inr there) = inr (in_map f x ys there)

-- what f gave came from one of the list
pub from_map : {X Y : Type 0} (f : X → Y) (y : Y) (xs : List X) → IsIn y (map f xs) → (x : X) × (IsIn x xs × (f x ≡ y))
from_map f y [] never = absurd never
from_map f y (x ∷ xs) (inl here) = (x, (inl refl, here))
from_map f y (x ∷ xs) (inr there) = let r = from_map f y xs there in (r.0, (inr r.1.0, r.1.1))

-- functions that agree on the members of a list give one list
pub map_same : {X Y : Type 0} (f g : X → Y) (xs : List X) → ((x : X) → IsIn x xs → f x ≡ g x) → map f xs ≡ map g xs
map_same f g [] same = refl
map_same f g (x ∷ xs) same = ap (λ (y : _). y ∷ map f xs) (same x (inl refl)) ∙ ap (λ (ys : List _). g x ∷ ys) (map_same f g xs (λ y on. same y (inr on)))

-- ---- what holds of all

-- what holds of all of a list, and of one more after it
pub all_push : {X : Type 0} (P : X → Type 0) (xs : List X) (x : X) → AllByRecursion P xs → P x → AllByRecursion P (xs ++ x ∷ [])
all_push P [] x all one = (one, tt)
all_push P (y ∷ ys) x all one = (all.0, all_push P ys x all.1 one)

-- ---- tests

-- a test that one of a list passes
pub any_from : {X : Type 0} (test : X → Bool) (x : X) (xs : List X) → IsIn x xs → test x ≡ true → list_any test xs ≡ true
any_from test x [] never e = absurd never
any_from test x (y ∷ ys) (inl here) e = or_left (test y) (list_any test ys) (ap test here ∙ e)
any_from test x (y ∷ ys) (inr there) e = or_right (test y) (list_any test ys) (any_from test x ys there e)

-- the one that passes the test
pub any_to : {X : Type 0} (test : X → Bool) (xs : List X) → list_any test xs ≡ true → (x : X) × (IsIn x xs × (test x ≡ true))
any_to test [] e = absurd cc
any_to test (y ∷ ys) e = elim (or_cases (test y) (list_any test ys) e) [
  | inl here ↦ (y, (inl refl, here))
  | inr there ↦ let r = any_to test ys there in (r.0, (inr r.1.0, r.1.1))
]

-- the test of membership passes where the bytes are one of the list
pub among_from : (h : List ℕ) (hs : List (List ℕ)) → IsIn h hs → is_among h hs ≡ true
among_from h hs on = any_from (bytes_eq h) h hs on ((bytes_eq-Decides h h).1 refl)

-- and only there
pub among_to : (h : List ℕ) (hs : List (List ℕ)) → is_among h hs ≡ true → IsIn h hs
among_to h hs e = let r = any_to (bytes_eq h) hs e in subst (λ (k : List ℕ). IsIn k hs) (sym ((bytes_eq-Decides h r.0).0 r.1.1)) r.1.0

-- all are members where each passes the test
pub all_among_to : (hs ids : List (List ℕ)) → list_all (λ h. is_among h ids) hs ≡ true → AllByRecursion (λ h. IsIn h ids) hs
all_among_to [] ids e = tt
all_among_to (h ∷ hs) ids e = let p = and_parts (is_among h ids) _ e in (among_to h ids p.0, all_among_to hs ids p.1)

-- and only there
pub all_among_from : (hs ids : List (List ℕ)) → AllByRecursion (λ h. IsIn h ids) hs → list_all (λ h. is_among h ids) hs ≡ true
all_among_from [] ids all = refl
all_among_from (h ∷ hs) ids all = and_from (is_among h ids) _ (among_from h ids all.0) (all_among_from hs ids all.1)

-- one of the first n is one of the list
pub from_take : {X : Type 0} (n : ℕ) (x : X) (xs : List X) → IsIn x (take n xs) → IsIn x xs
from_take zero x xs never = absurd never
from_take (suc n) x [] never = absurd never
from_take (suc n) x (y ∷ ys) (inl here) = inl here
from_take (suc n) x (y ∷ ys) (inr there) = inr (from_take n x ys there)

-- one of both is one of the first or of the second
pub among-append : (h : List ℕ) (xs ys : List (List ℕ)) → is_among h (xs ++ ys) ≡ (is_among h xs || is_among h ys)
among-append h [] ys = refl
among-append h (x ∷ xs) ys = ap (λ (b : Bool). bytes_eq h x || b) (among-append h xs ys) ∙ sym (or_assoc (bytes_eq h x) (is_among h xs) (is_among h ys))

-- all of both pass where all of the first and all of the second do
pub all-append : {X : Type 0} (test : X → Bool) (xs ys : List X) → list_all test (xs ++ ys) ≡ (list_all test xs && list_all test ys)
all-append test [] ys = refl
all-append test (x ∷ xs) ys = ap (λ (b : Bool). test x && b) (all-append test xs ys) ∙ sym (and_assoc (test x) (list_all test xs) (list_all test ys))

-- a test of what each gives is a test of each
pub all-map : {X Y : Type 0} (test : Y → Bool) (f : X → Y) (xs : List X) → list_all test (map f xs) ≡ list_all (λ x. test (f x)) xs
all-map test f [] = refl
all-map test f (x ∷ xs) = ap (λ (b : Bool). test (f x) && b) (all-map test f xs)

-- ---- lists that are chosen from

-- one of a list that is chosen by a test, with an element at the front where it passes
pub chosen_cases : {X : Type 0} (b : Bool) (x y : X) (ys : List X) → IsIn x (cond b (y ∷ ys) ys) → ((b ≡ true) × (y ≡ x)) ⊎ IsIn x ys
chosen_cases true x y ys (inl here) = inl (refl, here)
chosen_cases true x y ys (inr there) = inr there
chosen_cases false x y ys on = inr on

-- what follows is one of the list either way
pub chosen_behind : {X : Type 0} (b : Bool) (x y : X) (ys : List X) → IsIn x ys → IsIn x (cond b (y ∷ ys) ys)
chosen_behind true x y ys on = inr on
chosen_behind false x y ys on = on

-- what comes first is one of the list where the test passes
pub chosen_front : {X : Type 0} (b : Bool) (x y : X) (ys : List X) → b ≡ true → y ≡ x → IsIn x (cond b (y ∷ ys) ys)
chosen_front true x y ys e same = inl same
chosen_front false x y ys e same = absurd cc

-- ---- lists in another order

-- a list in another order has the same members
pub in_permuted : {X : Type 0} (x : X) (xs ys : List X) → IsPermutation xs ys → IsIn x xs → IsIn x ys
in_permuted x xs ys p on = from_contains x ys (Contains-permutation xs ys x p (to_contains x xs on))

-- ---- lists that are filtered

-- what is left passed the test
pub from_filter : {X : Type 0} (test : X → Bool) (x : X) (xs : List X) → IsIn x (filter test xs) → IsIn x xs × (test x ≡ true)
from_filter test x [] never = absurd never
from_filter test x (y ∷ ys) on = elim (chosen_cases (test y) x y (filter test ys) on) [
  | inl here ↦ (inl here.1, sym (ap test here.1) ∙ here.0)
  | inr there ↦ let rest = from_filter test x ys there in (inr rest.0, rest.1)
]

-- what passes the test is left
pub in_filter : {X : Type 0} (test : X → Bool) (x : X) (xs : List X) → IsIn x xs → test x ≡ true → IsIn x (filter test xs)
in_filter test x [] never e = absurd never
in_filter test x (y ∷ ys) (inl here) e = chosen_front (test y) x y (filter test ys) (ap test here ∙ e) here
in_filter test x (y ∷ ys) (inr there) e = chosen_behind (test y) x y (filter test ys) (in_filter test x ys there e)
