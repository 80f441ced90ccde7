-- Elements of a list by their places, from 0.
use Rattle.std.proofs.Common.{◌≡◌, ℕ, zero, suc, ◌+◌, ◌<◌, List, [], ◌∷◌, ◌++◌, length, map, take, drop, get_or, Option, Some, None, refl, sym, ap, subst, ◌∙◌, arith, add-one, inl, inr}
use Rattle.std.specs.List.{slice_get, AllByRecursion, flat_map}
use Rattle.std.specs.Option.{option_to_list}
use Rattle.std.proofs.Math.Seq.{drop-cons, take-suc}
use Rattle.std.proofs.lemmas.Grind.{flat_map-append}
use Rattle.std.proofs.lemmas.Option.{slice_get_within, get_or_from_slice_get}
use Rattle.depot_base.specs.declared.update.Update.{Update}
use Rattle.depot_model.specs.lists.Lists.{IsIn}
use Rattle.depot_model.specs.lists.Items.{at, updates_at}
use Rattle.depot_base.proofs.MembershipLaws.{in_left, in_right, in_parts}

-- what is at a place is one of the list
pub in_at : {X : Type 0} (xs : List X) (n : ℕ) (x : X) → slice_get xs n ≡ Some x → IsIn x xs
in_at [] n x at = absurd cc
in_at (y ∷ ys) zero x at = let same : y ≡ x = cc in inl same
in_at (y ∷ ys) (suc n) x at = inr (in_at ys n x at)

-- what holds of each holds of the one at a place
pub each_at : {X : Type 0} (P : X → Type 0) (xs : List X) (n : ℕ) (x : X) → AllByRecursion P xs → slice_get xs n ≡ Some x → P x
each_at P [] n x all at = absurd cc
each_at P (y ∷ ys) zero x all at = let same : y ≡ x = cc in subst P same all.0
each_at P (y ∷ ys) (suc n) x all at = each_at P ys n x all.1 at

-- what comes first stays where more follows
pub get_front : {X : Type 0} (xs ys : List X) (n : ℕ) → n < length xs → slice_get (xs ++ ys) n ≡ slice_get xs n
get_front [] ys n lt = absurd (omega arith)
get_front (x ∷ xs) ys zero lt = refl
get_front (x ∷ xs) ys (suc n) lt = get_front xs ys n (omega arith)

-- what is at a place of a mapped list
pub mapped_at : {X Y : Type 0} (f : X → Y) (xs : List X) (n : ℕ) (x : X) (d : Y) → slice_get xs n ≡ Some x → get_or (map f xs) n d ≡ f x
mapped_at f [] n x d at = absurd cc
mapped_at f (y ∷ ys) zero x d at = let same : y ≡ x = cc in ap f same
mapped_at f (y ∷ ys) (suc n) x d at = mapped_at f ys n x d at

-- the part from a place on begins with what is there
pub from_place : {X : Type 0} (xs : List X) (n : ℕ) (x : X) → slice_get xs n ≡ Some x → drop n xs ≡ x ∷ drop (n + 1) xs
from_place {X = X} xs n x at =
    let lt = slice_get_within xs n x at in
    let same = get_or_from_slice_get xs n x x at in
    rw add-one (drop-cons xs n x lt ∙ ap (λ (y : X). y ∷ drop (suc n) xs) same)

-- two updates are at these places, and this holds of them
pub record BothAt (us : List Update) (a b : ℕ) (P : Update → Update → Type 0) : Type 0 where
  pub first : Update
  pub at_first : slice_get us a ≡ Some first
  pub second : Update
  pub at_second : slice_get us b ≡ Some second
  pub holds : P first second

pub both_at : (us : List Update) (a b : ℕ) (P : Update → Update → Type 0) → at us a (λ t. at us b (λ u. P t u)) → BothAt us a b P
both_at us a b P (t, (at_t, (u, (at_u, holds)))) = record { first = t; at_first = at_t; second = u; at_second = at_u; holds = holds }

-- the updates at one place more
pub one_more : (us : List Update) (places : List ℕ) (i n : ℕ) (t : Update) → i < length places → n ≡ get_or places i 0 → slice_get us n ≡ Some t → updates_at us (take (i + 1) places) ≡ updates_at us (take i places) ++ t ∷ []
one_more us places i n t lt is at_n =
    let f : ℕ → List Update = λ place. option_to_list (slice_get us place) in
    let longer : take (i + 1) places ≡ take i places ++ n ∷ [] = rw add-one (take-suc places i 0 lt ∙ ap (λ (k : ℕ). take i places ++ k ∷ []) (sym is)) in
    ap (flat_map f) longer ∙ flat_map-append f (take i places) (n ∷ []) ∙ ap (λ (o : Option Update). updates_at us (take i places) ++ (option_to_list o ++ [])) at_n

-- ---- what there may be

-- what is one of the list of what there may be is what there is
pub from_option : {X : Type 0} (o : Option X) (x : X) → IsIn x (option_to_list o) → o ≡ Some x
from_option None x never = absurd never
from_option (Some y) x (inl here) = ap (λ (z : _). Some z) here
from_option (Some y) x (inr never) = absurd never

pub in_option : {X : Type 0} (o : Option X) (x : X) → o ≡ Some x → IsIn x (option_to_list o)
in_option None x e = absurd cc
in_option (Some y) x e = let same : y ≡ x = cc in inl same

-- ---- what is at some places

-- what is at these places is at one of them
pub of_place : (us : List Update) (places : List ℕ) (t : Update) → IsIn t (updates_at us places) → (n : ℕ) × (IsIn n places × (slice_get us n ≡ Some t))
of_place us [] t never = absurd never
of_place us (n ∷ ns) t on = elim (in_parts t (option_to_list (slice_get us n)) (updates_at us ns) on) [
  | inl here ↦ (n, (inl refl, from_option (slice_get us n) t here))
  | inr there ↦ let p = of_place us ns t there in (p.0, (inr p.1.0, p.1.1))
]

-- and the other way
pub at_its_place : (us : List Update) (places : List ℕ) (n : ℕ) (t : Update) → IsIn n places → slice_get us n ≡ Some t → IsIn t (updates_at us places)
at_its_place us [] n t never at_n = never
at_its_place us (m ∷ ms) n t (inl here) at_n = in_left t (option_to_list (slice_get us m)) (updates_at us ms) (in_option (slice_get us m) t (ap (slice_get us) here ∙ at_n))
at_its_place us (m ∷ ms) n t (inr there) at_n = in_right t (option_to_list (slice_get us m)) (updates_at us ms) (at_its_place us ms n t there at_n)
