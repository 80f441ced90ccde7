-- What is found among the elements before a place, and then of one more.
use Rattle.std.proofs.Common.{◌≡◌, ◌∙◌, ℕ, zero, suc, ◌+◌, ◌<◌, ◌≤◌, Bool, true, false, cond, ◌||◌, ◌&&◌, List, [], ◌∷◌, ◌++◌, length, map, take, drop, Option, Some, add-one, slice_index_or, arith, refl, sym, ap}
use Rattle.std.specs.Prelude.{slice_get}
use Rattle.std.specs.List.{filter, list_any, list_all, flat_map}
use Rattle.std.specs.Option.{option_to_list}
use Rattle.std.proofs.lemmas.Grind.{flat_map-append}
use Rattle.std.proofs.Math.Seq.{take-suc}
use Rattle.std.proofs.lemmas.Bool.{and_parts, and_from}
use Rattle.std.proofs.lemmas.List.{append-nil, map-append}
use Rattle.std.proofs.lemmas.List.Folds.{list_any-append}
use Rattle.std.proofs.lemmas.Option.{slice_get_within, get_or_from_slice_get}
use Rattle.depot_base.proofs.GeneralLaws.{at_place, or_none}
use Rattle.depot_base.specs.declared.update.Update.{Update}
use Rattle.depot_model.specs.lists.Items.{place_of_id, places_of}
use Rattle.depot_laws.proofs.of_readers.PrunedReadings.{filter_both}

-- what a loop has at a place is there
pub element_at : {X : Type 0} (xs : List X) (i : ℕ) (x : X) → i < length xs → x ≡ slice_index_or xs i x → slice_get xs i ≡ Some x
element_at xs i x low is = let y = at_place xs i low in y.1 ∙ ap (λ (z : _). Some z) (sym (is ∙ index_is xs i x y.0 y.1)) where
  index_is : {X : Type 0} (xs : List X) (i : ℕ) (x y : X) → slice_get xs i ≡ Some y → slice_index_or xs i x ≡ y
  index_is [] i x y e = absurd cc
  index_is (z ∷ xs) zero x y e = cc
  index_is (z ∷ xs) (suc i) x y e = index_is xs i x y e

-- what is at a place of a mapped list
pub map_at : {X Y : Type 0} (f : X → Y) (xs : List X) (i : ℕ) (x : X) → slice_get xs i ≡ Some x → slice_get (map f xs) i ≡ Some (f x)
map_at f [] i x at = absurd cc
map_at f (y ∷ xs) zero x at = let same : y ≡ x = cc in ap (λ (z : _). Some (f z)) same
map_at f (y ∷ xs) (suc i) x at = map_at f xs i x at

-- all precede a place after them
pub whole : {X : Type 0} (i : ℕ) (xs : List X) → length xs ≤ i → take i xs ≡ xs
whole zero [] le = refl
whole zero (x ∷ xs) le = absurd (omega (arith, le))
whole (suc i) [] le = refl
whole (suc i) (x ∷ xs) le = ap (λ (ys : List _). x ∷ ys) (whole i xs (omega (arith, le)))

-- a list is its prefix and what follows
pub halves : {X : Type 0} (n : ℕ) (xs : List X) → take n xs ++ drop n xs ≡ xs
halves zero xs = refl
halves (suc n) [] = refl
halves (suc n) (x ∷ xs) = ap (λ (ys : List _). x ∷ ys) (halves n xs)

pub take_next : {X : Type 0} (xs : List X) (i : ℕ) (x : X) → slice_get xs i ≡ Some x → take (i + 1) xs ≡ take i xs ++ x ∷ []
take_next {X = X} xs i x at = rw add-one (take-suc xs i x (slice_get_within xs i x at) ∙ ap (λ (y : X). take i xs ++ y ∷ []) (get_or_from_slice_get xs i x x at))

pub map_next : {X Y : Type 0} (f : X → Y) (xs : List X) (i : ℕ) (x : X) → slice_get xs i ≡ Some x → map f (take (i + 1) xs) ≡ map f (take i xs) ++ f x ∷ []
map_next f xs i x at = ap (map f) (take_next xs i x at) ∙ map-append f (take i xs) (x ∷ [])

pub filter_next : {X : Type 0} (test : X → Bool) (xs : List X) (i : ℕ) (x : X) (b : Bool) → slice_get xs i ≡ Some x → test x ≡ b → filter test (take (i + 1) xs) ≡ filter test (take i xs) ++ cond b (x ∷ []) []
filter_next test xs i x b at is = ap (filter test) (take_next xs i x at) ∙ filter_both test (take i xs) (x ∷ []) ∙ ap (λ (c : Bool). filter test (take i xs) ++ cond c (x ∷ []) []) is

pub any_next : {X : Type 0} (test : X → Bool) (xs : List X) (i : ℕ) (x : X) → slice_get xs i ≡ Some x → list_any test (take (i + 1) xs) ≡ (list_any test (take i xs) || test x)
any_next test xs i x at = ap (list_any test) (take_next xs i x at) ∙ list_any-append test (take i xs) (x ∷ []) ∙ ap (λ (b : Bool). list_any test (take i xs) || b) (sym (or_none (test x)))

all_push : {X : Type 0} (test : X → Bool) (xs : List X) (x : X) → list_all test xs ≡ true → test x ≡ true → list_all test (xs ++ x ∷ []) ≡ true
all_push test [] x all is = and_from (test x) true is refl
all_push test (y ∷ ys) x all is = let p = and_parts (test y) (list_all test ys) all in and_from (test y) (list_all test (ys ++ x ∷ [])) p.0 (all_push test ys x p.1 is)

pub all_next : {X : Type 0} (test : X → Bool) (xs : List X) (i : ℕ) (x : X) → slice_get xs i ≡ Some x → list_all test (take i xs) ≡ true → test x ≡ true → list_all test (take (i + 1) xs) ≡ true
all_next test xs i x at all is = ap (list_all test) (take_next xs i x at) ∙ all_push test (take i xs) x all is

-- one that fails is enough
pub not_all : {X : Type 0} (test : X → Bool) (xs : List X) (i : ℕ) (x : X) → slice_get xs i ≡ Some x → test x ≡ false → list_all test xs ≡ false
not_all test [] i x at is = absurd cc
not_all test (y ∷ ys) zero x at is = let same : y ≡ x = cc in ap (λ (z : _). test z && list_all test ys) same ∙ ap (λ (b : Bool). b && list_all test ys) is
not_all test (y ∷ ys) (suc i) x at is = ap (λ (b : Bool). test y && b) (not_all test ys i x at is) ∙ and_no (test y) where
  and_no : (b : Bool) → (b && false) ≡ false
  and_no true = refl
  and_no false = refl

-- the places of one id more
pub places_next : (us : List Update) (ids : List (List ℕ)) (i : ℕ) (h : List ℕ) (o : Option ℕ) → slice_get ids i ≡ Some h → o ≡ place_of_id h us → places_of us (take (i + 1) ids) ≡ places_of us (take i ids) ++ option_to_list o
places_next us ids i h o at place =
    let f : List ℕ → List ℕ = λ id. option_to_list (place_of_id id us) in
    ap (flat_map f) (take_next ids i h at) ∙ flat_map-append f (take i ids) (h ∷ []) ∙ ap (λ (ns : List ℕ). flat_map f (take i ids) ++ ns) (append-nil (f h)) ∙ ap (λ (p : Option ℕ). flat_map f (take i ids) ++ option_to_list p) (sym place)
