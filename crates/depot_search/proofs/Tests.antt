-- Tests, and lists that are made one member after the other.
use Rattle.std.proofs.Common.{◌≡◌, ℕ, zero, suc, ◌+◌, ◌<◌, ◌≤◌, ◌||◌, Bool, true, false, List, [], ◌∷◌, ◌++◌, length, map, take, get_or, refl, sym, ap, ◌∙◌, arith}
use Rattle.std.specs.List.{list_any}
use Rattle.std.proofs.lemmas.List.{take_all}

-- two tests that pass together are one
pub one_test : (a b : Bool) → (a ≡ true → b ≡ true) → (b ≡ true → a ≡ true) → a ≡ b
one_test true b to back = sym (to refl)
one_test false true to back = back refl
one_test false false to back = refl

pub any_map : {X Y : Type 0} (test : Y → Bool) (f : X → Y) (xs : List X) → list_any test (map f xs) ≡ list_any (λ x. test (f x)) xs
any_map test f [] = refl
any_map test f (x ∷ xs) = ap (λ (b : Bool). test (f x) || b) (any_map test f xs)

-- one of two lists one after another passes where one of either does
pub any_behind : {X : Type 0} (test : X → Bool) (xs ys : List X) → (list_any test xs || list_any test ys) ≡ list_any test (xs ++ ys)
any_behind test [] ys = refl
any_behind test (x ∷ xs) ys = by_test (test x) (any_behind test xs ys) where
  by_test : (b : Bool) → (list_any test xs || list_any test ys) ≡ list_any test (xs ++ ys) → ((b || list_any test xs) || list_any test ys) ≡ (b || list_any test (xs ++ ys))
  by_test true rest = refl
  by_test false rest = rest

-- ---- one more member

map_suc : {X Y : Type 0} (f : X → Y) (k : ℕ) (xs : List X) (x : X) → k < length xs → x ≡ get_or xs k x → map f (take (suc k) xs) ≡ map f (take k xs) ++ f x ∷ []
map_suc f k [] x low at = absurd (omega arith)
map_suc f zero (y ∷ ys) x low at = ap (λ (z : _). f z ∷ []) (sym at)
map_suc f (suc k) (y ∷ ys) x low at = ap (λ (zs : List _). f y ∷ zs) (map_suc f k ys x (omega arith) at)

-- the images of what was taken, with one more
pub map_more : {X Y : Type 0} (f : X → Y) (k : ℕ) (xs : List X) (x : X) (ys more : List Y) (y : Y) → k < length xs → x ≡ get_or xs k x → ys ≡ map f (take k xs) → more ≡ ys ++ y ∷ [] → y ≡ f x → more ≡ map f (take (k + 1) xs)
map_more f k xs x ys more y low at so_far pushed is =
    let next : suc k ≡ k + 1 = omega arith in
    pushed
    ∙ ap (λ (zs : List _). zs ++ y ∷ []) so_far
    ∙ ap (λ (z : _). map f (take k xs) ++ z ∷ []) is
    ∙ sym (map_suc f k xs x low at)
    ∙ ap (λ (n : ℕ). map f (take n xs)) next

map_push : {X Y : Type 0} (f : X → Y) (xs : List X) (x : X) → map f (xs ++ x ∷ []) ≡ map f xs ++ f x ∷ []
map_push f [] x = refl
map_push f (y ∷ ys) x = ap (λ (zs : List _). f y ∷ zs) (map_push f ys x)

-- the same for what is seen of the members that are made
pub seen_more : {X Y Z : Type 0} (see : Y → Z) (f : X → Z) (k : ℕ) (xs : List X) (x : X) (ys more : List Y) (y : Y) → k < length xs → x ≡ get_or xs k x → map see ys ≡ map f (take k xs) → more ≡ ys ++ y ∷ [] → see y ≡ f x → map see more ≡ map f (take (k + 1) xs)
seen_more see f k xs x ys more y low at so_far pushed is =
    map_more f k xs x (map see ys) (map see more) (see y) low at so_far (ap (map see) pushed ∙ map_push see ys y) is

-- all were taken
pub map_ends : {X Y Z : Type 0} (see : X → Y) (f : Y → Z) (k : ℕ) (xs : List X) (made : List Z) → length xs ≤ k → made ≡ map (λ x. f (see x)) (take k xs) → made ≡ map f (map see xs)
map_ends see f k xs made high so_far = so_far ∙ ap (map (λ x. f (see x))) (take_all k xs high) ∙ seen_twice xs where
  seen_twice : (ys : List _) → map (λ x. f (see x)) ys ≡ map f (map see ys)
  seen_twice [] = refl
  seen_twice (y ∷ ys) = ap (λ (zs : List _). f (see y) ∷ zs) (seen_twice ys)
