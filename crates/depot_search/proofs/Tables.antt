-- Rows and tables of a relation on a list.
use Rattle.std.proofs.Common.{◌≡◌, ℕ, zero, suc, ◌+◌, ◌≤◌, ◌&&◌, ◌||◌, Bool, true, false, cond, List, [], ◌∷◌, length, map, drop, get_or, Some, refl, sym, ap, ◌∙◌, slice_get, arith}
use Rattle.std.specs.Prelude.{find, option_and_then}
use Rattle.std.specs.List.{list_any, list_all, zip}
use Rattle.depot_model.specs.worlds.Audit.{closed}
use Rattle.depot_model.proofs.lists.Members.{map_same}
use Rattle.depot_search.specs.Rows.{either_of, is_set, over, over_all, over_each, first_own}

-- ---- rows

map_map : {X Y Z : Type 0} (f : X → Y) (g : Y → Z) (xs : List X) → map g (map f xs) ≡ map (λ x. g (f x)) xs
map_map f g [] = refl
map_map f g (x ∷ xs) = ap (λ (zs : List _). g (f x) ∷ zs) (map_map f g xs)

pub zip_map : {X : Type 0} (op : Bool → Bool → Bool) (f g : X → Bool) (xs : List X) → map (λ p. op p.0 p.1) (zip (map f xs) (map g xs)) ≡ map (λ x. op (f x) (g x)) xs
zip_map op f g [] = refl
zip_map op f g (x ∷ xs) = ap (λ (bs : List Bool). op (f x) (g x) ∷ bs) (zip_map op f g xs)

pub zip_any : {X : Type 0} (op : Bool → Bool → Bool) (f g : X → Bool) (xs : List X) → list_any (λ p. op p.0 p.1) (zip (map f xs) (map g xs)) ≡ list_any (λ x. op (f x) (g x)) xs
zip_any op f g [] = refl
zip_any op f g (x ∷ xs) = ap (λ (b : Bool). op (f x) (g x) || b) (zip_any op f g xs)

pub zip_all : {X : Type 0} (op : Bool → Bool → Bool) (f g : X → Bool) (xs : List X) → list_all (λ p. op p.0 p.1) (zip (map f xs) (map g xs)) ≡ list_all (λ x. op (f x) (g x)) xs
zip_all op f g [] = refl
zip_all op f g (x ∷ xs) = ap (λ (b : Bool). op (f x) (g x) && b) (zip_all op f g xs)

-- ---- tables

-- whether it holds of each and each
abbrev pub table_of : {X : Type 0} → (X → X → Bool) → List X → List (List Bool)
table_of f xs = map (λ a. map (λ b. f a b) xs) xs

-- the member of a place
place_of : {X : Type 0} (k : ℕ) (xs : List X) → suc k ≤ length xs → (x : X) × (drop k xs ≡ x ∷ drop (suc k) xs)
place_of zero [] within = absurd (omega arith)
place_of (suc k) [] within = absurd (omega arith)
place_of zero (x ∷ xs) within = (x, refl)
place_of (suc k) (x ∷ xs) within = place_of k xs (omega arith)

at_place : {X Y : Type 0} (f : X → Y) (d : Y) (k : ℕ) (xs : List X) (x : X) (rest : List X) → drop k xs ≡ x ∷ rest → get_or (map f xs) k d ≡ f x
at_place f d zero [] x rest e = absurd cc
at_place f d (suc k) [] x rest e = absurd cc
at_place f d zero (y ∷ ys) x rest e = let same : y ≡ x = cc in ap f same
at_place f d (suc k) (y ∷ ys) x rest e = at_place f d k ys x rest e

or_false : (b : Bool) → b ≡ (b || false)
or_false true = refl
or_false false = refl

-- a row after one more stop
over_is : {X : Type 0} (f g : X → Bool) (xs : List X) (through : Bool) → cond through (either_of (map f xs) (map g xs)) (map f xs) ≡ map (λ b. f b || (through && g b)) xs
over_is f g xs true = zip_map (λ a b. a || b) f g xs
over_is f g xs false = map_same f (λ b. f b || false) xs (λ b on. or_false (f b))

over_row : {X : Type 0} (f : X → X → Bool) (k : ℕ) (xs : List X) (x : X) (rest : List X) (a : X) → drop k xs ≡ x ∷ rest
    → over (map (λ b. f a b) xs) (get_or (table_of f xs) k []) k ≡ map (λ b. f a b || (f a x && f x b)) xs
over_row f k xs x rest a e =
    let by : get_or (table_of f xs) k [] ≡ map (λ b. f x b) xs = at_place (λ c. map (λ b. f c b) xs) [] k xs x rest e in
    let through : get_or (map (λ b. f a b) xs) k false ≡ f a x = at_place (λ b. f a b) false k xs x rest e in
    ap (λ (row : List Bool). over (map (λ b. f a b) xs) row k) by
    ∙ ap (λ (t : Bool). cond t (either_of (map (λ b. f a b) xs) (map (λ b. f x b) xs)) (map (λ b. f a b) xs)) through
    ∙ over_is (λ b. f a b) (λ b. f x b) xs (f a x)

-- a table after one more stop is that of the paths that may stop there, too
over_table : {X : Type 0} (edge : X → X → Bool) (k : ℕ) (xs : List X) (x : X) → drop k xs ≡ x ∷ drop (suc k) xs → over_all (table_of (closed edge (drop (suc k) xs)) xs) k ≡ table_of (closed edge (drop k xs)) xs
unfolding closed
over_table edge k xs x e =
    let f = closed edge (drop (suc k) xs) in
    map_map (λ a. map (λ b. f a b) xs) (λ (row : List Bool). over row (get_or (table_of f xs) k []) k) xs
    ∙ map_same (λ a. over (map (λ b. f a b) xs) (get_or (table_of f xs) k []) k) (λ a. map (λ b. f a b || (f a x && f x b)) xs) xs (λ a on. over_row f k xs x (drop (suc k) xs) a e)
    ∙ ap (λ (stops : List _). table_of (closed edge stops) xs) (sym e)

-- after all of them it is the closure
pub over_closes : {X : Type 0} (edge : X → X → Bool) (k : ℕ) (xs : List X) → k ≤ length xs → over_each (table_of (closed edge (drop k xs)) xs) k ≡ table_of (closed edge xs) xs
over_closes edge zero xs within = refl
over_closes edge (suc k) xs within =
    let x = place_of k xs within in
    ap (λ (rows : List (List Bool)). over_each rows k) (over_table edge k xs x.0 x.1) ∙ over_closes edge k xs (omega arith)

drop_all : {X : Type 0} (xs : List X) → drop (length xs) xs ≡ []
drop_all [] = refl
drop_all (x ∷ xs) = drop_all xs

pub closes : {X : Type 0} (edge : X → X → Bool) (xs : List X) → over_each (table_of edge xs) (length xs) ≡ table_of (closed edge xs) xs
unfolding closed
closes edge xs =
    ap (λ (stops : List _). over_each (table_of (closed edge stops) xs) (length xs)) (sym (drop_all xs)) ∙ over_closes edge (length xs) xs (omega arith)

-- ---- the diagonal

pub get_place : {X : Type 0} (k : ℕ) (xs : List X) (x : X) (rest : List X) → drop k xs ≡ x ∷ rest → slice_get xs k ≡ Some x
get_place zero [] x rest e = absurd cc
get_place (suc k) [] x rest e = absurd cc
get_place zero (y ∷ ys) x rest e = let same : y ≡ x = cc in ap (λ (z : _). Some z) same
get_place (suc k) (y ∷ ys) x rest e = get_place k ys x rest e

drop_suc : {X : Type 0} (k : ℕ) (xs : List X) (x : X) (rest : List X) → drop k xs ≡ x ∷ rest → drop (suc k) xs ≡ rest
drop_suc zero [] x rest e = absurd cc
drop_suc (suc k) [] x rest e = absurd cc
drop_suc zero (y ∷ ys) x rest e = cc
drop_suc (suc k) (y ∷ ys) x rest e = drop_suc k ys x rest e

pub drop_next : {X : Type 0} (k : ℕ) (xs : List X) (x : X) (rest : List X) → drop k xs ≡ x ∷ rest → drop (k + 1) xs ≡ rest
drop_next k xs x rest e = let next : k + 1 ≡ suc k = omega arith in ap (λ (n : ℕ). drop n xs) next ∙ drop_suc k xs x rest e

own_from : {X : Type 0} (f : X → X → Bool) (xs : List X) (k : ℕ) (ys : List X) → drop k xs ≡ ys → option_and_then (λ at. slice_get xs at) (first_own k (map (λ a. map (λ b. f a b) xs) ys)) ≡ find (λ x. f x x) ys
own_from f xs k [] e = refl
own_from f xs k (y ∷ ys) e = by_test (f y y) (at_place (λ b. f y b) false k xs y ys e) (own_from f xs (k + 1) ys (drop_next k xs y ys e)) where
  by_test : (b : Bool) → is_set (map (λ b. f y b) xs) k ≡ b → option_and_then (λ at. slice_get xs at) (first_own (k + 1) (map (λ a. map (λ b. f a b) xs) ys)) ≡ find (λ x. f x x) ys
      → option_and_then (λ at. slice_get xs at) (cond (is_set (map (λ b. f y b) xs) k) (Some k) (first_own (k + 1) (map (λ a. map (λ b. f a b) xs) ys))) ≡ cond b (Some y) (find (λ x. f x x) ys)
  by_test true is rest = rw is (get_place k xs y ys e)
  by_test false is rest = rw is rest

-- the first place on the diagonal is that of the first that is in the relation to itself
pub own_is : {X : Type 0} (f : X → X → Bool) (xs : List X) → option_and_then (λ at. slice_get xs at) (first_own 0 (table_of f xs)) ≡ find (λ x. f x x) xs
own_is f xs = own_from f xs 0 xs refl
