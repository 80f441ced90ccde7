-- What is kept of a list, part by part.
use Rattle.std.proofs.Common.{◌≡◌, ℕ, suc, ◌+◌, ◌-◌, ◌<◌, List, [], ◌∷◌, ◌++◌, length, map, take, drop, get_or, Option, Some, None, refl, sym, ap, ◌∙◌, arith, add-one, append_assoc, length-drop}
use Rattle.std.proofs.Math.Seq.{take-suc}
use Rattle.std.specs.List.{filter_map}
use Rattle.std.proofs.lemmas.List.{drop-map, length-map, append-nil, take_all}
use Rattle.std.proofs.lemmas.List.Elements.{filter_map-append}
use Rattle.std.proofs.lemmas.List.Folds.{list_all-map}
use Rattle.depot_world.specs.Summaries.{last_items}

pub ruleset kept = (list_all-map)

-- one item more, of which something is kept or nothing
item_more : {X Y : Type 0} (h : X → Option Y) (xs : List X) (i : ℕ) (x : X) → i < length xs → x ≡ get_or xs i x → filter_map h (take (i + 1) xs) ≡ filter_map h (take i xs) ++ filter_map h (x ∷ [])
item_more h xs i x lt at =
    let more : take (suc i) xs ≡ take i xs ++ (get_or xs i x ∷ []) = take-suc xs i x lt in
    rw (add-one, more, filter_map-append h (take i xs) (get_or xs i x ∷ [])) (ap (λ (y : _). filter_map h (take i xs) ++ filter_map h (y ∷ [])) (sym at))

pub none_more : {X Y : Type 0} (h : X → Option Y) (xs : List X) (i : ℕ) (x : X) → i < length xs → x ≡ get_or xs i x → h x ≡ None → filter_map h (take (i + 1) xs) ≡ filter_map h (take i xs)
none_more h xs i x lt at none =
    let nothing : filter_map h (x ∷ []) ≡ [] = rw none refl in
    item_more h xs i x lt at ∙ rw nothing (append-nil (filter_map h (take i xs)))

pub some_more : {X Y : Type 0} (h : X → Option Y) (xs : List X) (i : ℕ) (x : X) (y : Y) → i < length xs → x ≡ get_or xs i x → h x ≡ Some y → filter_map h (take (i + 1) xs) ≡ filter_map h (take i xs) ++ y ∷ []
some_more h xs i x y lt at some =
    let one : filter_map h (x ∷ []) ≡ y ∷ [] = rw some refl in
    item_more h xs i x lt at ∙ rw one refl

-- the last of a list, seen otherwise
pub last_seen : {X Y : Type 0} (view : X → Y) (n : ℕ) (all xs : List X) (ys : List Y) (k : ℕ) → all ≡ xs → map view xs ≡ ys → k ≡ length all - n → map view (take (length all - k) (drop k all)) ≡ last_items n ys
last_seen view n all xs ys k same are is =
    let whole : take (length all - k) (drop k all) ≡ drop k all = take_all (length all - k) (drop k all) (omega (arith, length-drop k all)) in
    let seen : map view all ≡ ys = ap (λ (l : List _). map view l) same ∙ are in
    rw (whole, ← seen, is, length-map all view) (sym (drop-map view (length all - n) all))

-- ---- parts that are written one after the other

pub six_parts : (a b c d e f l m n o p q r : List ℕ) → l ≡ [] → m ≡ l ++ a → n ≡ m ++ b → o ≡ n ++ c → p ≡ o ++ d → q ≡ p ++ e → r ≡ q ++ f → r ≡ (a ++ (b ++ (c ++ (d ++ e)))) ++ f
six_parts a b c d e f l m n o p q r i1 i2 i3 i4 i5 i6 i7 = rw (i7, i6, i5, i4, i3, i2, i1) (simp append_assoc)
