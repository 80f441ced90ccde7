-- The images of the elements of a list so far, and one more.
use Rattle.std.proofs.Common.{◌≡◌, ℕ, zero, suc, ◌<◌, ◌+◌, List, [], ◌∷◌, ◌++◌, length, map, take, get_or, ap, ◌∙◌, arith, append_assoc, add-one}

-- ---- the images of the elements so far

taken_more : {X Y : Type 0} (f : X → Y) (xs : List X) (i : ℕ) (x : X) → i < length xs → x ≡ get_or xs i x → map f (take i xs) ++ f x ∷ [] ≡ map f (take (i + 1) xs)
taken_more f [] i x lt e = absurd (omega arith)
taken_more f (y ∷ ys) zero x lt e = ap (λ (z : _). f z ∷ []) e
taken_more f (y ∷ ys) (suc i) x lt e = rw add-one (ap (λ (zs : List _). f y ∷ zs) (taken_more f ys i x (omega arith) e ∙ ap (λ (n : ℕ). map f (take n ys)) (add-one i)))

-- the images of the elements so far, and one more
pub mapped_more : {X Y : Type 0} (f : X → Y) (front : List Y) (xs : List X) (i : ℕ) (x : X) → i < length xs → x ≡ get_or xs i x → (front ++ map f (take i xs)) ++ f x ∷ [] ≡ front ++ map f (take (i + 1) xs)
mapped_more f front xs i x lt e = append_assoc front (map f (take i xs)) (f x ∷ []) ∙ ap (λ (ys : List _). front ++ ys) (taken_more f xs i x lt e)
