-- Lists that are scanned with another at the same places, and the first that passes a test.
use Rattle.std.proofs.Common.{◌≡◌, ℕ, zero, suc, ◌+◌, ◌<◌, Bool, true, false, ◌||◌, cond, List, [], ◌∷◌, ◌++◌, length, get_or, map, take, drop, Option, Some, None, refl, sym, ap, subst, ◌∙◌, inl, inr, arith}
use Rattle.std.specs.Prelude.{position}
use Rattle.std.specs.List.{list_any, flat_map, position_from}
use Rattle.std.specs.Option.{option_or}
use Rattle.std.proofs.lemmas.Iterator.Adapters.{position_from-zero}
use Rattle.std.proofs.lemmas.List.{map-append, length-take-le}
use Rattle.depot_base.proofs.GeneralLaws.{take_next}
use Rattle.depot_model.specs.lists.Lists.{first}
use Rattle.depot_model.proofs.lists.Members.{in_parts}
use Rattle.depot_laws.proofs.lists.FirstOfRow.{no_place_from, no_place_to}
use Rattle.depot_audit.specs.MetTexts.{ArePairs}

-- a test of what each gives is a test of each
pub any_map : {X Y : Type 0} (test : Y → Bool) (f : X → Y) (xs : List X) → list_any test (map f xs) ≡ list_any (λ x. test (f x)) xs
any_map test f [] = refl
any_map test f (x ∷ xs) = ap (λ (b : Bool). test (f x) || b) (any_map test f xs)

-- ---- pairs

-- the pair of one with others at the front and after
pub record HasPair {X Y : Type 0} (R : X → Y → Type 0) (xs : List X) (front : List Y) (y : Y) (behind : List Y) : Type 0 where
  pub before : List X
  pub one : X
  pub after : List X
  pub is : xs ≡ before ++ one ∷ after
  pub pairs : ArePairs R before front
  pub pair : R one y
  pub rest : ArePairs R after behind

pub pair_of : {X Y : Type 0} (R : X → Y → Type 0) (xs : List X) (front : List Y) (y : Y) (behind : List Y) → ArePairs R xs (front ++ y ∷ behind) → HasPair R xs front y behind
pair_of R [] [] y behind pairs = absurd pairs
pair_of R [] (z ∷ front) y behind pairs = absurd pairs
pair_of R (x ∷ xs) [] y behind pairs = record { before = []; one = x; after = xs; is = refl; pairs = tt; pair = pairs.0; rest = pairs.1 }
pair_of R (x ∷ xs) (z ∷ front) y behind pairs =
    let h = pair_of R xs front y behind pairs.1 in
    record { before = x ∷ h.before; one = h.one; after = h.after; is = ap (λ (l : List _). x ∷ l) h.is; pairs = (pairs.0, h.pairs); pair = h.pair; rest = h.rest }

-- none are paired with none
pub no_pairs : {X Y : Type 0} (R : X → Y → Type 0) (xs : List X) → ArePairs R xs [] → xs ≡ []
no_pairs R [] pairs = refl
no_pairs R (x ∷ xs) pairs = absurd pairs

-- as many on either side
pub same_count : {X Y : Type 0} (R : X → Y → Type 0) (xs : List X) (ys : List Y) → ArePairs R xs ys → length xs ≡ length ys
same_count R [] [] pairs = refl
same_count R [] (y ∷ ys) pairs = absurd pairs
same_count R (x ∷ xs) [] pairs = absurd pairs
same_count R (x ∷ xs) (y ∷ ys) pairs = omega (arith, same_count R xs ys pairs.1)

-- ---- the first of options

-- the first of each row in turn is the first of all
pub first-append : {X : Type 0} (os ps : List (Option X)) → first (os ++ ps) ≡ option_or (first os) (first ps)
first-append [] ps = refl
first-append (None ∷ os) ps = first-append os ps
first-append (Some x ∷ os) ps = refl

first-cons : {X : Type 0} (o : Option X) (os : List (Option X)) → first (o ∷ os) ≡ option_or o (first os)
first-cons None os = refl
first-cons (Some x) os = refl

-- what a list has after others is the first where these have none
pub first_behind : {X : Type 0} (os ps : List (Option X)) → first os ≡ None → first (os ++ ps) ≡ first ps
first_behind os ps none = first-append os ps ∙ ap (λ (o : Option _). option_or o (first ps)) none

-- the first of what rows give, where each row's first is what its partner gives
pub first_rows : {C D X Y : Type 0} (f : X → Option Y) (g : C → List X) (k : D → Option Y) (cs : List C) (ds : List D) → ArePairs (λ c d. first (map f (g c)) ≡ k d) cs ds → first (map f (flat_map g cs)) ≡ first (map k ds)
first_rows f g k [] [] pairs = refl
first_rows f g k [] (d ∷ ds) pairs = absurd pairs
first_rows f g k (c ∷ cs) [] pairs = absurd pairs
first_rows f g k (c ∷ cs) (d ∷ ds) pairs =
    ap first (map-append f (g c) (flat_map g cs)) ∙ first-append (map f (g c)) (map f (flat_map g cs))
    ∙ ap (λ (o : Option _). option_or o (first (map f (flat_map g cs)))) pairs.0 ∙ ap (option_or (k d)) (first_rows f g k cs ds pairs.1) ∙ sym (first-cons (k d) (map k ds))

-- ---- rows and places

-- one more gives none
pub row_on : {X Y : Type 0} (k : X → Option Y) (xs : List X) (x : X) → first (map k xs) ≡ None → k x ≡ None → first (map k (xs ++ x ∷ [])) ≡ None
row_on k xs x none one = ap first (map-append k xs (x ∷ [])) ∙ first_behind (map k xs) (k x ∷ []) none ∙ ap (λ (o : Option _). first (o ∷ [])) one

-- one gives something
pub row_stops : {X Y : Type 0} (k : X → Option Y) (xs : List X) (x : X) (after : List X) (y : Y) → first (map k xs) ≡ None → k x ≡ Some y → first (map k (xs ++ x ∷ after)) ≡ Some y
row_stops k xs x after y none one = ap first (map-append k xs (x ∷ after)) ∙ first_behind (map k xs) (k x ∷ map k after) none ∙ ap (λ (o : Option _). first (o ∷ map k after)) one

places : {X : Type 0} (test : X → Bool) (n : ℕ) (xs : List X) (x : X) (after : List X) → position_from test n xs ≡ None → test x ≡ true → position_from test n (xs ++ x ∷ after) ≡ Some (n + length xs)
places test n [] x after none is = ap (λ (b : Bool). cond b (Some n) (position_from test (n + 1) after)) is ∙ ap (λ (m : ℕ). Some m) (omega arith)
places test n (y ∷ ys) x after none is = by_test (test y) none (λ later. places test (n + 1) ys x after later is) where
  by_test : (b : Bool) → cond b (Some n) (position_from test (n + 1) ys) ≡ None → (position_from test (n + 1) ys ≡ None → position_from test (n + 1) (ys ++ x ∷ after) ≡ Some ((n + 1) + length ys)) → cond b (Some n) (position_from test (n + 1) (ys ++ x ∷ after)) ≡ Some (n + suc (length ys))
  by_test true e later = absurd cc
  by_test false e later = later e ∙ ap (λ (m : ℕ). Some m) (omega arith)

-- the first place is after those that fail
pub place_stops : {X : Type 0} (test : X → Bool) (xs : List X) (x : X) (after : List X) → position test xs ≡ None → test x ≡ true → position test (xs ++ x ∷ after) ≡ Some (length xs)
place_stops test xs x after none is =
    position_from-zero test (xs ++ x ∷ after) ∙ places test 0 xs x after (sym (position_from-zero test xs) ∙ none) is ∙ ap (λ (m : ℕ). Some m) (omega arith)

-- one more fails
pub place_on : {X : Type 0} (test : X → Bool) (xs : List X) (x : X) → position test xs ≡ None → test x ≡ false → position test (xs ++ x ∷ []) ≡ None
place_on test xs x none fails = no_place_from test (xs ++ x ∷ []) (λ y on. elim (in_parts y xs (x ∷ []) on) [
  | inl before ↦ no_place_to test xs none y before
  | inr last ↦ elim last [ inl is ↦ ap test (sym is) ∙ fails | inr never ↦ absurd never ]
])

-- ---- at a place of a list that is scanned

pub split_at : {X : Type 0} (xs : List X) (i : ℕ) (x : X) → i < length xs → x ≡ get_or xs i x → xs ≡ take i xs ++ x ∷ drop (suc i) xs
split_at [] i x lt is = absurd (omega arith)
split_at (y ∷ ys) zero x lt is = ap (λ (z : _). z ∷ ys) (sym is)
split_at (y ∷ ys) (suc i) x lt is = ap (λ (zs : List _). y ∷ zs) (split_at ys i x (omega arith) is)

-- the place of one that passes after those that fail
pub place_at : {X : Type 0} (test : X → Bool) (xs : List X) (i : ℕ) (x : X) → i < length xs → x ≡ get_or xs i x → position test (take i xs) ≡ None → test x ≡ true → Some i ≡ position test xs
place_at test xs i x lt is none passes =
    sym (ap (position test) (split_at xs i x lt is) ∙ place_stops test (take i xs) x (drop (suc i) xs) none passes ∙ ap (λ (n : ℕ). Some n) (length-take-le i xs (omega arith)))

map_split : {X Z : Type 0} (f : Z → X) (zs : List Z) (i : ℕ) (z : Z) → i < length zs → z ≡ get_or zs i z → map f zs ≡ map f (take i zs) ++ f z ∷ map f (drop (suc i) zs)
map_split f zs i z lt is = ap (map f) (split_at zs i z lt is) ∙ map-append f (take i zs) (z ∷ drop (suc i) zs)

map_next : {X Z : Type 0} (f : Z → X) (zs : List Z) (i : ℕ) (z : Z) → i < length zs → z ≡ get_or zs i z → map f (take (i + 1) zs) ≡ map f (take i zs) ++ f z ∷ []
map_next f zs i z lt is = ap (map f) (take_next zs i z lt is) ∙ map-append f (take i zs) (z ∷ [])

-- what one gives after those that give nothing
pub row_at : {X Y Z : Type 0} (k : X → Option Y) (f : Z → X) (zs : List Z) (i : ℕ) (z : Z) (y : Y) → i < length zs → z ≡ get_or zs i z → first (map k (map f (take i zs))) ≡ None → k (f z) ≡ Some y → Some y ≡ first (map k (map f zs))
row_at k f zs i z y lt is none one =
    sym (ap (λ (xs : List _). first (map k xs)) (map_split f zs i z lt is) ∙ row_stops k (map f (take i zs)) (f z) (map f (drop (suc i) zs)) y none one)

-- one more gives nothing
pub row_next : {X Y Z : Type 0} (k : X → Option Y) (f : Z → X) (zs : List Z) (i : ℕ) (z : Z) → i < length zs → z ≡ get_or zs i z → first (map k (map f (take i zs))) ≡ None → k (f z) ≡ None → first (map k (map f (take (i + 1) zs))) ≡ None
row_next k f zs i z lt is none one =
    ap (λ (xs : List _). first (map k xs)) (map_next f zs i z lt is) ∙ row_on k (map f (take i zs)) (f z) none one

-- the pair of one at a place
pub pair_in : {X Y : Type 0} (R : X → Y → Type 0) (xs : List X) (ys : List Y) (i : ℕ) (y : Y) → i < length ys → y ≡ get_or ys i y → ArePairs R xs ys → HasPair R xs (take i ys) y (drop (suc i) ys)
pair_in R xs ys i y lt is pairs = pair_of R xs (take i ys) y (drop (suc i) ys) (subst (λ (zs : List _). ArePairs R xs zs) (split_at ys i y lt is) pairs)

pub pair_next : {X Y : Type 0} (R : X → Y → Type 0) (xs : List X) (ys : List Y) (i : ℕ) (y : Y) → i < length ys → y ≡ get_or ys i y → ArePairs R xs (take (i + 1) ys) → HasPair R xs (take i ys) y []
pair_next R xs ys i y lt is pairs = pair_of R xs (take i ys) y [] (subst (λ (zs : List _). ArePairs R xs zs) (take_next ys i y lt is) pairs)

-- the same after a function
pub mapped_pair_in : {X Y Z : Type 0} (R : X → Y → Type 0) (f : Z → Y) (xs : List X) (zs : List Z) (i : ℕ) (z : Z) → i < length zs → z ≡ get_or zs i z → ArePairs R xs (map f zs) → HasPair R xs (map f (take i zs)) (f z) (map f (drop (suc i) zs))
mapped_pair_in R f xs zs i z lt is pairs = pair_of R xs (map f (take i zs)) (f z) (map f (drop (suc i) zs)) (subst (λ (ys : List _). ArePairs R xs ys) (map_split f zs i z lt is) pairs)

pub mapped_pair_next : {X Y Z : Type 0} (R : X → Y → Type 0) (f : Z → Y) (xs : List X) (zs : List Z) (i : ℕ) (z : Z) → i < length zs → z ≡ get_or zs i z → ArePairs R xs (map f (take (i + 1) zs)) → HasPair R xs (map f (take i zs)) (f z) []
mapped_pair_next R f xs zs i z lt is pairs = pair_of R xs (map f (take i zs)) (f z) [] (subst (λ (ys : List _). ArePairs R xs ys) (map_next f zs i z lt is) pairs)

-- with the last pair
pub pair_last : {X Y : Type 0} (R : X → Y → Type 0) (xs : List X) (front : List Y) (y : Y) (h : HasPair R xs front y []) → xs ≡ h.before ++ h.one ∷ []
pair_last R xs front y h = h.is ∙ ap (λ (zs : List _). h.before ++ h.one ∷ zs) (no_pairs R h.after h.rest)
