-- The places of those that pass a test, the newest first.
use Rattle.std.proofs.Common.{◌≡◌, ℕ, zero, suc, ◌+◌, ◌<◌, List, [], ◌∷◌, ◌++◌, length, Bool, true, false, cond, Option, Some, None, refl, sym, ap, subst, ◌∙◌, append_assoc, arith, inl, inr, ◌⊎◌, if◌then◌else◌}
use Rattle.std.specs.List.{slice_get, position, position_from, last_or}
use Rattle.std.specs.Iterator.{Yields, YieldsFirst}
use Rattle.std.proofs.lemmas.Iterator.Adapters.{position_from-zero}
use Rattle.depot_model.specs.lists.Lists.{IsIn}
use Rattle.depot_kept.specs.Keeping.{places_before}

-- ---- members

-- those that are there stay
stays : {X : Type 0} (test : X → Bool) (n : ℕ) (xs : List X) (there : List ℕ) (j : ℕ) → IsIn j there → IsIn j (places_before test n xs there)
stays test n [] there j known = known
stays test n (x ∷ xs) there j known = stays test (n + 1) xs (if test x then n ∷ there else there) j (more (test x))
  where
    more : (b : Bool) → IsIn j (if b then n ∷ there else there)
    more true = inr known
    more false = known

-- the place of one that passes is among them
pub is_listed : {X : Type 0} (test : X → Bool) (n : ℕ) (xs : List X) (there : List ℕ) (i : ℕ) (x : X) → slice_get xs i ≡ Some x → test x ≡ true → IsIn (n + i) (places_before test n xs there)
is_listed test n [] there i x at passes = absurd cc
is_listed test n (y ∷ ys) there zero x at passes =
    let same : y ≡ x = cc in
    let one : test y ≡ true = ap test same ∙ passes in
    stays test (n + 1) ys (if test y then n ∷ there else there) (n + 0) (rw one (inl (omega arith)))
is_listed test n (y ∷ ys) there (suc i) x at passes =
    let place : n + 1 + i ≡ n + suc i = omega arith in
    subst (λ (j : ℕ). IsIn j (places_before test n (y ∷ ys) there)) place (is_listed test (n + 1) ys (if test y then n ∷ there else there) i x at passes)

-- each is the place of one of them, or was there
pub is_within : {X : Type 0} (test : X → Bool) (n : ℕ) (xs : List X) (there : List ℕ) (j : ℕ) → IsIn j (places_before test n xs there) → IsIn j there ⊎ (j < n + length xs)
is_within test n [] there j known = inl known
is_within test n (x ∷ xs) there j known = by_test (test x) (is_within test (n + 1) xs (if test x then n ∷ there else there) j known)
  where
    by_test : (b : Bool) → IsIn j (if b then n ∷ there else there) ⊎ (j < n + 1 + length xs) → IsIn j there ⊎ (j < n + length (x ∷ xs))
    by_test b (inr low) = inr (omega arith)
    by_test false (inl was) = inl was
    by_test true (inl (inl here)) = inr (omega arith)
    by_test true (inl (inr was)) = inl was

-- with one more at the end
pub one_more_place : {X : Type 0} (test : X → Bool) (n : ℕ) (xs : List X) (x : X) (there : List ℕ) → places_before test n (xs ++ x ∷ []) there ≡ (if test x then (n + length xs) ∷ places_before test n xs there else places_before test n xs there)
one_more_place test n [] x there = let same : n ≡ n + 0 = omega arith in ap (λ (k : ℕ). if test x then k ∷ there else there) same
one_more_place test n (y ∷ ys) x there =
    let place : n + 1 + length ys ≡ n + length (y ∷ ys) = omega arith in
    let before : List ℕ = places_before test (n + 1) ys (if test y then n ∷ there else there) in
    one_more_place test (n + 1) ys x (if test y then n ∷ there else there) ∙ ap (λ (k : ℕ). if test x then k ∷ before else before) place

-- ---- the last of them, which is the first that passes

-- where some are there, the last of these
last_there : {X : Type 0} (test : X → Bool) (n : ℕ) (xs : List X) (k : ℕ) (there : List ℕ) (o : Option ℕ) → last_or o (places_before test n xs (k ∷ there)) ≡ last_or (Some k) there
last_there test n [] k there o = refl
last_there test n (x ∷ xs) k there o = by_test (test x) (last_there test (n + 1) xs n (k ∷ there) o) (last_there test (n + 1) xs k there o)
  where
    by_test : (b : Bool) → last_or o (places_before test (n + 1) xs (n ∷ k ∷ there)) ≡ last_or (Some k) there → last_or o (places_before test (n + 1) xs (k ∷ there)) ≡ last_or (Some k) there →
        last_or o (places_before test (n + 1) xs (if b then n ∷ k ∷ there else k ∷ there)) ≡ last_or (Some k) there
    by_test true one none = one
    by_test false one none = none

-- where none is there, the first that passes
last_from : {X : Type 0} (test : X → Bool) (n : ℕ) (xs : List X) → last_or None (places_before test n xs []) ≡ position_from test n xs
last_from test n [] = refl
last_from test n (x ∷ xs) = by_test (test x) (last_from test (n + 1) xs)
  where
    by_test : (b : Bool) → last_or None (places_before test (n + 1) xs []) ≡ position_from test (n + 1) xs →
        last_or None (places_before test (n + 1) xs (if b then n ∷ [] else [])) ≡ cond b (Some n) (position_from test (n + 1) xs)
    by_test true below = last_there test (n + 1) xs n [] None
    by_test false below = below

-- the last place is that of the first that passes
pub last_place : {X : Type 0} (test : X → Bool) (xs : List X) → last_or None (places_before test 0 xs []) ≡ position test xs
last_place test xs = last_from test 0 xs ∙ sym (position_from-zero test xs)

-- ---- what an iterator gave, and what it has left

-- the next of what it has left is one of all
pub is_next : (before rest later all : List ℕ) (place : ℕ) → before ++ rest ≡ all → rest ≡ place ∷ later → IsIn place all
is_next before rest later all place whole next = subst (λ (l : List ℕ). IsIn place l) whole (behind before)
  where
    behind : (front : List ℕ) → IsIn place (front ++ rest)
    behind [] = rw next (inl refl)
    behind (x ∷ xs) = inr (behind xs)

-- what it gave with the next, and what it has left then
pub whole_next : (before rest later all : List ℕ) (place : ℕ) → before ++ rest ≡ all → rest ≡ place ∷ later → (before ++ place ∷ []) ++ later ≡ all
whole_next before rest later all place whole next = rw append_assoc (ap (λ (l : List ℕ). before ++ l) (sym next) ∙ whole)

-- what it gave to its end is all that it had
pub drained : {S : Type 0} (rest : S → List ℕ) (s t u : S) (xs : List ℕ) → Yields (YieldsFirst rest) s xs t → YieldsFirst rest t None u → xs ≡ rest s
drained rest s t u [] yielded over = sym (ap rest yielded ∙ over.0)
drained rest s t u (x ∷ xs) yielded over = ap (λ (l : List ℕ). x ∷ l) (drained rest yielded.0 t u xs yielded.2 over) ∙ sym yielded.1
