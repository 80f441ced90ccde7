-- Lists of one length, compared and joined in parts and entry by entry.
use Rattle.std.proofs.Common.{◌≡◌, ℕ, zero, suc, ◌+◌, ◌-◌, ◌<◌, ◌≤◌, List, [], ◌∷◌, ◌++◌, length, take, drop, get_or, Bool, true, false, cond, not, ◌&&◌, nat_lt, nat_le, max, Option, Some, None, option_map, is_none, position, eqb, refl, sym, ap, subst, ◌∙◌, arith, add-one}
use Rattle.std.specs.List.{list_all, zip, position_or_len}
use Rattle.std.proofs.Math.Bool.{and_assoc}
use Rattle.std.proofs.lemmas.Bool.{and_parts, cond-true, leb-true, le-leb, ltb-true, ltb-false}
use Rattle.std.proofs.lemmas.Bool.Decides.{nat_tests}
use Rattle.std.proofs.lemmas.List.Quantifiers.{position-Some}
use Rattle.std.proofs.lemmas.List.Folds.{prefix_len-append, list_all-append}
use Rattle.std.proofs.lemmas.List.{length-append, length-take, length-drop, take_all, take-take, drop-take}
use Rattle.std.proofs.lemmas.Slice.Zip.{length-zip, get_or-zip}
use Rattle.depot_order.specs.Lanes.{all_leq, first_above, greater_of_each}

-- ---- in two parts

zip-take-drop : (n : ℕ) (xs ys : List ℕ) → length xs ≡ length ys → zip xs ys ≡ zip (take n xs) (take n ys) ++ zip (drop n xs) (drop n ys)
zip-take-drop zero xs ys len = refl
zip-take-drop (suc n) [] [] len = refl
zip-take-drop (suc n) [] (y ∷ ys) len = absurd (omega arith)
zip-take-drop (suc n) (x ∷ xs) [] len = absurd (omega arith)
zip-take-drop (suc n) (x ∷ xs) (y ∷ ys) len = ap (λ (ps : List (ℕ × ℕ)). (x, y) ∷ ps) (zip-take-drop n xs ys (omega arith))

pub all_leq-take-drop : (n : ℕ) (xs ys : List ℕ) → length xs ≡ length ys → all_leq xs ys ≡ (all_leq (take n xs) (take n ys) && all_leq (drop n xs) (drop n ys))
all_leq-take-drop n xs ys len = ap (list_all (λ p. nat_le p.0 p.1)) (zip-take-drop n xs ys len) ∙ list_all-append (λ p. nat_le p.0 p.1) (zip (take n xs) (take n ys)) (zip (drop n xs) (drop n ys))

and_true : (b : Bool) → (b && true) ≡ b
and_true true = refl
and_true false = refl

-- one entry more
pub all_leq-take_more : (xs ys : List ℕ) (n : ℕ) → n < length xs → n < length ys → all_leq (take (n + 1) xs) (take (n + 1) ys) ≡ (all_leq (take n xs) (take n ys) && nat_le (get_or xs n 0) (get_or ys n 0))
all_leq-take_more [] ys n in_xs in_ys = absurd (omega arith)
all_leq-take_more (x ∷ xs) [] n in_xs in_ys = absurd (omega arith)
all_leq-take_more (x ∷ xs) (y ∷ ys) zero in_xs in_ys = and_true (nat_le x y)
all_leq-take_more (x ∷ xs) (y ∷ ys) (suc n) in_xs in_ys = rw add-one (ap (λ (rest : Bool). nat_le x y && rest) (rw add-one at (all_leq-take_more xs ys n (omega arith) (omega arith))) ∙ sym (and_assoc (nat_le x y) (all_leq (take n xs) (take n ys)) (nat_le (get_or xs n 0) (get_or ys n 0))))

pub all_leq-whole : (xs ys : List ℕ) (n : ℕ) → length xs ≤ n → length ys ≤ n → all_leq (take n xs) (take n ys) ≡ all_leq xs ys
all_leq-whole xs ys n in_xs in_ys = rw (take_all n xs in_xs, take_all n ys in_ys) refl

-- one part more
pub all_leq-part : (xs ys : List ℕ) (n m : ℕ) → length xs ≡ length ys → n ≤ m → all_leq (take n xs) (take n ys) ≡ true → all_leq (take (m - n) (drop n xs)) (take (m - n) (drop n ys)) ≡ true → all_leq (take m xs) (take m ys) ≡ true
all_leq-part xs ys n m len low front part =
    let k = m - n in
    let m_is : m ≡ n + k = omega arith in
    let same : length (take (n + k) xs) ≡ length (take (n + k) ys) = omega (arith, length-take (n + k) xs, length-take (n + k) ys) in
    let parts = all_leq-take-drop n (take (n + k) xs) (take (n + k) ys) same in
    subst (λ (l : ℕ). all_leq (take l xs) (take l ys) ≡ true) (sym m_is) (parts ∙ rw (take-take n (n + k) xs (omega arith), take-take n (n + k) ys (omega arith), drop-take n k xs, drop-take n k ys, front, part) refl)

-- ---- the first entry above

-- what isn't above is at most
not_above : (x y : ℕ) → not (nat_lt y x) ≡ nat_le x y
not_above x y = grind (arith, nat_tests)

one_more : (b : Bool) (m n : ℕ) → b ≡ true → m ≡ n → cond b (1 + m) 0 ≡ suc n
one_more true m n e same = omega arith
one_more false m n e same = absurd cc

-- where no entry is above, the search goes through all
none_above : (ps : List (ℕ × ℕ)) → list_all (λ p. nat_le p.0 p.1) ps ≡ true → position_or_len (λ p. nat_lt p.1 p.0) ps ≡ length ps
none_above [] e = refl
none_above (p ∷ ps) e =
    let parts = and_parts (nat_le p.0 p.1) (list_all (λ p. nat_le p.0 p.1) ps) e in
    one_more (not (nat_lt p.1 p.0)) (position_or_len (λ p. nat_lt p.1 p.0) ps) (length ps) (not_above p.0 p.1 ∙ parts.0) (none_above ps parts.1)

less_more : (b c : Bool) (m n : ℕ) → (b && c) ≡ false → (c ≡ false → m < n) → cond b (1 + m) 0 < suc n
less_more true c m n e rest = let lt : m < n = rest e in omega arith
less_more false c m n e rest = omega arith

-- where an entry is above, the search stops at one
some_above : (ps : List (ℕ × ℕ)) → list_all (λ p. nat_le p.0 p.1) ps ≡ false → position_or_len (λ p. nat_lt p.1 p.0) ps < length ps
some_above [] e = absurd cc
some_above (p ∷ ps) e =
    subst (λ (b : Bool). cond b (1 + position_or_len (λ p. nat_lt p.1 p.0) ps) 0 < suc (length ps)) (sym (not_above p.0 p.1))
    (less_more (nat_le p.0 p.1) (list_all (λ p. nat_le p.0 p.1) ps) (position_or_len (λ p. nat_lt p.1 p.0) ps) (length ps) e (some_above ps))

shifted : (k n l m t : ℕ) → m ≡ k + n → t ≡ k + l → (b : Bool) → nat_lt n l ≡ b → cond (nat_lt m t) (Some m) None ≡ option_map (λ j. k + j) (cond b (Some n) None)
shifted k n l m t m_is t_is true e = let more : nat_lt m t ≡ true = grind (arith, nat_tests) in rw more (ap (λ (j : ℕ). Some j) m_is)
shifted k n l m t m_is t_is false e = let more : nat_lt m t ≡ false = grind (arith, nat_tests) in rw more refl

-- after pairs that fail, the search continues as if it began there
position-append : {X : Type 0} (p : X → Bool) (xs ys : List X) → position_or_len p xs ≡ length xs → position p (xs ++ ys) ≡ option_map (λ k. length xs + k) (position p ys)
position-append p xs ys e =
    let all : eqb (position_or_len p xs) (length xs) ≡ true = grind (arith, nat_tests) in
    let behind = prefix_len-append (λ x. not (p x)) xs ys ∙ cond-true (eqb (position_or_len p xs) (length xs)) (length xs + position_or_len p ys) (position_or_len p xs) all in
    shifted (length xs) (position_or_len p ys) (length ys) (position_or_len p (xs ++ ys)) (length (xs ++ ys)) behind (length-append xs ys) (nat_lt (position_or_len p ys) (length ys)) refl

-- after entries of which none is above
pub first_above-skip : (n : ℕ) (xs ys : List ℕ) → length xs ≡ length ys → n ≤ length xs → all_leq (take n xs) (take n ys) ≡ true → first_above xs ys ≡ option_map (λ k. n + k) (first_above (drop n xs) (drop n ys))
first_above-skip n xs ys len low leq =
    let front = zip (take n xs) (take n ys) in
    let long : length front ≡ n = omega (arith, length-zip (take n xs) (take n ys), length-take n xs, length-take n ys) in
    ap (position (λ p. nat_lt p.1 p.0)) (zip-take-drop n xs ys len) ∙ position-append (λ p. nat_lt p.1 p.0) front (zip (drop n xs) (drop n ys)) (none_above front leq)
    ∙ ap (λ (m : ℕ). option_map (λ k. m + k) (first_above (drop n xs) (drop n ys))) long

-- the same, where the parts after are taken whole
pub first_above-behind : (n : ℕ) (xs ys : List ℕ) → length xs ≡ length ys → n ≤ length xs → all_leq (take n xs) (take n ys) ≡ true
    → first_above xs ys ≡ option_map (λ k. n + k) (first_above (take (length xs - n) (drop n xs)) (take (length ys - n) (drop n ys)))
first_above-behind n xs ys len low leq =
    rw (take_all (length xs - n) (drop n xs) (omega (arith, length-drop n xs)), take_all (length ys - n) (drop n ys) (omega (arith, length-drop n ys))) (first_above-skip n xs ys len low leq)

-- the place that is found is one of the list
pub first_above-within : (xs ys : List ℕ) (k : ℕ) → first_above xs ys ≡ Some k → k < length xs
first_above-within xs ys k e = let found = position-Some (λ (p : ℕ × ℕ). nat_lt p.1 p.0) (zip xs ys) k (0, 0) e in omega (arith, found.0, length-zip xs ys)

none_found : (b : Bool) (m n : ℕ) (all : Bool) → nat_lt m n ≡ b → (all ≡ true → m ≡ n) → (all ≡ false → m < n) → is_none (cond b (Some m) None) ≡ all
none_found true m n true e whole part = let same = whole refl in absurd (grind (arith, nat_tests))
none_found true m n false e whole part = refl
none_found false m n true e whole part = refl
none_found false m n false e whole part = let lt = part refl in absurd (grind (arith, nat_tests))

-- no entry is above exactly where none is found
pub is_none-first_above : (xs ys : List ℕ) → is_none (first_above xs ys) ≡ all_leq xs ys
is_none-first_above xs ys =
    let ps = zip xs ys in
    none_found (nat_lt (position_or_len (λ p. nat_lt p.1 p.0) ps) (length ps)) (position_or_len (λ p. nat_lt p.1 p.0) ps) (length ps) (all_leq xs ys) refl (none_above ps) (some_above ps)

-- ---- the greater of each

pub greater_from_entries : (xs ys zs : List ℕ) → length xs ≡ length ys → length zs ≡ length xs → ((k : ℕ) → k < length ys → get_or zs k 0 ≡ max (get_or xs k 0) (get_or ys k 0)) → zs ≡ greater_of_each xs ys
greater_from_entries [] [] [] len same each = refl
greater_from_entries [] [] (z ∷ zs) len same each = absurd (omega arith)
greater_from_entries [] (y ∷ ys) zs len same each = absurd (omega arith)
greater_from_entries (x ∷ xs) [] zs len same each = absurd (omega arith)
greater_from_entries (x ∷ xs) (y ∷ ys) [] len same each = absurd (omega arith)
greater_from_entries (x ∷ xs) (y ∷ ys) (z ∷ zs) len same each =
    let first : z ≡ max x y = each 0 (omega arith) in
    let rest : zs ≡ greater_of_each xs ys = greater_from_entries xs ys zs (omega arith) (omega arith) (λ k lt. each (suc k) (omega arith)) in
    cc

-- ---- entry by entry

pub length-greater : (xs ys : List ℕ) → length xs ≡ length ys → length (greater_of_each xs ys) ≡ length xs
length-greater [] [] len = refl
length-greater [] (y ∷ ys) len = absurd (omega arith)
length-greater (x ∷ xs) [] len = absurd (omega arith)
length-greater (x ∷ xs) (y ∷ ys) len = let rest = length-greater xs ys (omega arith) in omega (arith, rest)

-- past the end an entry counts as 0
pub get_or-greater : (xs ys : List ℕ) (k : ℕ) → length xs ≡ length ys → get_or (greater_of_each xs ys) k 0 ≡ max (get_or xs k 0) (get_or ys k 0)
get_or-greater [] [] k len = refl
get_or-greater [] (y ∷ ys) k len = absurd (omega arith)
get_or-greater (x ∷ xs) [] k len = absurd (omega arith)
get_or-greater (x ∷ xs) (y ∷ ys) zero len = refl
get_or-greater (x ∷ xs) (y ∷ ys) (suc k) len = get_or-greater xs ys k (omega arith)

pub entries_from_all_leq : (xs ys : List ℕ) → length xs ≡ length ys → all_leq xs ys ≡ true → (k : ℕ) → get_or xs k 0 ≤ get_or ys k 0
entries_from_all_leq [] [] len e k = omega arith
entries_from_all_leq [] (y ∷ ys) len e k = absurd (omega arith)
entries_from_all_leq (x ∷ xs) [] len e k = absurd (omega arith)
entries_from_all_leq (x ∷ xs) (y ∷ ys) len e zero = leb-true x y (and_parts (nat_le x y) (all_leq xs ys) e).0
entries_from_all_leq (x ∷ xs) (y ∷ ys) len e (suc k) = entries_from_all_leq xs ys (omega arith) (and_parts (nat_le x y) (all_leq xs ys) e).1 k

pub all_leq_from_entries : (xs ys : List ℕ) → length xs ≡ length ys → ((k : ℕ) → k < length xs → get_or xs k 0 ≤ get_or ys k 0) → all_leq xs ys ≡ true
all_leq_from_entries [] [] len each = refl
all_leq_from_entries [] (y ∷ ys) len each = absurd (omega arith)
all_leq_from_entries (x ∷ xs) [] len each = absurd (omega arith)
all_leq_from_entries (x ∷ xs) (y ∷ ys) len each =
    let first : x ≤ y = each 0 (omega arith) in
    let rest : all_leq xs ys ≡ true = all_leq_from_entries xs ys (omega arith) (λ k lt. each (suc k) (omega arith)) in
    rw (le-leb x y first, rest) refl

-- what is said of the place that is found
pub first_above-Some : (xs ys : List ℕ) (k : ℕ) → length xs ≡ length ys → first_above xs ys ≡ Some k → (get_or ys k 0 < get_or xs k 0) × ((j : ℕ) → j < k → get_or xs j 0 ≤ get_or ys j 0)
first_above-Some xs ys k len e =
    let found = position-Some (λ (p : ℕ × ℕ). nat_lt p.1 p.0) (zip xs ys) k (0, 0) e in
    let low : k < length xs = first_above-within xs ys k e in (
      ltb-true (get_or ys k 0) (get_or xs k 0) (subst (λ (p : ℕ × ℕ). nat_lt p.1 p.0 ≡ true) (get_or-zip xs ys k (0, 0) low (omega arith)) found.1),
      λ j lt. ltb-false (get_or ys j 0) (get_or xs j 0) (subst (λ (p : ℕ × ℕ). nat_lt p.1 p.0 ≡ false) (get_or-zip xs ys j (0, 0) (omega arith) (omega arith)) (found.2 j lt)),
    )

pub first_above-None : (xs ys : List ℕ) → length xs ≡ length ys → first_above xs ys ≡ None → (k : ℕ) → get_or xs k 0 ≤ get_or ys k 0
first_above-None xs ys len e = entries_from_all_leq xs ys len (sym (is_none-first_above xs ys) ∙ ap (λ (o : Option ℕ). is_none o) e)
