-- Reading decimal digits one after the other.
use Rattle.std.proofs.Common.{◌≡◌, ℕ, zero, suc, ◌+◌, ◌-◌, ◌*◌, ◌^◌, ◌<◌, ◌≤◌, true, false, ◌&&◌, leb, List, length, get_or, drop, refl, arith, add-one, drop-cons}
use Rattle.std.specs.List.{list_all}
use Rattle.std.proofs.Math.Nat.{pow-suc}
use Rattle.std.proofs.lemmas.Bool.{leb-true, and_parts, true_from_ne_false}
use Rattle.std.proofs.lemmas.List.{drop_all}
use Rattle.std.proofs.lemmas.List.Folds.{list_all_at}
use Rattle.depot_lines.specs.Spelling.{is_digit, is_within, is_number, has_no_leading_zero, value_behind}

-- each byte of a number is a digit
digit_at : (word : List ℕ) (i : ℕ) → is_number word ≡ true → i < length word → (48 ≤ get_or word i 0) × (get_or word i 0 ≤ 57)
digit_at word i number lt =
    let front = and_parts (is_within 1 19 (length word) && list_all is_digit word) (has_no_leading_zero word) number in
    let all = and_parts (is_within 1 19 (length word)) (list_all is_digit word) front.0 in
    let is = true_from_ne_false (is_digit (get_or word i 0)) (λ no. let none : list_all is_digit word ≡ false = list_all_at is_digit word i 0 lt no in cc) in
    let range = and_parts (leb 48 (get_or word i 0)) (leb (get_or word i 0) 57) is in
    (leb-true _ _ range.0, leb-true _ _ range.1)

-- one digit more
pub below_power : (value digit index : ℕ) → value < 10 ^ index → digit < 10 → value * 10 + digit < 10 ^ (index + 1)
below_power value digit index below small = rw (add-one, pow-suc) (omega (arith, below))

pub digit_is_small : (word : List ℕ) (i : ℕ) → is_number word ≡ true → i < length word → get_or word i 0 - 48 < 10
digit_is_small word i number lt = let d = digit_at word i number lt in omega (arith, d.0, d.1)

-- the digit at an index is read next
pub reads_next : (word : List ℕ) (i value : ℕ) → i < length word → value_behind value (drop i word) ≡ value_behind (value * 10 + (get_or word i 0 - 48)) (drop (i + 1) word)
unfolding value_behind
reads_next word i value lt = rw (add-one, drop-cons word i 0) refl

-- after the last digit comes the value
pub reads_all : (word : List ℕ) (i value : ℕ) → length word ≤ i → value_behind value (drop i word) ≡ value
unfolding value_behind
reads_all word i value le = rw (drop_all i word le) refl

power_le : (i k : ℕ) → 10 ^ i ≤ 10 ^ (i + k)
power_le i zero = let z : i + 0 ≡ i = omega arith in rw z (omega arith)
power_le i (suc k) = let z : i + suc k ≡ suc (i + k) = omega arith in rw (z, pow-suc) (omega (arith, power_le i k))

-- a number of at most 18 digits leaves room for another
pub room_for_digit : (value i : ℕ) (word : List ℕ) → is_number word ≡ true → i < length word → value < 10 ^ i → value < 10 ^ 18
room_for_digit value i word number lt below =
    let front = and_parts (is_within 1 19 (length word) && list_all is_digit word) (has_no_leading_zero word) number in
    let sized = and_parts (is_within 1 19 (length word)) (list_all is_digit word) front.0 in
    let le : length word ≤ 19 = leb-true _ _ (and_parts (leb 1 (length word)) (leb (length word) 19) sized.0).1 in
    let k : i + (18 - i) ≡ 18 = omega arith in
    let top : 10 ^ i ≤ 10 ^ 18 = rw k at (power_le i (18 - i)) in
    omega (arith, top, below)
