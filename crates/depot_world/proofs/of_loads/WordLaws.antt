-- The words of a load's events.
use Rattle.std.proofs.Common.{◌≡◌, ℕ, ◌^◌, ◌<◌, ◌≤◌, true, length, refl, arith}
use Rattle.std.specs.Fmt.{decimal}
use Rattle.std.proofs.lemmas.Bool.{le-leb, and_from, or_right}
use Rattle.std.proofs.lemmas.Fmt.{length-decimal-le}
use Rattle.depot_base.specs.Cursor.{numeral}
use Rattle.depot_lines.specs.Spelling.{is_digit, is_label, is_label_byte, is_letter}
use Rattle.depot_lines.proofs.Splitting.{all_weaker}
use Rattle.depot_lines.proofs.NumberLaws.{digits_of_decimal}
use Rattle.depot_world.specs.Loads.{load_key, value_of, label_of}

pub length_key_of : (n : ℕ) → length (load_key n) ≡ 2
unfolding numeral
length_key_of n = refl

pub length_value_of : (n : ℕ) → length (value_of n) ≡ 4
unfolding numeral
length_value_of n = refl

-- a letter and the digits of a number are a label
pub is_label_of : (letter n : ℕ) → is_letter letter ≡ true → n < 2 ^ 32 → is_label (label_of letter n) ≡ true
is_label_of letter n is small =
    let digits = digits_of_decimal n (omega arith) in
    let few : length (decimal n) ≤ 19 = length-decimal-le 19 n (omega arith) (omega arith) (omega arith) in
    and_from _ _ (and_from (is_letter letter) _ is (all_weaker is_digit is_label_byte (λ b d. or_right (is_letter b) (is_digit b) d) (decimal n) digits)) (le-leb _ _ (omega (arith, few)))
