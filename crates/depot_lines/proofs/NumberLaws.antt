-- Numbers in decimal are lawful words.
use Rattle.std.proofs.Common.{◌≡◌, ℕ, ◌^◌, ◌<◌, ◌≤◌, true, false, not, leb, eqb, ◌&&◌, List, [], ◌∷◌, length, get_or, Option, Some, refl, sym, ap, subst, arith, rules, inl, inr}
use Rattle.std.specs.List.{list_all}
use Rattle.std.specs.Fmt.{decimal}
use Rattle.std.proofs.lemmas.Bool.{leb-true, le-leb, lt-ltb, and_parts, and_from, cases_lt, ne_eqb}
use Rattle.std.proofs.lemmas.Fmt.{decimal-digits_value, digits_decimal, digits_value-decimal, decimal_nonempty, length-decimal-le, first_decimal, decimal_digit}
use Rattle.std.proofs.lemmas.Str.Parse.{IsNumeralModel, numerals_by_fold, IsDigitsTest, FoldsDigits}
use Rattle.depot_base.proofs.GeneralLaws.{when_some}
use Rattle.depot_lines.specs.declared.line_fault.LineFault.{LineFault}
use Rattle.depot_lines.specs.declared.line_fault.LineFault.TheVariants as is
use Rattle.depot_lines.specs.Spelling.{is_word, is_word_byte, is_digit, value_behind, has_no_leading_zero, is_within, is_number, number_word}
use Rattle.depot_lines.specs.Language.{or_fault}
use Rattle.depot_lines.specs.Vocabulary.{number_or, number_between}
use Rattle.depot_lines.proofs.LanguageLaws.{LawfulWord, or_fault_ok}
use Rattle.depot_lines.proofs.Splitting.{all_weaker}

abbrev AreDigits : List ℕ → Type 0
AreDigits ds = list_all is_digit ds ≡ true

tells : IsDigitsTest AreDigits
tells = search rules

folds : FoldsDigits value_behind
unfolding value_behind
folds = search rules

own : IsNumeralModel AreDigits (value_behind 0)
own = numerals_by_fold AreDigits tells value_behind folds

-- one digit alone may be 0
zero_first : (ds : List ℕ) → 0 < length ds → has_no_leading_zero ds ≡ true → get_or ds 0 0 ≡ 48 → length ds ≡ 1
zero_first [] some none e = absurd (omega arith)
zero_first (b ∷ []) some none e = refl
zero_first (b ∷ c ∷ bs) some none e = absurd (differs (rw e at none)) where
  differs : not (eqb 48 48) ≡ true → ⊥
  differs h = cc

no_zero_first : (ds : List ℕ) → 48 < get_or ds 0 0 → has_no_leading_zero ds ≡ true
no_zero_first [] lt = refl
no_zero_first (b ∷ []) lt = refl
no_zero_first (b ∷ c ∷ bs) lt = let e : eqb b 48 ≡ false = ne_eqb b 48 (λ e. omega arith) in rw e refl

number_parts : (word : List ℕ) → is_number word ≡ true → (0 < length word) × (length word ≤ 19) × AreDigits word × (has_no_leading_zero word ≡ true)
number_parts word e =
    let a = and_parts (is_within 1 19 (length word) && list_all is_digit word) (has_no_leading_zero word) e in
    let b = and_parts (is_within 1 19 (length word)) (list_all is_digit word) a.0 in
    let c = and_parts (leb 1 (length word)) (leb (length word) 19) b.0 in
    (omega (arith, leb-true _ _ c.0), leb-true _ _ c.1, b.1, a.1)

leading : (n : ℕ) → n < 2 ^ 64 → has_no_leading_zero (decimal n) ≡ true
leading n small = elim (cases_lt 0 n) [
  | inl some ↦ no_zero_first (decimal n) (first_decimal n some small)
  | inr none ↦ let z : n ≡ 0 = omega arith in rw (z, decimal_digit 0 (omega arith)) refl
]

pub is_number_decimal : (n : ℕ) → n < 10 ^ 19 → is_number (decimal n) ≡ true
is_number_decimal n small =
    let wide : n < 2 ^ 64 = omega (arith, small) in
    and_from _ _ (and_from _ _ (and_from _ _ (le-leb _ _ (omega (arith, decimal_nonempty n wide))) (le-leb _ _ (length-decimal-le 19 n (omega arith) small wide))) (digits_decimal own n wide)) (leading n wide)

-- a word of a number is that of its value
pub decimal_of_word : (low high : ℕ) → high < 2 ^ 64 → (word : List ℕ) (n : ℕ) → number_word low high word ≡ Some n → (low ≤ n) × (n ≤ high) × (word ≡ decimal n)
decimal_of_word low high small word n e =
    let w = when_some (is_number word && is_within low high (value_behind 0 word)) (value_behind 0 word) n e in
    let a = and_parts (is_number word) (is_within low high (value_behind 0 word)) w.0 in
    let b = and_parts (leb low (value_behind 0 word)) (leb (value_behind 0 word) high) a.1 in
    let parts = number_parts word a.0 in
    let le : value_behind 0 word ≤ high = leb-true _ _ b.1 in
    let text : decimal (value_behind 0 word) ≡ word = decimal-digits_value own word parts.2 parts.0 (zero_first word parts.0 parts.3) (omega arith) in
    let ge : low ≤ value_behind 0 word = leb-true _ _ b.0 in
    subst (λ (x : ℕ). (low ≤ x) × (x ≤ high) × (word ≡ decimal x)) w.1 (ge, le, sym text)

-- and the other way round
pub word_of_decimal : (low high : ℕ) → high < 10 ^ 19 → (n : ℕ) → low ≤ n → n ≤ high → number_word low high (decimal n) ≡ Some n
word_of_decimal low high small n ge le =
    let lt : n < 10 ^ 19 = omega (arith, small) in
    let wide : n < 2 ^ 64 = omega (arith, lt) in
    let value : value_behind 0 (decimal n) ≡ n = digits_value-decimal own n wide in
    rw (is_number_decimal n lt, value, le-leb _ _ ge, le-leb _ _ le) refl

digit_is_plain : (b : ℕ) → is_digit b ≡ true → is_word_byte b ≡ true
digit_is_plain b e =
    let p = and_parts (leb 48 b) (leb b 57) e in
    let ge : 48 ≤ b = leb-true _ _ p.0 in
    rw (ne_eqb b 32 (λ x. omega arith), ne_eqb b 10 (λ x. omega arith)) refl

pub digits_of_decimal : (n : ℕ) → n < 10 ^ 19 → list_all is_digit (decimal n) ≡ true
digits_of_decimal n small = digits_decimal own n (omega (arith, small))

pub plain_decimal : (n : ℕ) → n < 10 ^ 19 → is_word (decimal n) ≡ true
plain_decimal n small =
    let wide : n < 2 ^ 64 = omega (arith, small) in
    and_from _ _ (lt-ltb _ _ (decimal_nonempty n wide)) (all_weaker is_digit is_word_byte digit_is_plain (decimal n) (digits_of_decimal n small))

pub number_or_lawful : {C : Type 0} (fault : LineFault) (low high : ℕ) → high < 10 ^ 19 → LawfulWord (number_or {C = C} fault low high)
number_or_lawful fault low high small = record {
  takes = λ c t n e.
      let r = decimal_of_word low high (omega (arith, small)) t n (or_fault_ok (number_word low high t) fault n e) in
      ((r.0, r.1), r.2);
  again = λ c n fits. ap (λ (o : Option ℕ). or_fault o fault) (word_of_decimal low high small n fits.0 fits.1);
  plain = λ c n fits. plain_decimal n (omega (arith, small, fits.1));
}

pub number_lawful : {C : Type 0} (low high : ℕ) → high < 10 ^ 19 → LawfulWord (number_between {C = C} low high)
number_lawful low high small = number_or_lawful is.Number low high small
