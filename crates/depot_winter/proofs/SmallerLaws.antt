-- Of two different digests each has a digit smaller than the other's at the same place.
use Rattle.std.proofs.Common.{◌≡◌, ◌≢◌, ℕ, zero, suc, ◌+◌, ◌-◌, ◌/◌, ◌%◌, ◌<◌, ◌≤◌, ◌⊎◌, inl, inr, List, [], ◌∷◌, length, get_or, refl, arith, sym, ap, ◌∙◌, All}
use Rattle.std.specs.List.{flat_map}
use Rattle.std.proofs.lemmas.List.{get_or_append_left, get_or-append_right, get_or_past}
use Rattle.std.proofs.lemmas.List.Elements.{All-head, All-tail}
use Rattle.std.proofs.lemmas.Bool.{cases_lt}
use Rattle.depot_model.specs.texts.Winternitz.{nibbles, checksum, three_digits, digits_of}
use Rattle.depot_winter.specs.Smaller.{HasSmallerDigit}
use Rattle.depot_winter.proofs.DigitLemmas.{IsDigest, digest_from_digits, length-nibbles, length-digits_of, checksum-cons}

-- no entry of the first is greater than the second's at the same place
abbrev pub NoneGreater : List ℕ → List ℕ → Type 0
NoneGreater xs ys = (k : ℕ) → get_or xs k 0 ≤ get_or ys k 0

-- what the checksums of two such lists of digits say
record Weighed (a b : List ℕ) : Type 0 where
  falls : checksum (flat_map nibbles b) ≤ checksum (flat_map nibbles a)
  same : checksum (flat_map nibbles a) ≡ checksum (flat_map nibbles b) → a ≡ b

-- The checksum falls where a digit rises, and bytes of equal digits are equal.
weighed : (a b : List ℕ) → length a ≡ length b → All (λ x. x < 256) a → All (λ x. x < 256) b →
    NoneGreater (flat_map nibbles a) (flat_map nibbles b) → Weighed a b
weighed [] [] lengths a_bytes b_bytes none = record { falls = omega arith; same = λ _. refl }
weighed [] (y ∷ ys) lengths a_bytes b_bytes none = absurd (omega arith)
weighed (x ∷ xs) [] lengths a_bytes b_bytes none = absurd (omega arith)
weighed (x ∷ xs) (y ∷ ys) lengths a_bytes b_bytes none =
    let x_byte : x < 256 = All-head (λ v. v < 256) x xs a_bytes in
    let y_byte : y < 256 = All-head (λ v. v < 256) y ys b_bytes in
    let high : x / 16 ≤ y / 16 = none 0 in
    let low : x % 16 ≤ y % 16 = none 1 in
    let others : Weighed xs ys = weighed xs ys (omega arith) (All-tail (λ v. v < 256) x xs a_bytes) (All-tail (λ v. v < 256) y ys b_bytes)
    (λ k. none (suc (suc k))) in
    let of_x : checksum (flat_map nibbles (x ∷ xs)) ≡ 15 - x / 16 + (15 - x % 16 + checksum (flat_map nibbles xs))
    = checksum-cons (x / 16) (x % 16 ∷ flat_map nibbles xs) ∙ ap (λ n. 15 - x / 16 + n) (checksum-cons (x % 16) (flat_map nibbles xs)) in
    let of_y : checksum (flat_map nibbles (y ∷ ys)) ≡ 15 - y / 16 + (15 - y % 16 + checksum (flat_map nibbles ys))
    = checksum-cons (y / 16) (y % 16 ∷ flat_map nibbles ys) ∙ ap (λ n. 15 - y / 16 + n) (checksum-cons (y % 16) (flat_map nibbles ys)) in
    let less : checksum (flat_map nibbles ys) ≤ checksum (flat_map nibbles xs) = others.falls in
    record {
      falls = omega (arith, of_x, of_y, less);
      same = λ equal.
          let heads : x ≡ y = omega (arith, of_x, of_y, less, equal) in
          let tails : checksum (flat_map nibbles xs) ≡ checksum (flat_map nibbles ys) = omega (arith, of_x, of_y, less, equal) in
          ap (λ v. v ∷ xs) heads ∙ ap (λ vs. y ∷ vs) (others.same tails);
    }

-- ---- digests

-- 64 own digits before the three of the checksum
own_length : (a : List ℕ) → IsDigest a → length (flat_map nibbles a) ≡ 64
own_length a digest = omega (arith, length-nibbles a, digest.whole)

-- no own digit is greater, where none of the 67 is
own_none_greater : (a b : List ℕ) → IsDigest a → IsDigest b → NoneGreater (digits_of a) (digits_of b) → NoneGreater (flat_map nibbles a) (flat_map nibbles b)
unfolding digits_of
own_none_greater a b a_digest b_digest none k =
    let a_own = flat_map nibbles a in
    let b_own = flat_map nibbles b in
    let a_length = own_length a a_digest in
    let b_length = own_length b b_digest in
    elim (cases_lt k 64) [
      | inl below ↦
          let of_a = get_or_append_left a_own (three_digits (checksum a_own)) 0 k (omega arith) in
          let of_b = get_or_append_left b_own (three_digits (checksum b_own)) 0 k (omega arith) in
          omega (arith, none k, of_a, of_b)
      | inr past ↦ omega (arith, get_or_past a_own k 0 (omega arith), get_or_past b_own k 0 (omega arith))
    ]

-- and the checksum isn't
checksum_none_greater : (a b : List ℕ) → IsDigest a → IsDigest b → NoneGreater (digits_of a) (digits_of b) →
    checksum (flat_map nibbles a) ≤ checksum (flat_map nibbles b)
unfolding digits_of
checksum_none_greater a b a_digest b_digest none =
    let a_own = flat_map nibbles a in
    let b_own = flat_map nibbles b in
    let a_sum = checksum a_own in
    let b_sum = checksum b_own in
    let of_a = λ (k : ℕ) (after : 64 ≤ k). get_or-append_right a_own (three_digits a_sum) 64 k 0 (own_length a a_digest) after in
    let of_b = λ (k : ℕ) (after : 64 ≤ k). get_or-append_right b_own (three_digits b_sum) 64 k 0 (own_length b b_digest) after in
    let highest : a_sum / 256 ≤ b_sum / 256 = omega (arith, none 64, of_a 64 (omega arith), of_b 64 (omega arith)) in
    let middle : a_sum / 16 % 16 ≤ b_sum / 16 % 16 = omega (arith, none 65, of_a 65 (omega arith), of_b 65 (omega arith)) in
    let lowest : a_sum % 16 ≤ b_sum % 16 = omega (arith, none 66, of_a 66 (omega arith), of_b 66 (omega arith)) in
    omega arith

-- Digests are equal where no digit of the first is greater: such own digits lower the checksum, or are equal.
pub equal_digests : (a b : List ℕ) → IsDigest a → IsDigest b → NoneGreater (digits_of a) (digits_of b) → a ≡ b
equal_digests a b a_digest b_digest none =
    let facts : Weighed a b = weighed a b (a_digest.whole ∙ sym b_digest.whole) a_digest.bytes b_digest.bytes
    (own_none_greater a b a_digest b_digest none) in
    let rises = checksum_none_greater a b a_digest b_digest none in
    let falls : checksum (flat_map nibbles b) ≤ checksum (flat_map nibbles a) = facts.falls in
    facts.same (omega arith)

-- the same, from the 67 places alone
pub equal_digests_67 : (a b : List ℕ) → IsDigest a → IsDigest b → ((k : ℕ) → k < 67 → get_or (digits_of a) k 0 ≤ get_or (digits_of b) k 0) → a ≡ b
equal_digests_67 a b a_digest b_digest none =
    equal_digests a b a_digest b_digest (λ k. elim (cases_lt k 67) [
      | inl below ↦ none k below
      | inr past ↦ omega (arith, get_or_past (digits_of a) k 0 (omega (arith, length-digits_of a, a_digest.whole)))
    ])

-- of the first n places, one has a smaller entry in the second list, or none has
smaller_or_none : (xs ys : List ℕ) (n : ℕ) →
    ((k : ℕ) × (k < n) × (get_or ys k 0 < get_or xs k 0)) ⊎ ((k : ℕ) → k < n → get_or xs k 0 ≤ get_or ys k 0)
smaller_or_none xs ys zero = inr (λ k below. absurd (omega arith))
smaller_or_none xs ys (suc n) = elim (smaller_or_none xs ys n) [
  | inl found ↦ inl (found.0, omega (arith, found.1), found.2)
  | inr none ↦ elim (cases_lt (get_or ys n 0) (get_or xs n 0)) [
    | inl smaller ↦ inl (n, omega arith, smaller)
    | inr not_smaller ↦ inr (λ k below. elim (cases_lt k n) [
      | inl before ↦ none k before
      | inr last ↦ let at : k ≡ n = omega arith in rw at not_smaller
    ])
  ]
]

-- Of two different digests the second has a digit smaller than the first's at the same place.
pub has_smaller_digit : (a b : List ℕ) → IsDigest a → IsDigest b → a ≢ b → HasSmallerDigit a b
has_smaller_digit a b a_digest b_digest differ = elim (smaller_or_none (digits_of a) (digits_of b) 67) [
  | inl found ↦ (found.0, (found.1, found.2))
  | inr none ↦ absurd (differ (equal_digests_67 a b a_digest b_digest none))
]

-- ---- from digits as they were computed

-- Where none of the second's digits is smaller, the digests are equal.
pub equal_where_none : (a b a_digits b_digits : List ℕ) (n : ℕ) → a_digits ≡ digits_of a → b_digits ≡ digits_of b →
    length a_digits ≡ 67 → length b_digits ≡ 67 → All (λ d. d < 16) a_digits → All (λ d. d < 16) b_digits →
    67 ≤ n → ((k : ℕ) → k < n → get_or a_digits k 0 ≤ get_or b_digits k 0) → a ≡ b
equal_where_none a b a_digits b_digits n a_made b_made a_whole b_whole a_small b_small all none =
    equal_digests_67 a b (digest_from_digits a_digits a a_made a_whole a_small) (digest_from_digits b_digits b b_made b_whole b_small)
    (λ k below. rw (← a_made, ← b_made) (none k (omega arith)))

-- Of two different digests each has a digit smaller than the other's at the same place.
pub differ_both_ways : (a b a_digits b_digits : List ℕ) → a_digits ≡ digits_of a → b_digits ≡ digits_of b →
    length a_digits ≡ 67 → length b_digits ≡ 67 → All (λ d. d < 16) a_digits → All (λ d. d < 16) b_digits →
    a ≢ b → HasSmallerDigit a b × HasSmallerDigit b a
differ_both_ways a b a_digits b_digits a_made b_made a_whole b_whole a_small b_small differ =
    let first = digest_from_digits a_digits a a_made a_whole a_small in
    let second = digest_from_digits b_digits b b_made b_whole b_small in
    (has_smaller_digit a b first second differ, has_smaller_digit b a second first (λ equal. differ (sym equal)))
