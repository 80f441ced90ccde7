-- The digits of a digest.
use Rattle.std.proofs.Common.{◌≡◌, ℕ, ◌+◌, ◌-◌, ◌*◌, ◌/◌, ◌%◌, ◌<◌, ◌≤◌, List, [], ◌∷◌, ◌++◌, length, take, drop, set, get_or, refl, arith, sym, ap, ◌∙◌, All}
use Rattle.std.specs.List.{flat_map}
use Rattle.std.proofs.lemmas.List.{take-append-drop, length-take, length-drop, length-append, set-append_right, take_all, take_at}
use Rattle.std.proofs.lemmas.List.Elements.{All-nil, All-cons, All-head, All-tail, All-append, All-from_get_or, All-take, All-same}
use Rattle.std.proofs.lemmas.List.Sums.{sum_by-cons}
use Rattle.depot_model.specs.texts.Winternitz.{nibbles, checksum, three_digits, digits_of}

-- what a digest is: 32 bytes
pub record IsDigest (digest : List ℕ) : Type 0 where
  pub whole : length digest ≡ 32
  pub bytes : All (λ x. x < 256) digest

-- ---- what the digits are made of

-- two digits a byte
pub length-nibbles : (digest : List ℕ) → length (flat_map nibbles digest) ≡ 2 * length digest
length-nibbles [] = refl
length-nibbles (x ∷ xs) = omega (arith, length-nibbles xs)

-- and three for the checksum
pub length-digits_of : (digest : List ℕ) → length (digits_of digest) ≡ 2 * length digest + 3
unfolding digits_of
length-digits_of digest =
    let own = flat_map nibbles digest in
    omega (arith, length-append own (three_digits (checksum own)), length-nibbles digest)

-- the checksum is that of the first digit and of the others
pub checksum-cons : (d : ℕ) (ds : List ℕ) → checksum (d ∷ ds) ≡ 15 - d + checksum ds
checksum-cons d ds = sum_by-cons (λ x. 15 - x) d ds

-- the checksum is at most 15 a digit
pub checksum-le : (ds : List ℕ) → checksum ds ≤ 15 * length ds
checksum-le [] = omega arith
checksum-le (d ∷ ds) = omega (arith, checksum-cons d ds, checksum-le ds)

-- the digits of bytes are below 16
pub nibbles_small : (digest : List ℕ) → All (λ x. x < 256) digest → All (λ d. d < 16) (flat_map nibbles digest)
nibbles_small [] bytes = All-nil (λ d. d < 16)
nibbles_small (x ∷ xs) bytes =
    let byte : x < 256 = All-head (λ y. y < 256) x xs bytes in
    let others = nibbles_small xs (All-tail (λ y. y < 256) x xs bytes) in
    All-cons (λ d. d < 16) (x / 16) (x % 16 ∷ flat_map nibbles xs) (omega arith)
    (All-cons (λ d. d < 16) (x % 16) (flat_map nibbles xs) (omega arith) others)

-- bytes whose digits are below 16 are below 256
pub bytes_small : (digest : List ℕ) → All (λ d. d < 16) (flat_map nibbles digest) → All (λ x. x < 256) digest
bytes_small [] digits = All-nil (λ x. x < 256)
bytes_small (x ∷ xs) digits =
    let high : x / 16 < 16 = All-head (λ d. d < 16) (x / 16) (x % 16 ∷ flat_map nibbles xs) digits in
    let after_high = All-tail (λ d. d < 16) (x / 16) (x % 16 ∷ flat_map nibbles xs) digits in
    All-cons (λ y. y < 256) x xs (omega arith) (bytes_small xs (All-tail (λ d. d < 16) (x % 16) (flat_map nibbles xs) after_high))

-- all 67 digits of a digest are below 16
pub digits_small : (digest : List ℕ) → IsDigest digest → All (λ d. d < 16) (digits_of digest)
unfolding digits_of
digits_small digest is =
    let own = flat_map nibbles digest in
    let sum = checksum own in
    let below : sum < 4096 = omega (arith, checksum-le own, length-nibbles digest, is.whole) in
    let checks = All-cons (λ d. d < 16) (sum / 256) (sum / 16 % 16 ∷ sum % 16 ∷ []) (omega arith)
    (All-cons (λ d. d < 16) (sum / 16 % 16) (sum % 16 ∷ []) (omega arith)
    (All-cons (λ d. d < 16) (sum % 16) [] (omega arith) (All-nil (λ d. d < 16)))) in
    All-append (λ d. d < 16) own (three_digits sum) (nibbles_small digest is.bytes) checks

-- 67 digits below 16 are those of a digest
pub digest_from_digits : (digits digest : List ℕ) → digits ≡ digits_of digest → length digits ≡ 67 → All (λ d. d < 16) digits → IsDigest digest
unfolding digits_of
digest_from_digits digits digest made whole small =
    let own = flat_map nibbles digest in
    let checks = three_digits (checksum own) in
    let all : All (λ d. d < 16) (own ++ checks) = rw made at small in
    let own_all : All (λ d. d < 16) own =
    All-same (λ d. d < 16) own (take (length own) (own ++ checks)) (sym (take_at own checks (length own) refl))
    (All-take (λ d. d < 16) (length own) (own ++ checks) all) in
    record {
      whole = omega (arith, ap length made, length-digits_of digest);
      bytes = bytes_small digest own_all;
    }

-- ---- the digits as they are written

-- the same for digits that are made of bytes whose range was seen one after another
pub digits_small_from : (digits digest : List ℕ) (n : ℕ) → digits ≡ digits_of digest → length digest ≡ 32 → n ≡ 32 →
    ((k : ℕ) → k < n → get_or digest k 0 < 256) → All (λ d. d < 16) digits
digits_small_from digits digest n made whole end bytes =
    let is : IsDigest digest = record {
      whole = whole;
      bytes = All-from_get_or (λ x. x < 256) digest 0 (λ k below. bytes k (omega arith));
    } in
    rw made (digits_small digest is)

-- three places, each written
three_written : (rest : List ℕ) (a b c : ℕ) → length rest ≡ 3 → set (set (set rest 0 a) 1 b) 2 c ≡ a ∷ b ∷ c ∷ []
three_written [] a b c three = absurd (omega arith)
three_written (x ∷ []) a b c three = absurd (omega arith)
three_written (x ∷ y ∷ []) a b c three = absurd (omega arith)
three_written (x ∷ y ∷ z ∷ []) a b c three = refl
three_written (x ∷ y ∷ z ∷ w ∷ rest) a b c three = absurd (omega arith)

-- three places after a prefix, each written
write_after : (own rest : List ℕ) (a b c : ℕ) → length own ≡ 64 →
    set (set (set (own ++ rest) 64 a) 65 b) 66 c ≡ own ++ set (set (set rest 0 a) 1 b) 2 c
write_after own rest a b c front =
    rw (
      set-append_right own rest 64 64 a front (omega arith),
      set-append_right own (set rest 0 a) 64 65 b front (omega arith),
      set-append_right own (set (set rest 0 a) 1 b) 64 66 c front (omega arith),
    )

-- the own digits at the front, and the digits of their checksum written after them
pub digits_made : (digits digest : List ℕ) (n sum : ℕ) → length digits ≡ 67 → n ≡ 32 → length digest ≡ 32 →
    take (2 * n) digits ≡ flat_map nibbles (take n digest) → sum ≡ checksum (flat_map nibbles (take n digest)) →
    set (set (set digits 64 (sum / 256)) 65 (sum / 16 % 16)) 66 (sum % 16) ≡ digits_of digest
unfolding digits_of
digits_made digits digest n sum whole end bytes own_is sum_is =
    let all : take n digest ≡ digest = take_all n digest (omega arith) in
    let front : take (2 * n) digits ≡ flat_map nibbles digest = own_is ∙ ap (flat_map nibbles) all in
    let total : sum ≡ checksum (flat_map nibbles digest) = sum_is ∙ ap (λ xs. checksum (flat_map nibbles xs)) all in
    let split : digits ≡ take 64 digits ++ drop 64 digits = sym (take-append-drop 64 digits) in
    let double : 2 * n ≡ 64 = omega arith in
    let own : take 64 digits ≡ flat_map nibbles digest = rw double at front in
    let front_length : length (take 64 digits) ≡ 64 = omega (arith, length-take 64 digits) in
    let rest_length : length (drop 64 digits) ≡ 3 = omega (arith, length-drop 64 digits) in
    ap (λ xs. set (set (set xs 64 (sum / 256)) 65 (sum / 16 % 16)) 66 (sum % 16)) split
    ∙ write_after (take 64 digits) (drop 64 digits) (sum / 256) (sum / 16 % 16) (sum % 16) front_length
    ∙ ap (λ xs. take 64 digits ++ xs) (three_written (drop 64 digits) (sum / 256) (sum / 16 % 16) (sum % 16) rest_length)
    ∙ rw (own, total)
