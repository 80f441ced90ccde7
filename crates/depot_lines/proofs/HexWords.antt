-- Bytes in hexadecimal are lawful words.
use Rattle.std.proofs.Common.{◌≡◌, ℕ, suc, ◌+◌, ◌*◌, ◌/◌, ◌%◌, ◌<◌, ◌≤◌, Bool, true, false, not, cond, leb, eqb, ◌&&◌, ◌||◌, List, [], ◌∷◌, length, slice_index, Option, Some, None, is_some, Result, Ok, Err, refl, sym, subst, arith, inl, inr}
use Rattle.std.specs.List.{list_all}
use Rattle.std.specs.Option.{unwrap_or}
use Rattle.std.specs.Result.{result_ok}
use Rattle.std.proofs.lemmas.Bool.{leb-true, lt-ltb, and_parts, and_from, agree_below_at, eqb-true, or_cases}
use Rattle.hex.specs.Hex.{encode_lower, encode_with, lower_digits, decode_of, decode_pairs, pair_value, value_at, hex_digit_value, digit_or_error, IsBytes}
use Rattle.hex.specs.declared.error.FromHexError.{FromHexError}
use Rattle.hex.specs.declared.error.FromHexError.TheVariants.{OddLength}
use Rattle.hex.proofs.HexLemmas.{decode_of-encode_lower, decode_pairs-ok, length-encode_with}
use Rattle.depot_model.specs.readers.Checkpoints.{is_checkpoint_key}
use Rattle.depot_model.specs.worlds.Receipts.{receipt_of}
use Rattle.depot_lines.specs.declared.line_fault.LineFault.TheVariants as is
use Rattle.depot_lines.specs.Spelling.{is_word, is_word_byte, is_within, is_lower_digit, hex_word, sized}
use Rattle.depot_lines.specs.Vocabulary.{hex, key, put_key, value, raw_bytes, digest_word}
use Rattle.depot_lines.proofs.LanguageLaws.{LawfulWord, bind_ok, or_fault_ok, such_that_lawful, or_empty_lawful, if_some, never}
use Rattle.depot_lines.proofs.Splitting.{all_weaker}

-- ---- one digit

-- a lower digit is the one that its value is written by
abbrev returns : ℕ → Bool
returns c = not (is_lower_digit c) || eqb (slice_index lower_digits (unwrap_or (hex_digit_value c) 99)) c

digits_return : (c : ℕ) → c < 128 → returns c ≡ true
digits_return c lt = agree_below_at returns (λ n. true) 128 c refl lt

abbrev writes : ℕ → Bool
writes d = is_lower_digit (slice_index lower_digits d)

digits_write : (d : ℕ) → d < 16 → is_lower_digit (slice_index lower_digits d) ≡ true
digits_write d lt = agree_below_at writes (λ n. true) 16 d refl lt

lower_is_small : (c : ℕ) → is_lower_digit c ≡ true → c < 128
lower_is_small c e = elim (or_cases (leb 48 c && leb c 57) (leb 97 c && leb c 102) e) [
  | inl a ↦ let le : c ≤ 57 = leb-true _ _ (and_parts (leb 48 c) (leb c 57) a).1 in omega arith
  | inr a ↦ let le : c ≤ 102 = leb-true _ _ (and_parts (leb 97 c) (leb c 102) a).1 in omega arith
]

or_no : (a b : Bool) → a ≡ true → (not a || b) ≡ true → b ≡ true
or_no true b h e = e
or_no false b h e = absurd cc

digit_back : (c v : ℕ) → is_lower_digit c ≡ true → hex_digit_value c ≡ Some v → slice_index lower_digits v ≡ c
digit_back c v lower e =
    let r = digits_return c (lower_is_small c lower) in
    let q = or_no (is_lower_digit c) (eqb (slice_index lower_digits (unwrap_or (hex_digit_value c) 99)) c) lower r in
    let is = eqb-true (slice_index lower_digits (unwrap_or (hex_digit_value c) 99)) c q in
    subst (λ (o : Option ℕ). slice_index lower_digits (unwrap_or o 99) ≡ c) e is

-- ---- pairs

value_of_digit : (c i : ℕ) (o : Option ℕ) (v : ℕ) → digit_or_error c i o ≡ Ok v → o ≡ Some v
value_of_digit c i (Some w) v h = cc
value_of_digit c i None v h = absurd cc

value_small : (c v : ℕ) → hex_digit_value c ≡ Some v → v < 16
value_small c v h = grind (arith)

pub encode_decoded : (i : ℕ) (t v : List ℕ) → list_all is_lower_digit t ≡ true → decode_pairs i t ≡ Ok v → encode_lower v ≡ t
unfolding decode_pairs encode_with
encode_decoded i [] v lower e = let n : [] ≡ v = cc in rw (← n) refl
encode_decoded i (a ∷ []) v lower e = absurd cc
encode_decoded i (a ∷ b ∷ rest) v lower e =
    let p = and_parts (is_lower_digit a) (is_lower_digit b && list_all is_lower_digit rest) lower in
    let q = and_parts (is_lower_digit b) (list_all is_lower_digit rest) p.1 in
    let p0 = bind_ok (pair_value a b i) _ v e in
    let p1 = bind_ok (value_at a i) _ p0.0 p0.1 in
    let p2 = bind_ok (value_at b (i + 1)) _ p0.0 p1.2 in
    let p3 = bind_ok (decode_pairs (i + 2) rest) _ v p0.2 in
    let ih = encode_decoded (i + 2) rest p3.0 q.1 p3.1 in
    let va = value_of_digit a i (hex_digit_value a) p1.0 p1.1 in
    let vb = value_of_digit b (i + 1) (hex_digit_value b) p2.0 p2.1 in
    let sa : p1.0 < 16 = value_small a p1.0 va in
    let sb : p2.0 < 16 = value_small b p2.0 vb in
    let byte : p1.0 * 16 + p2.0 ≡ p0.0 = cc (p2.2) in
    let whole : p0.0 ∷ p3.0 ≡ v = cc (p3.2) in
    let high : p0.0 / 16 ≡ p1.0 = omega arith in
    let low : p0.0 % 16 ≡ p2.0 = omega arith in
    rw (← whole, high, low, digit_back a p1.0 p.0 va, digit_back b p2.0 q.0 vb, ih) refl

guard_odd : (b : Bool) (x : Result (List ℕ) FromHexError) (v : List ℕ) → cond b (Err OddLength) x ≡ Ok v → x ≡ Ok v
guard_odd true x v e = absurd cc
guard_odd false x v e = e

result_is : (r : Result (List ℕ) FromHexError) (v : List ℕ) → result_ok r ≡ Some v → r ≡ Ok v
result_is (Ok x) v e = cc
result_is (Err f) v e = absurd cc

lower_then : (b : Bool) (o : Option (List ℕ)) (v : List ℕ) → cond b o None ≡ Some v → (b ≡ true) × (o ≡ Some v)
lower_then true o v e = (refl, e)
lower_then false o v e = absurd cc

-- a hexadecimal word is that of its bytes
pub text_of_hex : (t v : List ℕ) → hex_word t ≡ Some v → (t ≡ encode_lower v) × IsBytes v × (list_all is_lower_digit t ≡ true)
text_of_hex t v e =
    let l = lower_then (list_all is_lower_digit t) (result_ok (decode_of t)) v e in
    let d = guard_odd (eqb (length t % 2) 1) (decode_pairs 0 t) v (result_is (decode_of t) v l.1) in
    (sym (encode_decoded 0 t v l.0 d), (decode_pairs-ok 0 t v d).2, l.0)

bytes_tail : (b : ℕ) (bs : List ℕ) → IsBytes (b ∷ bs) → IsBytes bs
bytes_tail b bs h = λ i. h (suc i)

pub lower_encoded : (v : List ℕ) → IsBytes v → list_all is_lower_digit (encode_lower v) ≡ true
unfolding encode_with
lower_encoded [] h = refl
lower_encoded (b ∷ bs) h =
    let small : b < 256 = h 0 in
    and_from _ _ (digits_write (b / 16) (omega arith)) (and_from _ _ (digits_write (b % 16) (omega arith)) (lower_encoded bs (bytes_tail b bs h)))

-- and the other way round
pub hex_of_text : (v : List ℕ) → IsBytes v → hex_word (encode_lower v) ≡ Some v
hex_of_text v h = rw (lower_encoded v h, decode_of-encode_lower v h) refl

lower_is_plain : (b : ℕ) → is_lower_digit b ≡ true → is_word_byte b ≡ true
lower_is_plain b e = let lt = lower_is_small b e in or_no (is_lower_digit b) (is_word_byte b) e (agree_below_at (λ n. not (is_lower_digit n) || is_word_byte n) (λ n. true) 128 b refl lt)

pub plain_hex : (v : List ℕ) → 0 < length v → IsBytes v → is_word (encode_lower v) ≡ true
plain_hex v some h =
    let len = length-encode_with lower_digits v in
    and_from _ _ (lt-ltb _ _ (omega arith)) (all_weaker is_lower_digit is_word_byte lower_is_plain (encode_lower v) (lower_encoded v h))

sized_some : (test : ℕ → Bool) (o : Option (List ℕ)) (v : List ℕ) → sized test o ≡ Some v → (o ≡ Some v) × (test (length v) ≡ true)
sized_some test None v e = absurd cc
sized_some test (Some b) v e = elim (if_some (test (length b)) b None v e) [
  | inl a ↦ subst (λ (x : List ℕ). (Some b ≡ Some x) × (test (length x) ≡ true)) a.1 (refl, a.0)
  | inr a ↦ absurd cc
]

-- bytes of a number that passes a test which 0 doesn't
passes_some : (test : ℕ → Bool) → test 0 ≡ false → (v : List ℕ) → test (length v) ≡ true → 0 < length v
passes_some test none [] e = absurd cc
passes_some test none (b ∷ bs) e = omega arith

pub hex_lawful : {C : Type 0} (test : ℕ → Bool) → test 0 ≡ false → LawfulWord (hex {C = C} test)
hex_lawful {C = C} test none = record {
  takes = λ c t v e.
      let s = sized_some test (hex_word t) v (or_fault_ok (sized test (hex_word t)) is.Hex v e) in
      let h = text_of_hex t v s.0 in
      ((s.1, h.1), h.0);
  again = λ c v fits. rw (hex_of_text v fits.1, fits.0) refl;
  plain = λ c v fits. plain_hex v (passes_some test none v fits.0) fits.1;
}

pub key_lawful : {C : Type 0} → LawfulWord (key {C = C})
key_lawful = hex_lawful (is_within 1 255) refl

pub put_key_lawful : {C : Type 0} → LawfulWord (put_key {C = C})
put_key_lawful = such_that_lawful key (λ c k. not (is_some (receipt_of k) || is_checkpoint_key k)) is.Hex key_lawful

pub value_lawful : {C : Type 0} → LawfulWord (value {C = C})
value_lawful {C = C} = or_empty_lawful (hex (is_within 1 65536)) (hex_lawful (is_within 1 65536) refl) (λ c fits. never fits.0) (λ c. (is.Hex, refl))

pub raw_lawful : {C : Type 0} → LawfulWord (raw_bytes {C = C})
raw_lawful {C = C} = or_empty_lawful (hex (leb 1)) (hex_lawful (leb 1) refl) (λ c fits. never fits.0) (λ c. (is.Hex, refl))

pub digest_lawful : {C : Type 0} → LawfulWord (digest_word {C = C})
digest_lawful = hex_lawful (is_within 32 32) refl
