-- How single words are spelled: decimal numbers, bytes in hexadecimal, labels.
use Rattle.std.specs.Prelude.{ℕ, ◌+◌, ◌-◌, ◌*◌, List, [], ◌∷◌, length, Bool, true, false, not, ◌&&◌, ◌||◌, ◌==◌, nat_le, nat_lt, Option, Some, None, if◌then◌else◌}
use Rattle.std.specs.List.{list_all}
use Rattle.std.specs.Result.{result_ok}
use Rattle.depot_base.specs.declared.limits.TheConstants.{MOST_NAME}
use Rattle.hex.specs.Hex.{decode_of}
use Rattle.depot_model.specs.lists.Lists.{when}

-- ---- words of a line

-- neither space (32) nor LF (10)
abbrev pub is_word_byte : ℕ → Bool
is_word_byte b = not (b == 32 || b == 10)

-- one byte or more, none of them space or LF
abbrev pub is_word : List ℕ → Bool
is_word word = nat_lt 0 (length word) && list_all is_word_byte word

-- ---- numbers

-- from low to high
abbrev pub is_within : ℕ → ℕ → ℕ → Bool
is_within low high n = nat_le low n && nat_le n high

-- 0 (48) to 9 (57)
abbrev pub is_digit : ℕ → Bool
is_digit b = is_within 48 57 b

-- the number that decimal digits denote, where those before them denote n
unfoldable pub value_behind : ℕ → List ℕ → ℕ
value_behind n [] = n
value_behind n (b ∷ bs) = value_behind (n * 10 + (b - 48)) bs

-- the first byte is no 0 where another follows
abbrev pub has_no_leading_zero : List ℕ → Bool
has_no_leading_zero [] = true
has_no_leading_zero (b ∷ []) = true
has_no_leading_zero (b ∷ c ∷ bs) = not (b == 48)

-- 1 to 19 decimal digits without leading zeros: each such number has 64 bits
abbrev pub is_number : List ℕ → Bool
is_number word = is_within 1 19 (length word) && list_all is_digit word && has_no_leading_zero word

-- the number from low to high that a word is in decimal
abbrev pub number_word : ℕ → ℕ → List ℕ → Option ℕ
number_word low high word = when (is_number word && is_within low high (value_behind 0 word)) (value_behind 0 word)

-- ---- hexadecimal

-- 0 (48) to 9 (57), or a (97) to f (102)
abbrev pub is_lower_digit : ℕ → Bool
is_lower_digit b = is_digit b || is_within 97 102 b

-- the bytes of a word in lower-case hexadecimal
abbrev pub hex_word : List ℕ → Option (List ℕ)
hex_word word = if list_all is_lower_digit word then result_ok (decode_of word) else None

-- the bytes, if their number passes the test
abbrev pub sized : (ℕ → Bool) → Option (List ℕ) → Option (List ℕ)
sized test None = None
sized test (Some bytes) = when (test (length bytes)) bytes

-- ---- labels

-- a (97) to z (122)
abbrev pub is_letter : ℕ → Bool
is_letter b = is_within 97 122 b

abbrev pub is_label_byte : ℕ → Bool
is_label_byte b = is_letter b || is_digit b

-- 1 to 32 lower-case letters and digits, the first a letter
abbrev pub is_label : List ℕ → Bool
is_label [] = false
is_label (b ∷ bs) = is_letter b && list_all is_label_byte bs && nat_le (length bs) 31

-- ---- names of files

-- 1 to 4,096 bytes without space or LF
abbrev pub is_plain_name : List ℕ → Bool
is_plain_name word = is_within 1 MOST_NAME (length word) && list_all is_word_byte word
