-- The kinds of words for which nothing matters that precedes them.
use Rattle.std.specs.Prelude.{◌≡◌, ℕ, ◌≤◌, Bool, true, not, ◌&&◌, ◌||◌, List, [], ◌∷◌, ◌++◌, length, Option, Some, None, is_some, Result, Ok, Err, nat_le, codes, if◌then◌else◌}
use Rattle.std.specs.Fmt.{decimal}
use Rattle.std.specs.Str.{bytes_eq}
use Rattle.depot_base.specs.Parts.{is_below}
use Rattle.depot_base.specs.Shown.{IsPairKind}
use Rattle.depot_base.specs.declared.limits.TheConstants.{MOST_KEY, MOST_VALUE, MOST_WRITES, MOST_NODES}
use Rattle.hex.specs.Hex.{encode_lower, IsBytes}
use Rattle.depot_base.specs.declared.proof.Kind.{Kind}
use Rattle.depot_base.specs.declared.proof.Kind.TheVariants.{SameNumber, SamePrev, Backward}
use Rattle.depot_base.specs.declared.write.Change.{Change}
use Rattle.depot_model.specs.readers.Checkpoints.{is_checkpoint_key}
use Rattle.depot_model.specs.texts.Lines.{name_of_kind}
use Rattle.depot_model.specs.worlds.Receipts.{receipt_of}
use Rattle.depot_lines.specs.declared.line_fault.LineFault.{LineFault}
use Rattle.depot_lines.specs.declared.line_fault.LineFault.TheVariants as is
use Rattle.depot_lines.specs.declared.changes.Keys.{Keys}
use Rattle.depot_lines.specs.declared.changes.Keys.TheVariants as keys
use Rattle.depot_lines.specs.Spelling.{is_within, number_word, hex_word, sized, is_label}
use Rattle.depot_base.specs.Format.{◌>>=◌}
use Rattle.depot_lines.specs.Language.{nothing, or_fault, split, FitsOption, Word, such_that, or_empty, parts_of}

-- ---- numbers

-- a number from low to high in decimal; any other word has this fault
abbrev pub number_or : {C : Type 0} → LineFault → ℕ → ℕ → Word C ℕ
number_or fault low high = record {
  fits = λ c n. (low ≤ n) × (n ≤ high);
  text = decimal;
  read = λ c word. or_fault (number_word low high word) fault;
}

-- a number from low to high in decimal
abbrev pub number_between : {C : Type 0} → ℕ → ℕ → Word C ℕ
number_between low high = number_or is.Number low high

-- the id of a node
abbrev pub id : {C : Type 0} → Word C ℕ
id = number_between 1 65535

-- any number of 32 bits
abbrev pub any_u32 : {C : Type 0} → Word C ℕ
any_u32 = number_between 0 4294967295

-- a clock, from 1 to 2^63 - 1
abbrev pub clock : {C : Type 0} → Word C ℕ
clock = number_between 1 9223372036854775807

-- a number of nodes
abbrev pub node_count : {C : Type 0} → Word C ℕ
node_count = number_between 1 MOST_NODES

-- ---- bytes

-- bytes in lower-case hexadecimal, as many as the test allows
abbrev pub hex : {C : Type 0} → (ℕ → Bool) → Word C (List ℕ)
hex test = record {
  fits = λ c bytes. (test (length bytes) ≡ true) × IsBytes bytes;
  text = encode_lower;
  read = λ c word. or_fault (sized test (hex_word word)) is.Hex;
}

-- a key: 1 to 255 bytes
abbrev pub key : {C : Type 0} → Word C (List ℕ)
key = hex (is_within 1 MOST_KEY)

-- a key that a node may be asked to write: none has the form of a receipt's or of a checkpoint's, which these alone write
abbrev pub put_key : {C : Type 0} → Word C (List ℕ)
put_key = such_that key (λ c k. not (is_some (receipt_of k) || is_checkpoint_key k)) is.Hex

-- a value: at most 65,536 bytes
abbrev pub value : {C : Type 0} → Word C (List ℕ)
value = or_empty (hex (is_within 1 MOST_VALUE))

-- bytes as they are, however many
abbrev pub raw_bytes : {C : Type 0} → Word C (List ℕ)
raw_bytes = or_empty (hex (nat_le 1))

-- a digest of 32 bytes
abbrev pub digest_word : {C : Type 0} → Word C (List ℕ)
digest_word = hex (is_within 32 32)

-- ---- labels

abbrev pub label : {C : Type 0} → Word C (List ℕ)
label = record {
  fits = λ c l. is_label l ≡ true;
  text = λ l. l;
  read = λ c word. if is_label word then Ok word else Err is.Label;
}

-- ---- kinds

-- the kind of contradiction of two statements that has this name
abbrev pub kind_named : List ℕ → Option Kind
kind_named word =
    if bytes_eq word (codes "SameNumber") then Some SameNumber else
    if bytes_eq word (codes "SamePrev") then Some SamePrev else
    if bytes_eq word (codes "Backward") then Some Backward else None

-- a kind of contradiction of two statements
abbrev pub kind : {C : Type 0} → Word C Kind
kind = record {
  fits = λ c k. IsPairKind k;
  text = name_of_kind;
  read = λ c word. or_fault (kind_named word) is.Label;
}

-- ---- writes

-- the keys that may occur here
abbrev pub key_by : {C : Type 0} → Keys → Word C (List ℕ)
key_by keys.Any = key
key_by keys.Put = put_key

abbrev pub FitsChange : Keys → Change → Type 0
FitsChange by c = (key_by {C = Unit {0}} by).fits nothing c.key × FitsOption ((value {C = Unit {0}}).fits nothing) c.value

-- what follows a key: `=` (61) and the value, or `!` (33) where it is deleted
abbrev pub text_behind_key : Option (List ℕ) → List ℕ
text_behind_key None = 33 ∷ []
text_behind_key (Some v) = 61 ∷ (value {C = Unit {0}}).text v

abbrev pub text_of_change : Change → List ℕ
text_of_change c = encode_lower c.key ++ text_behind_key c.value

-- the change that the words round an equals sign are
abbrev pub put_of : Keys → List ℕ → List ℕ → Result Change LineFault
put_of by key_word value_word = (key_by by).read nothing key_word >>= λ k. value.read nothing value_word >>= λ v. Ok (record { key = k; value = Some v })

-- the deletion that the parts round an exclamation mark are: nothing follows it
abbrev pub deletion_of : Keys → List (List ℕ) → Result Change LineFault
deletion_of by [] = Err is.Hex
deletion_of by (key_word ∷ []) = Err is.Hex
deletion_of by (key_word ∷ [] ∷ []) = (key_by by).read nothing key_word >>= λ k. Ok (record { key = k; value = None })
deletion_of by (key_word ∷ (b ∷ bs) ∷ []) = Err is.Hex
deletion_of by (key_word ∷ behind ∷ more ∷ rest) = Err is.Hex

-- the change that the parts between equals signs are
abbrev pub change_of : Keys → List (List ℕ) → Result Change LineFault
change_of by [] = Err is.Hex
change_of by (word ∷ []) = deletion_of by (split 33 word)
change_of by (key_word ∷ value_word ∷ []) = put_of by key_word value_word
change_of by (key_word ∷ value_word ∷ more ∷ rest) = Err is.Hex

-- a key and its value, as `KEY=VALUE`, or a deletion of a key, as `KEY!`
abbrev pub change : {C : Type 0} → Keys → Word C Change
change by = record {
  fits = λ c. FitsChange by;
  text = text_of_change;
  read = λ c word. change_of by (split 61 word);
}

-- the keys rise strictly, the first of them above this one
abbrev pub rise_behind : List ℕ → List Change → Bool
rise_behind before [] = true
rise_behind before (c ∷ cs) = is_below before c.key && rise_behind c.key cs

-- the keys rise strictly
abbrev pub keys_rise : List Change → Bool
keys_rise [] = true
keys_rise (c ∷ cs) = rise_behind c.key cs

-- 1 to 16 changes, whose keys rise strictly
abbrev pub changes : {C : Type 0} → Keys → Word C (List Change)
changes by = such_that (parts_of (change by)) (λ c cs. nat_le (length cs) MOST_WRITES && keys_rise cs) is.Hex
