-- A language for lines of words: which values have a line, which words that line has, and what is wrong with other words.
--
-- Each kind of line is described once, by its words from left to right. The ways to describe one are below. For each
-- way it is proved once that a line's words are read back, and that all other words are refused with their first fault.
-- What may occur in a line can depend on what precedes it: the context C. For a line of a schedule this is the schedule
-- so far.
use Rattle.std.specs.Prelude.{◌≡◌, ℕ, ◌<◌, Bool, true, List, [], ◌∷◌, length, map, Option, Some, None, Result, Ok, Err, nat_le, ◌==◌, if◌then◌else◌}
use Rattle.std.specs.List.{slice_split, join_with_byte}
use Rattle.std.specs.Str.{bytes_eq}
use Rattle.depot_base.specs.Format.{◌>>=◌}
use Rattle.depot_lines.specs.declared.line_fault.LineFault.{LineFault}
use Rattle.depot_lines.specs.declared.line_fault.LineFault.TheVariants as is
use Rattle.depot_lines.specs.Spelling.{is_within}

-- the value, or this fault where there is none
abbrev pub or_fault : {A F : Type 0} → Option A → F → Result A F
or_fault None f = Err f
or_fault (Some a) f = Ok a

-- ---- separators

-- the parts between separators: one more than there are separators
abbrev pub split : ℕ → List ℕ → List (List ℕ)
split separator text = slice_split (λ b. b == separator) text

-- parts with separators between them
abbrev pub join : ℕ → List (List ℕ) → List ℕ
join separator parts = join_with_byte separator parts

-- ---- kinds of words

pub record Word (C A : Type 0) : Type 1 where
  -- which values have a word here
  pub fits : C → A → Type 0
  -- that word
  pub text : A → List ℕ
  -- the value of a word, or what is first wrong with it
  pub read : C → List ℕ → Result A LineFault

-- the context of a word for which nothing matters that precedes it
abbrev pub nothing : Unit {0}
nothing = tt

-- a word whose value passes a test; else it has this fault
abbrev pub such_that : {C A : Type 0} → Word C A → (C → A → Bool) → LineFault → Word C A
such_that first test fault = record {
  fits = λ c a. first.fits c a × (test c a ≡ true);
  text = first.text;
  read = λ c word. first.read c word >>= λ a. if test c a then Ok a else Err fault;
}

-- the word `-`
abbrev pub dash : List ℕ
dash = 45 ∷ []

abbrev pub FitsOption : {A : Type 0} → (A → Type 0) → Option A → Type 0
FitsOption fits None = Unit {0}
FitsOption fits (Some a) = fits a

abbrev pub text_or_dash : {A : Type 0} → (A → List ℕ) → Option A → List ℕ
text_or_dash text None = dash
text_or_dash text (Some a) = text a

-- a word, or `-` for no value
abbrev pub or_none : {C A : Type 0} → Word C A → Word C (Option A)
or_none first = record {
  fits = λ c. FitsOption (first.fits c);
  text = text_or_dash first.text;
  read = λ c word. if bytes_eq word dash then Ok None else (first.read c word >>= λ a. Ok (Some a));
}

abbrev pub FitsIfAny : {X : Type 0} → (List X → Type 0) → List X → Type 0
FitsIfAny fits [] = Unit {0}
FitsIfAny fits (x ∷ xs) = fits (x ∷ xs)

abbrev pub text_if_any : {X : Type 0} → (List X → List ℕ) → List X → List ℕ
text_if_any text [] = dash
text_if_any text (x ∷ xs) = text (x ∷ xs)

-- a word for a list, or `-` for the empty list
abbrev pub or_empty : {C X : Type 0} → Word C (List X) → Word C (List X)
or_empty first = record {
  fits = λ c. FitsIfAny (first.fits c);
  text = text_if_any first.text;
  read = λ c word. if bytes_eq word dash then Ok [] else first.read c word;
}

-- ---- words of several parts

-- the rank of a fault, in the order in which faults are looked for
abbrev pub rank_of : LineFault → ℕ
rank_of is.End = 0
rank_of is.Long = 1
rank_of is.Header = 2
rank_of is.Word = 3
rank_of is.Fields = 4
rank_of is.Number = 5
rank_of is.Hex = 6
rank_of is.Node = 7
rank_of is.Label = 8

-- the one that is looked for first
abbrev pub earlier : LineFault → LineFault → LineFault
earlier f g = if nat_le (rank_of f) (rank_of g) then f else g

-- a part and those after it; of two faults the one that is looked for first
abbrev pub with_parts : {A : Type 0} → Result A LineFault → Result (List A) LineFault → Result (List A) LineFault
with_parts (Ok a) (Ok rest) = Ok (a ∷ rest)
with_parts (Ok a) (Err g) = Err g
with_parts (Err f) (Ok rest) = Err f
with_parts (Err f) (Err g) = Err (earlier f g)

abbrev pub read_parts : {A : Type 0} → (List ℕ → Result A LineFault) → List (List ℕ) → Result (List A) LineFault
read_parts read [] = Ok []
read_parts read (part ∷ parts) = with_parts (read part) (read_parts read parts)

abbrev pub FitAll : {A : Type 0} → (A → Type 0) → List A → Type 0
FitAll fits [] = Unit {0}
FitAll fits (a ∷ rest) = fits a × FitAll fits rest

-- one part or more, with commas (44) between them
abbrev pub parts_of : {C A : Type 0} → Word C A → Word C (List A)
parts_of part = record {
  fits = λ c list. (0 < length list) × FitAll (part.fits c) list;
  text = λ list. join 44 (map part.text list);
  read = λ c word. read_parts (part.read c) (split 44 word);
}

-- ---- kinds of lines

pub record Words (C E : Type 0) : Type 1 where
  -- which values have such a line here
  pub fits : C → E → Type 0
  -- its words
  pub text : E → List (List ℕ)
  -- the value of some words, or what is first wrong with them
  pub read : C → List (List ℕ) → Result E LineFault

-- the value of the next word, and the words after it
abbrev pub next : {A : Type 0} → (List ℕ → Result A LineFault) → List (List ℕ) → Result (A × List (List ℕ)) LineFault
next read [] = Err is.Fields
next read (word ∷ words) = read word >>= λ a. Ok (a, words)

-- a word whose value is a part of the line's value, then the words that this calls for
abbrev pub word : {C A E : Type 0} → Word C A → (E → A) → (A → Words C E) → Words C E
word first part more = record {
  fits = λ c e. first.fits c (part e) × (more (part e)).fits c e;
  text = λ e. first.text (part e) ∷ (more (part e)).text e;
  read = λ c words. next (first.read c) words >>= λ taken. (more taken.0).read c taken.1;
}

-- the end of a line, whose words make this value
abbrev pub line_made : {C E : Type 0} → E → Words C E
line_made e = record {
  fits = λ c d. d ≡ e;
  text = λ d. [];
  read = λ c words. if length words == 0 then Ok e else Err is.Fields;
}

abbrev pub texts_of : {A : Type 0} → (A → List ℕ) → Option A → List (List ℕ)
texts_of text None = []
texts_of text (Some a) = text a ∷ []

-- the value of the last word, if there is one
abbrev pub last : {A : Type 0} → (List ℕ → Result A LineFault) → List (List ℕ) → Result (Option A) LineFault
last read [] = Ok None
last read (word ∷ words) = read word >>= λ a. if length words == 0 then Ok (Some a) else Err is.Fields

-- the end of a line, at which one more word may come
abbrev pub optional : {C A E : Type 0} → Word C A → (E → Option A) → (Option A → E) → Words C E
optional first part make = record {
  fits = λ c e. FitsOption (first.fits c) (part e) × (e ≡ make (part e));
  text = λ e. texts_of first.text (part e);
  read = λ c words. last (first.read c) words >>= λ a. Ok (make a);
}

-- a line of low to high words: their number is checked before any word is
abbrev pub counted_words : {C E : Type 0} → ℕ → ℕ → Words C E → Words C E
counted_words low high line = record {
  fits = line.fits;
  text = line.text;
  read = λ c words. if is_within low high (length words) then line.read c words else Err is.Fields;
}
