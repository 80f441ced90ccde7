-- The lines of a text: their words, how they are numbered, and which of them goes wrong first.
use Rattle.std.specs.Prelude.{ℕ, Bool, true, false, not, List, [], ◌∷◌, ◌++◌, Result, Ok, Err, nat_lt, if◌then◌else◌}
use Rattle.std.specs.List.{list_all}
use Rattle.depot_base.specs.declared.limits.TheConstants.{MOST_LINES}
use Rattle.depot_lines.specs.declared.line_fault.LineFault.{LineFault}
use Rattle.depot_lines.specs.declared.line_fault.LineFault.TheVariants as is
use Rattle.depot_lines.specs.Language.{split, join}

-- ---- written lines

-- words with spaces (32) between them, and an LF (10)
abbrev pub text_of_line : List (List ℕ) → List ℕ
text_of_line words = join 32 words ++ 10 ∷ []

-- ---- the lines of a text

-- a line, and whether an LF ends it
pub record Line : Type 0 where
  pub text : List ℕ
  pub ended : Bool

-- what follows the last LF, as a line without one; nothing is no line
abbrev pub last_line : List ℕ → List Line
last_line [] = []
last_line (b ∷ bs) = record { text = b ∷ bs; ended = false } ∷ []

-- the parts between LFs as lines
abbrev pub lines_of_parts : List (List ℕ) → List Line
lines_of_parts [] = []
lines_of_parts (part ∷ []) = last_line part
lines_of_parts (part ∷ next ∷ parts) = record { text = part; ended = true } ∷ lines_of_parts (next ∷ parts)

-- the lines of a text
abbrev pub lines_of_text : List ℕ → List Line
lines_of_text text = lines_of_parts (split 10 text)

-- the first word of a line: what precedes its first space
abbrev pub first_word : List (List ℕ) → List ℕ
first_word [] = []
first_word (word ∷ words) = word

abbrev pub is_empty_word : List ℕ → Bool
is_empty_word [] = true
is_empty_word (b ∷ bs) = false

-- whether one space is between each two words, and none first or last
abbrev pub are_words : List (List ℕ) → Bool
are_words words = list_all (λ word. not (is_empty_word word)) words

-- ---- the lines by number

-- a fault in the line of this number
abbrev pub in_line : {A : Type 0} → ℕ → Result A LineFault → Result A (ℕ × LineFault)
in_line n (Ok a) = Ok a
in_line n (Err f) = Err (n, f)

-- the line of this number: that it ends, and isn't one too many, is checked before its words are
abbrev pub checked : {A : Type 0} → ℕ → Line → (List (List ℕ) → Result A LineFault) → Result A (ℕ × LineFault)
checked n line read =
    if not line.ended then Err (n, is.End) else
    if nat_lt MOST_LINES n then Err (n, is.Long) else in_line n (read (split 32 line.text))
