-- What the readers of words, lines and texts answer, and what the writers of words write.
use Rattle.std.specs.Prelude.{◌≡◌, ℕ, ◌-◌, List, [], ◌∷◌, ◌++◌, Option, Some, None, Result, Ok, Err, length, take, Bool, true, false, ◌≤◌, ◌<◌, ◌⊎◌, nat_lt, if◌then◌else◌}
use Rattle.std.specs.List.{flat_map}
use Rattle.std.specs.Borrow.{Bor}
use Rattle.depot_base.specs.declared.limits.TheConstants.{MOST_LINES}
use Rattle.depot_lines.specs.declared.line_fault.LineFault.{LineFault}
use Rattle.depot_lines.specs.declared.line_fault.LineFault.TheVariants as is
use Rattle.depot_lines.specs.declared.line_fault.LineError.{LineError}
use Rattle.depot_lines.specs.declared.line_fault.LineError.TheVariants.{Memory, In}
use Rattle.depot_lines.specs.declared.line_fault.TextError.{TextError}
use Rattle.depot_lines.specs.declared.line_fault.TextError.TheVariants as error
use Rattle.depot_lines.specs.Spelling.{is_within}
use Rattle.depot_lines.specs.Language.{split, earlier}
use Rattle.depot_lines.specs.LineTexts.{lines_of_parts}

-- ---- parts of a text

-- the parts that are left of a text
abbrev pub parts_left : ℕ → Option (Bor (List ℕ)) → List (List ℕ)
parts_left separator None = []
parts_left separator (Some text) = split separator text.now

-- the next part, or nothing where none is left
abbrev pub TakesNextPart : List (List ℕ) → Option (List ℕ) → List (List ℕ) → Type 0
TakesNextPart old (Some part) new = old ≡ part ∷ new
TakesNextPart old None new = (old ≡ []) × (new ≡ [])

-- the next word of a line, or that the line has too few
abbrev pub TakesWord : List (List ℕ) → Result (Bor (List ℕ)) LineError → List (List ℕ) → Type 0
TakesWord old (Ok word) new = old ≡ word.now ∷ new
TakesWord old (Err e) new = (old ≡ []) × (e ≡ In is.Fields)

-- ---- words and lines

-- What a reader answers is this reading, unless memory ran out.
abbrev pub AnswersReading : {A : Type 0} → Result A LineError → Result A LineFault → Type 0
AnswersReading (Ok a) reading = reading ≡ Ok a
AnswersReading (Err Memory) reading = Unit {0}
AnswersReading (Err (In f)) reading = reading ≡ Err f

-- the same of a reader that takes words from a line, and leaves these
abbrev pub TakesReading : {A : Type 0} → Result A LineError → List (List ℕ) → Result (A × List (List ℕ)) LineFault → Type 0
TakesReading (Ok a) left reading = reading ≡ Ok (a, left)
TakesReading (Err Memory) left reading = Unit {0}
TakesReading (Err (In f)) left reading = reading ≡ Err f

-- whether there are low to high words
abbrev pub Counts : ℕ → ℕ → List (List ℕ) → Result (Unit {0}) LineError → Type 0
Counts low high words (Ok done) = is_within low high (length words) ≡ true
Counts low high words (Err e) = (is_within low high (length words) ≡ false) × (e ≡ In is.Fields)

-- ---- parts of a word that are read one after the other

-- the fault that is looked for first, of one so far and another
abbrev pub first_fault : Option LineFault → LineFault → Option LineFault
first_fault None g = Some g
first_fault (Some f) g = Some (earlier f g)

-- the result of the parts so far and those after them
abbrev pub gathered : {A : Type 0} → Option LineFault → List A → Result (List A) LineFault → Result (List A) LineFault
gathered None front (Ok rest) = Ok (front ++ rest)
gathered None front (Err g) = Err g
gathered (Some f) front (Ok rest) = Err f
gathered (Some f) front (Err g) = Err (earlier f g)

-- one part more
abbrev pub GathersMore : {A : Type 0} → Option LineFault → List A → Result A LineFault → Option LineFault → List A → Type 0
GathersMore fault front (Ok a) fault2 front2 = (fault2 ≡ fault) × (front2 ≡ front ++ a ∷ [])
GathersMore fault front (Err g) fault2 front2 = (fault2 ≡ first_fault fault g) × (front2 ≡ front)

-- ---- lines of a text

-- the next line, or nothing where none is left
abbrev pub TakesLine : List (List ℕ) → Option (Bor (List ℕ) × Bool) → List (List ℕ) → Type 0
TakesLine old (Some line) new = lines_of_parts old ≡ record { text = line.0.now; ended = line.1 } ∷ lines_of_parts new
TakesLine old None new = lines_of_parts old ≡ []

-- whether the words of the line of this number are looked at
abbrev pub Allows : ℕ → Bool → Result (Unit {0}) TextError → Type 0
Allows n ended (Ok done) = (ended ≡ true) × (n ≤ MOST_LINES)
Allows n ended (Err error.Memory) = ⊥
Allows n ended (Err (error.Line m f)) = (m ≡ n) × (((ended ≡ false) × (f ≡ is.End)) ⊎ ((ended ≡ true) × (MOST_LINES < n) × (f ≡ is.Long)))

-- a fault in the line of this number
abbrev pub InLine : {A : Type 0} → ℕ → Result A LineError → Result A TextError → Type 0
InLine n (Ok a) result = result ≡ Ok a
InLine n (Err Memory) result = result ≡ Err error.Memory
InLine n (Err (In f)) result = result ≡ Err (error.Line n f)

-- ---- whole texts

-- What parsing a text, or a line of one, answers: this reading, or the first faulty line and its first fault, unless
-- memory ran out.
abbrev pub Parses : {A : Type 0} → Result A TextError → Result A (ℕ × LineFault) → Type 0
Parses (Ok a) reading = reading ≡ Ok a
Parses (Err error.Memory) reading = Unit {0}
Parses (Err (error.Line n f)) reading = reading ≡ Err (n, f)

-- ---- writing

-- words, each preceded by a space (32)
abbrev pub behind_spaces : List (List ℕ) → List ℕ
behind_spaces words = flat_map (λ word. 32 ∷ word) words

-- lines as they are written: their text so far, and how many words more the last one takes, or all
pub record LineSoFar : Type 0 where
  pub text : List ℕ
  pub more : Option ℕ

-- whether another word is taken
abbrev pub takes_more : Option ℕ → Bool
takes_more None = true
takes_more (Some n) = nat_lt 0 n

-- how many are taken after it
abbrev pub fewer : Option ℕ → Option ℕ
fewer None = None
fewer (Some n) = Some (n - 1)

-- the words that are taken
abbrev pub words_taken : Option ℕ → List (List ℕ) → List (List ℕ)
words_taken None words = words
words_taken (Some n) words = take n words

-- one word more, preceded by a space, if it is taken
unfoldable pub with_word : LineSoFar → List ℕ → LineSoFar
with_word l word = record { text = if takes_more l.more then l.text ++ (32 ∷ word) else l.text; more = fewer l.more }

-- words more, one after the other
abbrev pub with_words : LineSoFar → List (List ℕ) → LineSoFar
with_words l [] = l
with_words l (word ∷ words) = with_words (with_word l word) words
