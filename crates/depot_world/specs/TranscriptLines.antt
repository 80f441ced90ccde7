-- What the lines of a transcript say of a load. Every text is read in this way: a line in none of these forms says
-- nothing.
use Rattle.std.specs.Prelude.{ℕ, Bool, false, ◌&&◌, List, [], ◌∷◌, map, Option, None, is_some, option_map, option_and_then, unwrap_or, codes, if◌then◌else◌}
use Rattle.std.specs.Str.{bytes_eq}
use Rattle.depot_lines.specs.Language.{split}
use Rattle.depot_lines.specs.LineReading.{behind_spaces}
use Rattle.depot_lines.specs.Spelling.{number_word}
use Rattle.depot_world.specs.declared.transcript_lines.TranscriptLine.{TranscriptLine}
use Rattle.depot_world.specs.declared.transcript_lines.TranscriptLine.TheVariants.{Put, Read, Report, Hello, Other}

-- a number of a transcript in decimal: no clock and no count is over 2^63 - 1
abbrev pub transcript_number : List ℕ → Option ℕ
transcript_number word = number_word 0 9223372036854775807 word

-- two numbers
abbrev pub are_two : List (List ℕ) → Bool
are_two (seq ∷ clock ∷ []) = is_some (transcript_number seq) && is_some (transcript_number clock)
are_two parts = false

-- two numbers with a slash (47) between them
abbrev pub is_pair : List ℕ → Bool
is_pair word = are_two (split 47 word)

-- the number after this name, if the words begin with both, and the remaining words
abbrev pub named_number : List ℕ → List (List ℕ) → Option (ℕ × List (List ℕ))
named_number name [] = None
named_number name (word ∷ []) = None
named_number name (word ∷ number ∷ words) = if bytes_eq word name then option_map (λ n. (n, words)) (transcript_number number) else None

-- ---- answers, by their words

-- of a put: `SEQ/CLOCK`
abbrev pub line_of_put : List (List ℕ) → TranscriptLine
line_of_put [] = Other
line_of_put (word ∷ []) = if is_pair word then Put else Other
line_of_put (word ∷ more ∷ words) = Other

-- of a stream that was given: `accepted A known K refused R` and what follows
abbrev pub report_in : List (List ℕ) → Option TranscriptLine
report_in answer =
    option_and_then (λ (a : ℕ × List (List ℕ)). option_and_then (λ (k : ℕ × List (List ℕ)). option_map (λ (r : ℕ × List (List ℕ)). Report a.0 k.0 r.0) (named_number (codes "refused") k.1)) (named_number (codes "known") a.1)) (named_number (codes "accepted") answer)

-- of a hello: `convicted C` and what follows
abbrev pub hello_in : List (List ℕ) → Option TranscriptLine
hello_in answer = option_map (λ (c : ℕ × List (List ℕ)). Hello c.0) (named_number (codes "convicted") answer)

-- ---- lines

-- by the name of the event, the second of its words after that, and the words of its answer
abbrev pub line_of_event : List ℕ → List ℕ → List (List ℕ) → TranscriptLine
line_of_event name word answer =
    if bytes_eq name (codes "put") then line_of_put answer else
    if bytes_eq name (codes "get") then Read word (behind_spaces answer) else
    if bytes_eq name (codes "give") then unwrap_or (report_in answer) Other else
    if bytes_eq name (codes "hello") then unwrap_or (hello_in answer) Other else Other

-- by the words of a line: the arrow is the fourth word of each line that says something
abbrev pub line_of_words : List (List ℕ) → TranscriptLine
line_of_words [] = Other
line_of_words (name ∷ []) = Other
line_of_words (name ∷ node ∷ []) = Other
line_of_words (name ∷ node ∷ word ∷ []) = Other
line_of_words (name ∷ node ∷ word ∷ arrow ∷ answer) = if bytes_eq arrow (codes "->") then line_of_event name word answer else Other

-- line by line: lines are between LFs (10), words between spaces (32)
unfoldable pub lines_of_transcript : List ℕ → List TranscriptLine
lines_of_transcript transcript = map (λ line. line_of_words (split 32 line)) (split 10 transcript)
