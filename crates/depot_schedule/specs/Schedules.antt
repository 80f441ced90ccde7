-- Schedules: which have a text, that text, and for any other text the first faulty line and its fault.
use Rattle.std.specs.Prelude.{◌≡◌, ℕ, ◌+◌, ◌≤◌, Bool, true, false, not, ◌&&◌, ◌||◌, List, [], ◌∷◌, ◌++◌, length, map, Option, Some, None, is_some, Result, Ok, Err, codes, nat_lt, if◌then◌else◌}
use Rattle.std.specs.List.{list_any, filter, flat_map}
use Rattle.std.specs.Fmt.{decimal}
use Rattle.std.specs.Str.{bytes_eq}
use Rattle.depot_base.specs.declared.limits.TheConstants.{MOST_NODES, MOST_CORRECT, MOST_LINES, LEAST_HEIGHT, GREATEST_HEIGHT}
use Rattle.depot_lines.specs.declared.line_fault.LineFault.{LineFault}
use Rattle.depot_lines.specs.declared.line_fault.LineFault.TheVariants as is
use Rattle.depot_schedule.specs.declared.member.Member.{Member}
use Rattle.depot_schedule.specs.declared.event.Event.{Event}
use Rattle.depot_schedule.specs.declared.schedule.Schedule.{Schedule}
use Rattle.depot_lines.specs.Spelling.{number_word}
use Rattle.depot_base.specs.Format.{◌>>=◌}
use Rattle.depot_lines.specs.Language.{or_fault}
use Rattle.depot_schedule.specs.EventWords.{is_declared}
use Rattle.depot_schedule.specs.EventLines.{verb_of, line_of, verb_name, verb_named, behind_event_name}
use Rattle.depot_lines.specs.LineTexts.{text_of_line, Line, lines_of_text, first_word, is_empty_word, are_words, checked}

-- ---- schedules as they grow

-- the schedule before its first member
abbrev pub blank_schedule : Bool → ℕ → Schedule
blank_schedule winter height = record { winter = winter; height = height; members = []; events = [] }

abbrev pub before_members : Schedule → Schedule
before_members s = blank_schedule s.winter s.height

abbrev pub before_events : Schedule → Schedule
before_events s = record { winter = s.winter; height = s.height; members = s.members; events = [] }

-- one member more
abbrev pub with_member : Schedule → Member → Schedule
with_member s m = record { winter = s.winter; height = s.height; members = s.members ++ m ∷ []; events = s.events }

-- one event more
abbrev pub with_event : Schedule → Event → Schedule
with_event s e = record { winter = s.winter; height = s.height; members = s.members; events = s.events ++ e ∷ [] }

-- ---- texts

abbrev pub scheme_name : Bool → List ℕ
scheme_name true = codes "winter"
scheme_name false = codes "plain"

abbrev pub member_name : Bool → List ℕ
member_name true = codes "node"
member_name false = codes "faulty"

abbrev pub first_words : List (List ℕ)
first_words = codes "depot" ∷ codes "schedule" ∷ codes "1" ∷ []

abbrev pub scheme_words : Schedule → List (List ℕ)
scheme_words s = codes "scheme" ∷ scheme_name s.winter ∷ decimal s.height ∷ []

abbrev pub member_words : Member → List (List ℕ)
member_words m = member_name m.correct ∷ decimal m.node ∷ []

abbrev pub event_words : Event → List (List ℕ)
event_words e = verb_name (verb_of e) ∷ behind_event_name e

-- the words of each line: two lines of the header, the members, the events
abbrev pub words_of_schedule : Schedule → List (List (List ℕ))
words_of_schedule s = first_words ∷ scheme_words s ∷ (map member_words s.members ++ map event_words s.events)

-- the text of a schedule
unfoldable pub text_of_schedule : Schedule → List ℕ
text_of_schedule s = flat_map text_of_line (words_of_schedule s)

-- ---- which schedules have a text

-- whether some member is correct
abbrev pub has_correct : List Member → Bool
has_correct members = list_any (λ m. m.correct) members

-- how many members are correct
abbrev pub count_correct : List Member → ℕ
count_correct members = length (filter (λ m. m.correct) members)

-- whether a member's id is new, and there are at most 256 members, at most 32 of them correct
abbrev pub may_join : Schedule → Member → Bool
may_join s m = not (is_declared s.members m.node) && (not m.correct || nat_lt (count_correct s.members) MOST_CORRECT) && nat_lt (length s.members) MOST_NODES

-- a member fits after those so far
abbrev pub FitsMember : Schedule → Member → Type 0
FitsMember s m = (1 ≤ m.node) × (m.node ≤ 65535) × (may_join s m ≡ true)

-- each member fits after those before it
abbrev pub FitMembers : Schedule → List Member → Type 0
FitMembers s [] = Unit {0}
FitMembers s (m ∷ ms) = FitsMember s m × FitMembers (with_member s m) ms

-- an event fits after those so far
abbrev pub FitsEvent : Schedule → Event → Type 0
FitsEvent s e = (line_of (verb_of e)).fits s e

-- each event fits after those before it
abbrev pub FitEvents : Schedule → List Event → Type 0
FitEvents s [] = Unit {0}
FitEvents s (e ∷ es) = FitsEvent s e × FitEvents (with_event s e) es

-- the schedules that have a text: each line may follow those before it, and there are at most 100,000
pub record IsSchedule (s : Schedule) : Type 0 where
  pub low : LEAST_HEIGHT ≤ s.height
  pub high : s.height ≤ GREATEST_HEIGHT
  pub members : FitMembers (before_members s) s.members
  pub some : has_correct s.members ≡ true
  pub events : FitEvents (before_events s) s.events
  pub lines : 2 + (length s.members + length s.events) ≤ MOST_LINES

-- ---- the header

-- the first line, `depot schedule 1`: any other version is a wrong number
abbrev pub read_first : List (List ℕ) → Result (Unit {0}) LineFault
read_first (depot ∷ schedule ∷ version ∷ []) =
    if bytes_eq depot (codes "depot") && bytes_eq schedule (codes "schedule") && not (is_empty_word version)
    then (if bytes_eq version (codes "1") then Ok tt else Err is.Number)
    else Err is.Header
read_first words = Err is.Header

-- whether signatures are Winternitz's, by the name of a scheme
abbrev pub scheme_named : List ℕ → Option Bool
scheme_named word = if bytes_eq word (codes "plain") then Some false else (if bytes_eq word (codes "winter") then Some true else None)

-- the second line, `scheme plain H` or `scheme winter H`, as the schedule before its first member
abbrev pub read_scheme : List (List ℕ) → Result Schedule LineFault
read_scheme (scheme ∷ name ∷ height ∷ []) =
    if bytes_eq scheme (codes "scheme") && not (is_empty_word height)
    then (or_fault (scheme_named name) is.Header >>= λ winter. or_fault (number_word LEAST_HEIGHT GREATEST_HEIGHT height) is.Number >>= λ h. Ok (blank_schedule winter h))
    else Err is.Header
read_scheme words = Err is.Header

abbrev pub has_events : Schedule → Bool
has_events s = nat_lt 0 (length s.events)

-- `node ID` or `faulty ID`, which precede the first event: the number is checked before the ids and counts are
abbrev pub read_member : Schedule → Bool → List (List ℕ) → Result Schedule LineFault
read_member s is_correct (name ∷ id ∷ []) =
    if has_events s || is_empty_word id then Err is.Header else
    (or_fault (number_word 1 65535 id) is.Number >>= λ n. if may_join s (record { node = n; correct = is_correct }) then Ok (with_member s (record { node = n; correct = is_correct })) else Err is.Header)
read_member s is_correct words = Err is.Header

-- ---- lines after the first two

-- the line of an event, where a correct node is declared
abbrev pub read_event : Schedule → List (List ℕ) → Result Schedule LineFault
read_event s [] = Err is.Word
read_event s (name ∷ words) =
    if not (are_words (name ∷ words)) then Err is.Word else
    (or_fault (verb_named name) is.Word >>= λ verb. (line_of verb).read s words >>= λ e. Ok (with_event s e))

-- a line after the header; an event before any correct node is out of place
abbrev pub read_other : Schedule → List (List ℕ) → Result Schedule LineFault
read_other s words =
    if has_correct s.members then read_event s words else
    (if is_some (verb_named (first_word words)) then Err is.Header else Err is.Word)

-- the first word of a line, as one of the header's or another
pub data Head : Type 0 where
  -- `node` or `faulty`
  member : Bool → Head
  -- `depot` or `scheme`, which are in the first two lines alone
  misplaced : Head
  -- any other
  other : Head

abbrev pub head_named : List ℕ → Head
head_named word =
    if bytes_eq word (codes "node") then member true else
    if bytes_eq word (codes "faulty") then member false else
    if bytes_eq word (codes "depot") || bytes_eq word (codes "scheme") then misplaced else other

abbrev pub read_by : Schedule → Head → List (List ℕ) → Result Schedule LineFault
read_by s (member is_correct) words = read_member s is_correct words
read_by s misplaced words = Err is.Header
read_by s other words = read_other s words

-- the schedule with what a line adds, or what is first wrong with that line
unfoldable pub read_line : Schedule → List (List ℕ) → Result Schedule LineFault
read_line s words = read_by s (head_named (first_word words)) words

-- ---- whole texts

-- the lines after the second, the first of them of this number
abbrev pub read_rest : ℕ → Schedule → List Line → Result Schedule (ℕ × LineFault)
read_rest n s [] = if has_correct s.members then Ok s else Err (n, is.Header)
read_rest n s (line ∷ lines) = checked n line (read_line s) >>= λ t. read_rest (n + 1) t lines

abbrev pub read_second : List Line → Result Schedule (ℕ × LineFault)
read_second [] = Err (2, is.Header)
read_second (line ∷ lines) = checked 2 line read_scheme >>= λ s. read_rest 3 s lines

abbrev pub read_all : List Line → Result Schedule (ℕ × LineFault)
read_all [] = Err (1, is.Header)
read_all (line ∷ lines) = checked 1 line read_first >>= λ ok. read_second lines

-- the schedule of a text, or the number of its first faulty line, from 1, and that line's first fault
unfoldable pub schedule_of : List ℕ → Result Schedule (ℕ × LineFault)
schedule_of text = read_all (lines_of_text text)

-- the text is that of this schedule, which has one
pub record IsTextOfSchedule (text : List ℕ) (s : Schedule) : Type 0 where
  pub has : IsSchedule s
  pub is : text ≡ text_of_schedule s
