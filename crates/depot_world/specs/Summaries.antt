-- What is summed up of a load's transcript.
use Rattle.std.specs.Prelude.{ℕ, ◌-◌, Bool, true, false, List, [], ◌∷◌, ◌++◌, length, drop, sum, sum_by, count_by, Option, Some, None, codes}
use Rattle.std.specs.List.{list_all, filter_map}
use Rattle.std.specs.Str.{bytes_eq}
use Rattle.depot_model.specs.lists.Lists.{when}
use Rattle.depot_answers.specs.AnswerTexts.{text_of_number, spaced}
use Rattle.depot_requests.specs.Effects.{ended}
use Rattle.depot_world.specs.declared.transcript_lines.TranscriptLine.{TranscriptLine}
use Rattle.depot_world.specs.declared.transcript_lines.TranscriptLine.TheVariants.{Put, Read, Report, Hello}
use Rattle.depot_world.specs.declared.transcript_lines.Count.{Count}
use Rattle.depot_world.specs.declared.transcript_lines.Count.TheVariants as count
use Rattle.depot_world.specs.TranscriptLines.{lines_of_transcript}

-- the last n of a list, or all where they are fewer
abbrev pub last_items : {A : Type 0} → ℕ → List A → List A
last_items n list = drop (length list - n) list

-- ---- puts and reports

abbrev pub is_put_line : TranscriptLine → Bool
is_put_line Put = true
is_put_line _ = false

-- one of the numbers of a report
abbrev pub report_count : Count → ℕ → ℕ → ℕ → ℕ
report_count count.Accepted accepted known refused = accepted
report_count count.Known accepted known refused = known
report_count count.Refused accepted known refused = refused

abbrev pub counted_in : Count → TranscriptLine → ℕ
counted_in which (Report accepted known refused) = report_count which accepted known refused
counted_in which _ = 0

-- the sum of that number over all reports
abbrev pub total : Count → List TranscriptLine → ℕ
total which lines = sum_by (counted_in which) lines

-- ---- hellos

abbrev pub convicted_in : TranscriptLine → Option ℕ
convicted_in (Hello convicted) = Some convicted
convicted_in _ = None

-- how many nodes the last five hellos name as convicted, all together
abbrev pub convicted_last : List TranscriptLine → ℕ
convicted_last lines = sum (last_items 5 (filter_map convicted_in lines))

-- ---- reads

-- the writes that a read of this key shows
abbrev pub writes_under : List ℕ → TranscriptLine → Option (List ℕ)
writes_under key (Read of writes) = when (bytes_eq of key) writes
writes_under key _ = None

abbrev pub are_same : List (List ℕ) → Bool
are_same [] = true
are_same (text ∷ texts) = list_all (λ other. bytes_eq other text) texts

-- whether the last five reads of a key show the same writes
abbrev pub agree_on : List ℕ → List TranscriptLine → Bool
agree_on key lines = are_same (last_items 5 (filter_map (writes_under key) lines))

-- the same of the key that is read, if one is
abbrev pub agrees : List TranscriptLine → TranscriptLine → Bool
agrees lines (Read key writes) = agree_on key lines
agrees lines _ = true

-- the same of each key that is read
abbrev pub agree : List TranscriptLine → Bool
agree lines = list_all (agrees lines) lines

-- ---- the line

abbrev pub name_of_agreement : Bool → List ℕ
name_of_agreement true = codes "yes"
name_of_agreement false = codes "no"

abbrev pub reports_text : List TranscriptLine → List ℕ
reports_text lines = spaced (text_of_number (codes "accepted") (total count.Accepted lines)) ++ (spaced (text_of_number (codes "known") (total count.Known lines)) ++ spaced (text_of_number (codes "refused") (total count.Refused lines)))

abbrev pub agreement_text : Bool → List ℕ
agreement_text agree = spaced (codes "agree") ++ spaced (name_of_agreement agree)

-- of the load of this number
abbrev pub summary_line : ℕ → List TranscriptLine → List ℕ
summary_line number lines =
    ended (text_of_number (codes "load") number ++ (spaced (text_of_number (codes "puts") (count_by is_put_line lines)) ++ (reports_text lines ++ (spaced (text_of_number (codes "convicted") (convicted_last lines)) ++ agreement_text (agree lines)))))

-- the line that sums up a transcript
unfoldable pub summary_of : ℕ → List ℕ → List ℕ
summary_of number transcript = summary_line number (lines_of_transcript transcript)
