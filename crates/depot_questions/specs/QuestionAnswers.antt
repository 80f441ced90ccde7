-- The texts of answers: a kind, and what the kind calls for; and the messages with these texts.
use Rattle.std.specs.Prelude.{ℕ, List, [], ◌++◌, length, Bool, true, Option, Some, None, ◌==◌}
use Rattle.std.specs.Int.{w8, w16, w32}
use Rattle.depot_base.specs.Closed.{Closed, closing, before, closed_variant, closed_choose}
use Rattle.depot_base.specs.Cursor.{numeral}
use Rattle.depot_base.specs.Format.{Format, number, bytes_of, field, made_of_fields, choose, list_of}
use Rattle.depot_base.specs.Parts.{digest, node_number, node_rises, write, write_rises}
use Rattle.depot_base.specs.declared.limits.TheConstants.{MOST_WRITES}
use Rattle.depot_base.specs.declared.update.NamedValue.{NamedValue}
use Rattle.depot_questions.specs.declared.question_answer.ConvictionAt.{ConvictionAt}
use Rattle.depot_questions.specs.declared.question_answer.ConvictionPage.{ConvictionPage}
use Rattle.depot_questions.specs.declared.question_answer.KeyPage.{KeyPage}
use Rattle.depot_questions.specs.declared.question_answer.LatestWrite.{LatestWrite}
use Rattle.depot_questions.specs.declared.question_answer.NodeStatus.{NodeStatus}
use Rattle.depot_questions.specs.declared.question_answer.QuestionAnswer.{QuestionAnswer}
use Rattle.depot_questions.specs.declared.question_answer.QuestionAnswer.TheVariants as answer
use Rattle.depot_questions.specs.declared.question_answer.UpdateFacts.{UpdateFacts}
use Rattle.depot_questions.specs.declared.question_answer.UpdateKeys.{UpdateKeys}
use Rattle.depot_questions.specs.declared.question_answer.UpdatePage.{UpdatePage}
use Rattle.depot_questions.specs.declared.question_answer.WriteSays.{WriteSays}
use Rattle.depot_questions.specs.declared.question_answer.WriteSays.TheVariants as says
use Rattle.depot_requests.specs.ChangeTexts.{key_text}
use Rattle.depot_requests.specs.TellingTexts.{any_u32_text, any_u64_text, flag_text}

-- entries that may occur in any order
abbrev pub in_any_order : {E : Type 0} → Option E → E → Bool
in_any_order before e = true

-- bytes preceded by their number
unfoldable pub long_text : Format (List ℕ)
long_text =
    field any_u32_text (λ text. length text) λ size.
    field (bytes_of size) (λ text. text) λ text.
    made_of_fields text

-- ---- who the node is

unfoldable pub status_text : Format NodeStatus
status_text =
    field node_number (λ s. s.node) λ node.
    field digest (λ s. s.roster) λ roster.
    field any_u32_text (λ s. s.statements) λ statements.
    field any_u32_text (λ s. s.signable) λ signable.
    field any_u32_text (λ s. s.records) λ records.
    field any_u32_text (λ s. s.bytes) λ bytes.
    field any_u32_text (λ s. s.updates) λ updates.
    field any_u32_text (λ s. s.leaves) λ leaves.
    field (number w16 0 65535) (λ s. length s.convicted) λ count.
    field (list_of count node_number node_rises) (λ s. s.convicted) λ convicted.
    made_of_fields (record { node = node; roster = roster; statements = statements; signable = signable; records = records; bytes = bytes; updates = updates; leaves = leaves; convicted = convicted })

-- ---- convictions

unfoldable pub conviction_at_text : Format ConvictionAt
conviction_at_text =
    field any_u32_text (λ c. c.place) λ place.
    field node_number (λ c. c.node) λ node.
    field long_text (λ c. c.text) λ text.
    made_of_fields (record { place = place; node = node; text = text })

unfoldable pub conviction_page_text : Format ConvictionPage
conviction_page_text =
    field any_u32_text (λ p. length p.convictions) λ count.
    field (list_of count conviction_at_text in_any_order) (λ p. p.convictions) λ convictions.
    field flag_text (λ p. p.more) λ more.
    made_of_fields (record { convictions = convictions; more = more })

-- ---- keys

unfoldable pub key_page_text : Format KeyPage
key_page_text =
    field any_u32_text (λ p. length p.keys) λ count.
    field (list_of count key_text in_any_order) (λ p. p.keys) λ keys.
    field flag_text (λ p. p.more) λ more.
    made_of_fields (record { keys = keys; more = more })

-- ---- the latest writes of a key

-- what a write says: 0 for a deletion, 1 and the value, 2 and the name of a value that isn't held
abbrev pub says_byte : WriteSays → ℕ
says_byte says.Deleted = 0
says_byte (says.Value value) = 1
says_byte (says.NotHeld name) = 2

abbrev pub value_in_says : WriteSays → List ℕ
value_in_says (says.Value value) = value
value_in_says other = []

abbrev pub name_in_says : WriteSays → NamedValue
name_in_says (says.NotHeld name) = name
name_in_says other = record { hash = []; size = 0 }

unfoldable pub named_text : Format NamedValue
named_text =
    field digest (λ n. n.hash) λ hash.
    field any_u32_text (λ n. n.size) λ size.
    made_of_fields (record { hash = hash; size = size })

unfoldable pub says_behind : ℕ → Format WriteSays
says_behind byte =
    choose (byte == 0) (made_of_fields says.Deleted)
    (choose (byte == 1) (field long_text value_in_says λ value. made_of_fields (says.Value value))
    (field named_text name_in_says λ name. made_of_fields (says.NotHeld name)))

unfoldable pub says_text : Format WriteSays
says_text = field (number w8 0 2) says_byte says_behind

unfoldable pub latest_write_text : Format LatestWrite
latest_write_text =
    field digest (λ w. w.id) λ id.
    field node_number (λ w. w.writer) λ writer.
    field any_u32_text (λ w. w.seq) λ seq.
    field any_u64_text (λ w. w.clock) λ clock.
    field says_text (λ w. w.says) λ says.
    made_of_fields (record { id = id; writer = writer; seq = seq; clock = clock; says = says })

unfoldable pub latest_writes_text : Format (List LatestWrite)
latest_writes_text =
    field any_u32_text (λ ws. length ws) λ count.
    field (list_of count latest_write_text in_any_order) (λ ws. ws) λ writes.
    made_of_fields writes

-- ---- updates

unfoldable pub update_facts_text : Format UpdateFacts
update_facts_text =
    field any_u32_text (λ f. f.item) λ item.
    field node_number (λ f. f.writer) λ writer.
    field any_u32_text (λ f. f.seq) λ seq.
    field any_u64_text (λ f. f.clock) λ clock.
    field (number w8 1 MOST_WRITES) (λ f. length f.writes) λ count.
    field (list_of count write write_rises) (λ f. f.writes) λ writes.
    made_of_fields (record { item = item; writer = writer; seq = seq; clock = clock; writes = writes })

-- an optional update: 0 for none, 1 and the update
abbrev pub found_byte : Option UpdateFacts → ℕ
found_byte None = 0
found_byte (Some facts) = 1

abbrev pub facts_found : Option UpdateFacts → UpdateFacts
facts_found None = record { item = 0; writer = 1; seq = 0; clock = 0; writes = [] }
facts_found (Some facts) = facts

unfoldable pub found_behind : ℕ → Format (Option UpdateFacts)
found_behind byte = choose (byte == 0) (made_of_fields None) (field update_facts_text facts_found λ facts. made_of_fields (Some facts))

unfoldable pub found_text : Format (Option UpdateFacts)
found_text = field (number w8 0 1) found_byte found_behind

unfoldable pub flags_text : Format (List Bool)
flags_text =
    field (number w8 1 MOST_WRITES) (λ flags. length flags) λ count.
    field (list_of count flag_text in_any_order) (λ flags. flags) λ flags.
    made_of_fields flags

unfoldable pub update_keys_text : Format UpdateKeys
update_keys_text =
    field digest (λ u. u.id) λ id.
    field node_number (λ u. u.writer) λ writer.
    field any_u32_text (λ u. u.seq) λ seq.
    field any_u64_text (λ u. u.clock) λ clock.
    field (number w8 1 MOST_WRITES) (λ u. length u.keys) λ count.
    field (list_of count key_text in_any_order) (λ u. u.keys) λ keys.
    made_of_fields (record { id = id; writer = writer; seq = seq; clock = clock; keys = keys })

unfoldable pub update_page_text : Format UpdatePage
update_page_text =
    field any_u32_text (λ p. length p.updates) λ count.
    field (list_of count update_keys_text in_any_order) (λ p. p.updates) λ updates.
    field flag_text (λ p. p.more) λ more.
    made_of_fields (record { updates = updates; more = more })

-- ---- an answer

abbrev pub status_in : QuestionAnswer → Option NodeStatus
status_in (answer.Status status) = Some status
status_in a = None

abbrev pub convictions_in : QuestionAnswer → Option ConvictionPage
convictions_in (answer.Convictions page) = Some page
convictions_in a = None

abbrev pub keys_in : QuestionAnswer → Option KeyPage
keys_in (answer.Keys page) = Some page
keys_in a = None

abbrev pub latest_in_answer : QuestionAnswer → Option (List LatestWrite)
latest_in_answer (answer.Latest writes) = Some writes
latest_in_answer a = None

abbrev pub found_in : QuestionAnswer → Option (Option UpdateFacts)
found_in (answer.Update facts) = Some facts
found_in a = None

abbrev pub flags_in : QuestionAnswer → Option (List Bool)
flags_in (answer.Accepted flags) = Some flags
flags_in a = None

abbrev pub updates_in_answer : QuestionAnswer → Option UpdatePage
updates_in_answer (answer.Updates page) = Some page
updates_in_answer a = None

abbrev pub answer_kind : QuestionAnswer → ℕ
answer_kind (answer.Status status) = 16
answer_kind (answer.Convictions page) = 17
answer_kind (answer.Keys page) = 18
answer_kind (answer.Latest writes) = 19
answer_kind (answer.Update facts) = 20
answer_kind (answer.Accepted flags) = 21
answer_kind (answer.Updates page) = 22

-- what follows a kind
unfoldable pub answer_behind : ℕ → Closed QuestionAnswer
answer_behind kind =
    closed_choose (kind == 16) (closed_variant (λ status. answer.Status status) status_in (closing status_text))
    (closed_choose (kind == 17) (closed_variant (λ page. answer.Convictions page) convictions_in (closing conviction_page_text))
    (closed_choose (kind == 18) (closed_variant (λ page. answer.Keys page) keys_in (closing key_page_text))
    (closed_choose (kind == 19) (closed_variant (λ writes. answer.Latest writes) latest_in_answer (closing latest_writes_text))
    (closed_choose (kind == 20) (closed_variant (λ facts. answer.Update facts) found_in (closing found_text))
    (closed_choose (kind == 21) (closed_variant (λ flags. answer.Accepted flags) flags_in (closing flags_text))
    (closed_variant (λ page. answer.Updates page) updates_in_answer (closing update_page_text)))))))

-- a kind, and what follows it
unfoldable pub answer_text : Closed QuestionAnswer
answer_text = before (number w8 16 22) answer_kind answer_behind

-- ---- the message

-- The message of an answer: the length of its text, as four bytes, and its text. Each answer has one, whether or not it
-- is in the ranges of its fields.
abbrev pub text_of_answer : QuestionAnswer → List ℕ
text_of_answer a = numeral w32 (length (answer_text.text a)) ++ answer_text.text a
