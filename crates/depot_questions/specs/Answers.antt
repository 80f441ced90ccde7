-- What a node answers to questions, by its setting and its journal.
use Rattle.std.specs.Prelude.{ℕ, ◌+◌, ◌-◌, List, [], ◌∷◌, length, map, filter, take, drop, slice_get, Bool, true, nat_le, nat_lt, Option, Some, None, option_map, option_and_then, if◌then◌else◌}
use Rattle.std.specs.List.{flat_map}
use Rattle.std.specs.Option.{option_to_list}
use Rattle.depot_base.specs.Parts.{is_below}
use Rattle.depot_base.specs.Writes.{wrote_under}
use Rattle.depot_base.specs.declared.record.Record.{Record}
use Rattle.depot_base.specs.declared.update.NamedValue.{NamedValue}
use Rattle.depot_base.specs.declared.update.Update.{Update}
use Rattle.depot_base.specs.declared.write.Wrote.{Wrote}
use Rattle.depot_base.specs.declared.write.Wrote.TheVariants.{Put, Gone}
use Rattle.depot_model.specs.exchange.Bundle.{proof_places}
use Rattle.depot_model.specs.checks.Checks.{Setting}
use Rattle.depot_model.specs.texts.Contents.{accused, keys_written}
use Rattle.depot_model.specs.exchange.Hello.{convicted_nodes}
use Rattle.depot_model.specs.lists.Items.{place_of_id}
use Rattle.depot_model.specs.journals.Journal.{accepted, has_id, held_as, own, proof_by}
use Rattle.depot_model.specs.updates.LatestList.{latest_in}
use Rattle.depot_model.specs.checks.Own.{leaf_count}
use Rattle.depot_model.specs.texts.Records.{journal_bytes}
use Rattle.depot_model.specs.checks.Room.{foreign_leaves}
use Rattle.depot_model.specs.texts.Texts.{hash_of_roster, id_of_update, text_of_proof}
use Rattle.depot_model.specs.checks.Vouching.{rising}
use Rattle.depot_questions.specs.declared.limits.TheConstants.{MOST_KEYS_TOLD, MOST_PROOFS_TOLD, MOST_UPDATES_TOLD}
use Rattle.depot_questions.specs.declared.question.Question.{Question}
use Rattle.depot_questions.specs.declared.question.Question.TheVariants as question
use Rattle.depot_questions.specs.declared.question_answer.ConvictionAt.{ConvictionAt}
use Rattle.depot_questions.specs.declared.question_answer.ConvictionPage.{ConvictionPage}
use Rattle.depot_questions.specs.declared.question_answer.KeyPage.{KeyPage}
use Rattle.depot_questions.specs.declared.question_answer.LatestWrite.{LatestWrite}
use Rattle.depot_questions.specs.declared.question_answer.NodeStatus.{NodeStatus}
use Rattle.depot_questions.specs.declared.question_answer.QuestionAnswer.{QuestionAnswer}
use Rattle.depot_questions.specs.declared.question_answer.QuestionAnswer.TheVariants as answer
use Rattle.depot_questions.specs.declared.question_answer.UpdateFacts.{UpdateFacts}
use Rattle.depot_questions.specs.declared.question_answer.UpdateKeys.{UpdateKeys}
use Rattle.depot_questions.specs.declared.question_answer.UpdatePage.{UpdatePage}
use Rattle.depot_questions.specs.declared.question_answer.WriteSays.{WriteSays}
use Rattle.depot_questions.specs.declared.question_answer.WriteSays.TheVariants as says

-- ---- who the node is, and how much it has

unfoldable pub status_told : Setting → List Record → NodeStatus
status_told here J = record {
  node = here.me;
  roster = hash_of_roster here.listed;
  statements = length (own J);
  signable = leaf_count here.listed here.me;
  records = length J;
  bytes = journal_bytes J;
  updates = length (accepted J);
  leaves = length (foreign_leaves here.me J);
  convicted = convicted_nodes here J;
}

-- ---- convictions

-- whom the record of a place convicts, and by which proof
abbrev pub conviction_by : ℕ → Record → List ConvictionAt
conviction_by place r = map (λ p. record { place = place; node = accused p; text = text_of_proof p }) (proof_by r)

-- the conviction by the record that is there
abbrev pub conviction_told : List Record → ℕ → List ConvictionAt
conviction_told J place = flat_map (conviction_by place) (option_to_list (slice_get J place))

-- the convictions by records from a place on, in their order
abbrev pub convictions_onward : List Record → ℕ → List ConvictionAt
convictions_onward J from = flat_map (conviction_told J) (filter (nat_le from) (proof_places J []))

-- how many bytes a conviction takes of a page
abbrev pub bytes_of_conviction : ConvictionAt → ℕ
bytes_of_conviction c = 10 + length c.text

-- the first of them that so many bytes have room for
abbrev pub convictions_within : ℕ → List ConvictionAt → List ConvictionAt
convictions_within room [] = []
convictions_within room (c ∷ cs) = if nat_le (bytes_of_conviction c) room then c ∷ convictions_within (room - bytes_of_conviction c) cs else []

-- a page of them, and whether some are left out
abbrev pub conviction_page : List ConvictionAt → ConvictionPage
conviction_page cs = record {
  convictions = convictions_within MOST_PROOFS_TOLD cs;
  more = nat_lt (length (convictions_within MOST_PROOFS_TOLD cs)) (length cs);
}

-- ---- keys

-- a key is above this one; each is above none
abbrev pub is_key_above : Option (List ℕ) → List ℕ → Bool
is_key_above None key = true
is_key_above (Some after) key = is_below after key

-- the keys above one that these updates write, in rising order, each once
abbrev pub keys_above : List Update → Option (List ℕ) → List (List ℕ)
keys_above us after = rising (filter (is_key_above after) (flat_map keys_written us))

-- a page of them, and whether some are left out
abbrev pub key_page : List (List ℕ) → KeyPage
key_page keys = record { keys = take MOST_KEYS_TOLD keys; more = nat_lt MOST_KEYS_TOLD (length keys) }

-- ---- the latest writes of a key

-- what a key was given by a value of this name: the value, if held
abbrev pub value_said : NamedValue → Option (List ℕ) → WriteSays
value_said name (Some value) = says.Value value
value_said name None = says.NotHeld name

-- what a write says of its key
abbrev pub said_of : List Record → Wrote → WriteSays
said_of J Gone = says.Deleted
said_of J (Put hash size) = value_said (record { hash = hash; size = size }) (held_as J (record { hash = hash; size = size }))

-- an update that says this of a key
abbrev pub latest_write : List Record → Update → Wrote → LatestWrite
latest_write J u what = record { id = id_of_update u; writer = u.writer; seq = u.seq; clock = u.clock; says = said_of J what }

-- what an update writes of a key, if it writes it
abbrev pub write_told : List Record → List ℕ → Update → List LatestWrite
write_told J key u = option_to_list (option_map (latest_write J u) (wrote_under key u.writes))

-- the latest writes of a key, in the listed order
unfoldable pub latest_told : List Record → List ℕ → List LatestWrite
latest_told J key = flat_map (write_told J key) (latest_in key (accepted J))

-- ---- updates

-- an update and its number among those that were accepted
abbrev pub update_facts : ℕ → Update → UpdateFacts
update_facts item u = record { item = item; writer = u.writer; seq = u.seq; clock = u.clock; writes = u.writes }

-- the update with an id, if there is one
abbrev pub update_told : List Update → List ℕ → Option UpdateFacts
update_told us id = option_and_then (λ item. option_map (update_facts item) (slice_get us item)) (place_of_id id us)

-- an update, and which keys it writes
abbrev pub update_keys : Update → UpdateKeys
update_keys u = record { id = id_of_update u; writer = u.writer; seq = u.seq; clock = u.clock; keys = keys_written u }

-- a page of the updates from a number on, and whether some are left out
abbrev pub update_page : List Update → ℕ → UpdatePage
update_page us from = record {
  updates = map update_keys (take MOST_UPDATES_TOLD (drop from us));
  more = nat_lt (from + MOST_UPDATES_TOLD) (length us);
}

-- ---- answers

-- What a node answers, by its setting and its journal.
unfoldable pub told_of_question : Setting → List Record → Question → QuestionAnswer
told_of_question here J question.Status = answer.Status (status_told here J)
told_of_question here J (question.Convictions from) = answer.Convictions (conviction_page (convictions_onward J from))
told_of_question here J (question.Keys after) = answer.Keys (key_page (keys_above (accepted J) after))
told_of_question here J (question.Latest key) = answer.Latest (latest_told J key)
told_of_question here J (question.Update id) = answer.Update (update_told (accepted J) id)
told_of_question here J (question.Accepted ids) = answer.Accepted (map (has_id (accepted J)) ids)
told_of_question here J (question.Updates from) = answer.Updates (update_page (accepted J) from)
