-- Each line of the table of events is lawful, and its name is that of no other.
use Rattle.std.proofs.Common.{◌≡◌, ℕ, true, List, Some, refl, ap, ◌∙◌}
use Rattle.std.specs.Str.{bytes_eq}
use Rattle.depot_schedule.specs.declared.event.Event.{Event}
use Rattle.depot_schedule.specs.declared.schedule.Schedule.{Schedule}
use Rattle.depot_schedule.specs.declared.verb.Verb.{Verb}
use Rattle.depot_schedule.specs.declared.verb.Verb.TheVariants as verb
use Rattle.depot_lines.specs.declared.changes.Keys.TheVariants as keys
use Rattle.depot_schedule.specs.declared.verb.Wanted.TheVariants as wanted
use Rattle.depot_schedule.specs.declared.verb.TheConstants.{VERBS}
use Rattle.depot_lines.specs.Spelling.{is_word}
use Rattle.depot_schedule.specs.EventLines.{event_node, event_key, event_value, event_changes, event_label, event_source, event_second, event_reader, event_size, event_seq, event_clock, event_prev, event_refs, event_history, event_kind, event_bytes, event_place, event_count, event_call, event_image, event_reference, event_nodes, put_line, puts_line, get_line, hello_line, bundle_line, give_line, restart_line, update_line, updates_line, voucher_line, proof_line, hollow_line, judge_line, raw_line, cut_line, flip_line, join_line, stop_line, receipt_line, settled_line, audit_line, checkpoint_line, sign_line, trim_line, tgive_line, tget_line, verb_of, line_of, verb_name, verb_named}
use Rattle.depot_schedule.specs.Schedules.{other, head_named}
use Rattle.depot_lines.proofs.LanguageLaws.{Lawful, LawfulLine, word_line, made_line, optional_line, counted_line, is_same}
use Rattle.depot_lines.proofs.HexWords.{key_lawful, put_key_lawful, value_lawful, raw_lawful}
use Rattle.depot_lines.proofs.ChangeWords.{changes_lawful}
use Rattle.depot_schedule.proofs.EventWordLaws.{correct_lawful, faulty_lawful, seq_lawful, piece_size_lawful, stop_call_lawful, image_lawful, new_label_lawful, label_for_lawful, history_lawful, reference_for_lawful, references_for_lawful, prev_lawful, deps_lawful}
use Rattle.depot_lines.proofs.VocabularyLaws.{clock_lawful, any_u32_lawful, node_count_lawful, kind_lawful}
use Rattle.depot_lines.proofs.LineTextLaws.{found_passes}

-- ---- the name and the line of a kind of event

-- the name of a kind of event is a word, is read as that kind, and begins no line of the header
pub record LawfulName (v : Verb) : Type 0 where
  pub again : verb_named (verb_name v) ≡ Some v
  pub plain : is_word (verb_name v) ≡ true
  pub head : head_named (verb_name v) ≡ other

-- the line of a kind of event is lawful, and each event that fits it is of that kind
pub record LawfulRow (v : Verb) : Type 0 where
  pub named : LawfulName v
  pub line : Lawful (line_of v)
  pub is : (s : Schedule) (e : Event) → (line_of v).fits s e → verb_of e ≡ v

-- so it is where the parts of an event make one of that kind
lawful_row : (v : Verb) (low high : ℕ) (remade : Event → Event) → verb_named (verb_name v) ≡ Some v → is_word (verb_name v) ≡ true → head_named (verb_name v) ≡ other → LawfulLine (line_of v) low high remade → ((e : Event) → verb_of (remade e) ≡ v) → LawfulRow v
lawful_row v low high remade again plain head l is = record {
  named = record { again = again; plain = plain; head = head };
  line = l.within.lawful;
  is = λ s e fits. ap verb_of (l.made s e fits) ∙ is e;
}

-- ---- each kind

put_row : LawfulRow verb.Put
unfolding verb_named put_line
put_row = lawful_row verb.Put 3 3 _ refl refl refl (counted_line 3 3 _ _ (
    word_line _ event_node _ _ 2 2 correct_lawful (λ a e. refl) λ node.
    word_line _ event_key _ _ 1 1 put_key_lawful (λ a e. refl) λ key.
    word_line _ event_value _ _ 0 0 value_lawful (λ a e. refl) λ value.
    made_line _)) (λ e. refl)

puts_row : LawfulRow verb.Puts
unfolding verb_named puts_line
puts_row = lawful_row verb.Puts 2 2 _ refl refl refl (counted_line 2 2 _ _ (
    word_line _ event_node _ _ 1 1 correct_lawful (λ a e. refl) λ node.
    word_line _ event_changes _ _ 0 0 (changes_lawful keys.Put) (λ a e. refl) λ changes.
    made_line _)) (λ e. refl)

get_row : LawfulRow verb.Get
unfolding verb_named get_line
get_row = lawful_row verb.Get 2 2 _ refl refl refl (counted_line 2 2 _ _ (
    word_line _ event_node _ _ 1 1 correct_lawful (λ a e. refl) λ node.
    word_line _ event_key _ _ 0 0 key_lawful (λ a e. refl) λ key.
    made_line _)) (λ e. refl)

hello_row : LawfulRow verb.Hello
unfolding verb_named hello_line
hello_row = lawful_row verb.Hello 2 2 _ refl refl refl (counted_line 2 2 _ _ (
    word_line _ event_node _ _ 1 1 correct_lawful (λ a e. refl) λ node.
    word_line _ event_label _ _ 0 0 new_label_lawful (λ a e. refl) λ label.
    made_line _)) (λ e. refl)

bundle_row : LawfulRow verb.Bundle
unfolding verb_named bundle_line
bundle_row = lawful_row verb.Bundle 3 3 _ refl refl refl (counted_line 3 3 _ _ (
    word_line _ event_node _ _ 2 2 correct_lawful (λ a e. refl) λ node.
    word_line _ event_source _ _ 1 1 (label_for_lawful wanted.Any) (λ a e. refl) λ hello.
    word_line _ event_label _ _ 0 0 new_label_lawful (λ a e. refl) λ label.
    made_line _)) (λ e. refl)

give_row : LawfulRow verb.Give
unfolding verb_named give_line
give_row = lawful_row verb.Give 2 3 _ refl refl refl (counted_line 2 3 _ _ (
    word_line _ event_node _ _ 1 2 correct_lawful (λ a e. refl) λ node.
    word_line _ event_label _ _ 0 1 (label_for_lawful wanted.Any) (λ a e. refl) λ label.
    optional_line _ event_size _ piece_size_lawful (λ o. refl))) (λ e. refl)

restart_row : LawfulRow verb.Restart
unfolding verb_named restart_line
restart_row = lawful_row verb.Restart 1 1 _ refl refl refl (counted_line 1 1 _ _ (
    word_line _ event_node _ _ 0 0 correct_lawful (λ a e. refl) λ node.
    made_line _)) (λ e. refl)

update_row : LawfulRow verb.Update
unfolding verb_named update_line
update_row = lawful_row verb.Update 9 9 _ refl refl refl (counted_line 9 9 _ _ (
    word_line _ event_label _ _ 8 8 new_label_lawful (λ a e. refl) λ label.
    word_line _ event_node _ _ 7 7 faulty_lawful (λ a e. refl) λ writer.
    word_line _ event_seq _ _ 6 6 seq_lawful (λ a e. refl) λ seq.
    word_line _ event_clock _ _ 5 5 clock_lawful (λ a e. refl) λ clock.
    word_line _ event_prev _ _ 4 4 prev_lawful (λ a e. refl) λ prev.
    word_line _ event_key _ _ 3 3 key_lawful (λ a e. refl) λ key.
    word_line _ event_value _ _ 2 2 value_lawful (λ a e. refl) λ value.
    word_line _ event_refs _ _ 1 1 deps_lawful (λ a e. refl) λ deps.
    word_line _ event_history _ _ 0 0 history_lawful (λ a e. refl) λ history.
    made_line _)) (λ e. refl)

updates_row : LawfulRow verb.Updates
unfolding verb_named updates_line
updates_row = lawful_row verb.Updates 8 8 _ refl refl refl (counted_line 8 8 _ _ (
    word_line _ event_label _ _ 7 7 new_label_lawful (λ a e. refl) λ label.
    word_line _ event_node _ _ 6 6 faulty_lawful (λ a e. refl) λ writer.
    word_line _ event_seq _ _ 5 5 seq_lawful (λ a e. refl) λ seq.
    word_line _ event_clock _ _ 4 4 clock_lawful (λ a e. refl) λ clock.
    word_line _ event_prev _ _ 3 3 prev_lawful (λ a e. refl) λ prev.
    word_line _ event_changes _ _ 2 2 (changes_lawful keys.Any) (λ a e. refl) λ changes.
    word_line _ event_refs _ _ 1 1 deps_lawful (λ a e. refl) λ deps.
    word_line _ event_history _ _ 0 0 history_lawful (λ a e. refl) λ history.
    made_line _)) (λ e. refl)

voucher_row : LawfulRow verb.Voucher
unfolding verb_named voucher_line
voucher_row = lawful_row verb.Voucher 4 4 _ refl refl refl (counted_line 4 4 _ _ (
    word_line _ event_label _ _ 3 3 new_label_lawful (λ a e. refl) λ label.
    word_line _ event_node _ _ 2 2 faulty_lawful (λ a e. refl) λ writer.
    word_line _ event_seq _ _ 1 1 seq_lawful (λ a e. refl) λ seq.
    word_line _ event_refs _ _ 0 0 (references_for_lawful wanted.Vouched 256) (λ a e. refl) λ refs.
    made_line _)) (λ e. refl)

proof_row : LawfulRow verb.Proof
unfolding verb_named proof_line
proof_row = lawful_row verb.Proof 4 4 _ refl refl refl (counted_line 4 4 _ _ (
    word_line _ event_label _ _ 3 3 new_label_lawful (λ a e. refl) λ label.
    word_line _ event_kind _ _ 2 2 kind_lawful (λ a e. refl) λ kind.
    word_line _ event_source _ _ 1 1 (label_for_lawful wanted.Signed) (λ a e. refl) λ first.
    word_line _ event_second _ _ 0 0 (label_for_lawful wanted.Signed) (λ a e. refl) λ second.
    made_line _)) (λ e. refl)

hollow_row : LawfulRow verb.Hollow
unfolding verb_named hollow_line
hollow_row = lawful_row verb.Hollow 3 3 _ refl refl refl (counted_line 3 3 _ _ (
    word_line _ event_label _ _ 2 2 new_label_lawful (λ a e. refl) λ label.
    word_line _ event_source _ _ 1 1 (label_for_lawful wanted.Voucher) (λ a e. refl) λ voucher.
    word_line _ event_second _ _ 0 0 (label_for_lawful wanted.Plain) (λ a e. refl) λ text.
    made_line _)) (λ e. refl)

judge_row : LawfulRow verb.Judge
unfolding verb_named judge_line
judge_row = lawful_row verb.Judge 1 1 _ refl refl refl (counted_line 1 1 _ _ (
    word_line _ event_label _ _ 0 0 (label_for_lawful wanted.Any) (λ a e. refl) λ label.
    made_line _)) (λ e. refl)

raw_row : LawfulRow verb.Raw
unfolding verb_named raw_line
raw_row = lawful_row verb.Raw 2 2 _ refl refl refl (counted_line 2 2 _ _ (
    word_line _ event_label _ _ 1 1 new_label_lawful (λ a e. refl) λ label.
    word_line _ event_bytes _ _ 0 0 raw_lawful (λ a e. refl) λ bytes.
    made_line _)) (λ e. refl)

cut_row : LawfulRow verb.Cut
unfolding verb_named cut_line
cut_row = lawful_row verb.Cut 4 4 _ refl refl refl (counted_line 4 4 _ _ (
    word_line _ event_label _ _ 3 3 new_label_lawful (λ a e. refl) λ label.
    word_line _ event_source _ _ 2 2 (label_for_lawful wanted.Any) (λ a e. refl) λ source.
    word_line _ event_place _ _ 1 1 any_u32_lawful (λ a e. refl) λ start.
    word_line _ event_count _ _ 0 0 any_u32_lawful (λ a e. refl) λ count.
    made_line _)) (λ e. refl)

flip_row : LawfulRow verb.Flip
unfolding verb_named flip_line
flip_row = lawful_row verb.Flip 3 3 _ refl refl refl (counted_line 3 3 _ _ (
    word_line _ event_label _ _ 2 2 new_label_lawful (λ a e. refl) λ label.
    word_line _ event_source _ _ 1 1 (label_for_lawful wanted.Any) (λ a e. refl) λ source.
    word_line _ event_place _ _ 0 0 any_u32_lawful (λ a e. refl) λ place.
    made_line _)) (λ e. refl)

join_row : LawfulRow verb.Join
unfolding verb_named join_line
join_row = lawful_row verb.Join 3 3 _ refl refl refl (counted_line 3 3 _ _ (
    word_line _ event_label _ _ 2 2 new_label_lawful (λ a e. refl) λ label.
    word_line _ event_source _ _ 1 1 (label_for_lawful wanted.Any) (λ a e. refl) λ first.
    word_line _ event_second _ _ 0 0 (label_for_lawful wanted.Any) (λ a e. refl) λ second.
    made_line _)) (λ e. refl)

stop_row : LawfulRow verb.Stop
unfolding verb_named stop_line
stop_row = lawful_row verb.Stop 3 3 _ refl refl refl (counted_line 3 3 _ _ (
    word_line _ event_node _ _ 2 2 correct_lawful (λ a e. refl) λ node.
    word_line _ event_call _ _ 1 1 stop_call_lawful (λ a e. refl) λ call.
    word_line _ event_image _ _ 0 0 image_lawful (λ a e. refl) λ image.
    made_line _)) (λ e. refl)

receipt_row : LawfulRow verb.Receipt
unfolding verb_named receipt_line
receipt_row = lawful_row verb.Receipt 2 2 _ refl refl refl (counted_line 2 2 _ _ (
    word_line _ event_node _ _ 1 1 correct_lawful (λ a e. refl) λ node.
    word_line _ event_refs _ _ 0 0 (references_for_lawful wanted.Update 16) (λ a e. refl) λ refs.
    made_line _)) (λ e. refl)

settled_row : LawfulRow verb.Settled
unfolding verb_named settled_line
settled_row = lawful_row verb.Settled 3 3 _ refl refl refl (counted_line 3 3 _ _ (
    word_line _ event_node _ _ 2 2 correct_lawful (λ a e. refl) λ node.
    word_line _ event_reference _ _ 1 1 (reference_for_lawful wanted.Update) (λ a e. refl) λ update.
    word_line _ event_nodes _ _ 0 0 node_count_lawful (λ a e. refl) λ k.
    made_line _)) (λ e. refl)

audit_row : LawfulRow verb.Audit
unfolding verb_named audit_line
audit_row = lawful_row verb.Audit 0 0 _ refl refl refl (counted_line 0 0 _ _ (made_line _)) (λ e. refl)

checkpoint_row : LawfulRow verb.Checkpoint
unfolding verb_named checkpoint_line
checkpoint_row = lawful_row verb.Checkpoint 2 2 _ refl refl refl (counted_line 2 2 _ _ (
    word_line _ event_node _ _ 1 1 correct_lawful (λ a e. refl) λ node.
    word_line _ event_label _ _ 0 0 new_label_lawful (λ a e. refl) λ label.
    made_line _)) (λ e. refl)

sign_row : LawfulRow verb.Sign
unfolding verb_named sign_line
sign_row = lawful_row verb.Sign 2 2 _ refl refl refl (counted_line 2 2 _ _ (
    word_line _ event_node _ _ 1 1 correct_lawful (λ a e. refl) λ node.
    word_line _ event_label _ _ 0 0 (label_for_lawful wanted.Any) (λ a e. refl) λ label.
    made_line _)) (λ e. refl)

trim_row : LawfulRow verb.Trim
unfolding verb_named trim_line
trim_row = lawful_row verb.Trim 3 3 _ refl refl refl (counted_line 3 3 _ _ (
    word_line _ event_node _ _ 2 2 correct_lawful (λ a e. refl) λ node.
    word_line _ event_label _ _ 1 1 (label_for_lawful wanted.Any) (λ a e. refl) λ label.
    word_line _ event_reader _ _ 0 0 new_label_lawful (λ a e. refl) λ name.
    made_line _)) (λ e. refl)

tgive_row : LawfulRow verb.Tgive
unfolding verb_named tgive_line
tgive_row = lawful_row verb.Tgive 2 2 _ refl refl refl (counted_line 2 2 _ _ (
    word_line _ event_reader _ _ 1 1 (label_for_lawful wanted.Reader) (λ a e. refl) λ name.
    word_line _ event_label _ _ 0 0 (label_for_lawful wanted.Any) (λ a e. refl) λ label.
    made_line _)) (λ e. refl)

tget_row : LawfulRow verb.Tget
unfolding verb_named tget_line
tget_row = lawful_row verb.Tget 2 2 _ refl refl refl (counted_line 2 2 _ _ (
    word_line _ event_reader _ _ 1 1 (label_for_lawful wanted.Reader) (λ a e. refl) λ name.
    word_line _ event_key _ _ 0 0 key_lawful (λ a e. refl) λ key.
    made_line _)) (λ e. refl)

-- ---- all of them

pub row_lawful : (v : Verb) → LawfulRow v
row_lawful verb.Put = put_row
row_lawful verb.Puts = puts_row
row_lawful verb.Get = get_row
row_lawful verb.Hello = hello_row
row_lawful verb.Bundle = bundle_row
row_lawful verb.Give = give_row
row_lawful verb.Restart = restart_row
row_lawful verb.Update = update_row
row_lawful verb.Updates = updates_row
row_lawful verb.Voucher = voucher_row
row_lawful verb.Proof = proof_row
row_lawful verb.Hollow = hollow_row
row_lawful verb.Judge = judge_row
row_lawful verb.Raw = raw_row
row_lawful verb.Cut = cut_row
row_lawful verb.Flip = flip_row
row_lawful verb.Join = join_row
row_lawful verb.Stop = stop_row
row_lawful verb.Receipt = receipt_row
row_lawful verb.Settled = settled_row
row_lawful verb.Audit = audit_row
row_lawful verb.Checkpoint = checkpoint_row
row_lawful verb.Sign = sign_row
row_lawful verb.Trim = trim_row
row_lawful verb.Tgive = tgive_row
row_lawful verb.Tget = tget_row

-- a word that is read as a kind of event is its name
pub name_is : (word : List ℕ) (v : Verb) → verb_named word ≡ Some v → word ≡ verb_name v
unfolding verb_named
name_is word v e = is_same word (verb_name v) (found_passes (λ v. bytes_eq word (verb_name v)) VERBS v e)
