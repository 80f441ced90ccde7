-- Worked scripts: what a node answers and keeps, each way in which a script ends, and runs that are cut short.
use Rattle.std.proofs.Common.{◌≡◌, ◌<◌, ℕ, List, [], ◌∷◌, ◌++◌, length, map, replicate, take, drop, true, false, codes, Option, Some, None, if◌then◌else◌, refl, sym, ap, subst, inl, inr, arith}
use Rattle.std.proofs.lemmas.List.{length-append, length-map}
use Rattle.std.specs.Str.{bytes_eq}
use Rattle.depot_base.specs.Calls.{Call, Made, asks_length, made, made_but_last, syncs}
use Rattle.depot_base.specs.Closed.{rest_of}
use Rattle.depot_base.specs.Cursor.{numeral}
use Rattle.depot_base.specs.Format.{number, bytes_of, inner, list_of}
use Rattle.depot_base.specs.Parts.{dep, roster_entry, write, marked}
use Rattle.depot_model.specs.exchange.Bundle.{signed_with, is_covered, candidates, records_where, values_behind, candidate_parcels, parcels, fitting, sent_for, sent_foreign, unvouched, bundle_frames, bundle_of, bundle_answer}
use Rattle.depot_model.specs.checks.Checks.{sight, content_checks, opponent, forked, refused_as_convicted, statement_checks, proof_checks, first_failed_check, is_known, answer_to, due, named_opponent, added, growth}
use Rattle.depot_model.specs.updates.Contradictions.{is_of_kind, contradicts, kind_of, is_update_text, is_hollow}
use Rattle.depot_model.specs.updates.Conviction.{proof_of}
use Rattle.depot_model.specs.exchange.Feeding.{given_by, take_frame, fed_frame, fed_byte, fed, ending_of, report_of}
use Rattle.depot_model.specs.texts.Frames.{frame_at}
use Rattle.depot_model.specs.exchange.Hello.{hello_leaf, hello, convicted_nodes, lacking, record_place, hello_of}
use Rattle.depot_model.specs.updates.History.{leaves_of, put_by_id, by_id, history_text, history_hash}
use Rattle.depot_model.specs.journals.Journal.{first_values, has_id, named, prev_of, is_convicted, is_vouched, holds_hash, holds, seen_under, is_wanted}
use Rattle.depot_model.specs.updates.Judgement.{points}
use Rattle.depot_model.specs.checks.Limits.{Limit, spent, spent_by, tips_of, collides_by, limit_of_own, limit_of_put}
use Rattle.depot_model.specs.updates.Order.{past}
use Rattle.depot_model.specs.checks.Own.{precedes_named, next_entries, next_own, leaf_count}
use Rattle.depot_model.specs.texts.Plain.{plain_root, plain_signature, plain_verifies}
use Rattle.depot_model.specs.texts.Records.{birth, own_put, tagged, record_text, text_of_record}
use Rattle.depot_model.specs.checks.Room.{foreign_leaves, full_with}
use Rattle.depot_model.specs.worlds.Receipts.{receipt_key, put_number, numbers_rising, no_receipt}
use Rattle.depot_model.specs.texts.Roster.{key_of, is_signed}
use Rattle.depot_model.specs.checks.Taking.{given_as, answer_to_text, growth_of_text}
use Rattle.depot_model.specs.texts.Texts.{text_of_update, update_fields, voucher_fields, update_body, voucher_body, statement, signed, proof, roster, id_of_update, id_of_statement, hash_of_roster}
use Rattle.depot_model.specs.checks.Vouching.{put_rising, rising, groups_behind, groups_of, new_vouchers, limit_of_new, limit_of_vouchers}
use Rattle.depot_schedule.specs.EventWords.{named_by}
use Rattle.depot_answers.specs.AnswerTexts.{text_of_check, text_of_limit, text_of_report}
use Rattle.depot_requests.specs.Replies.{closing_told}
use Rattle.depot_requests.specs.Requests.{served}
use Rattle.depot_world.specs.ScheduleStops.{restart_by}
use Rattle.depot_model.specs.updates.LatestList.{latest_in}
use Rattle.depot_model.specs.lists.Insertion.{insert_by, order_by}
use Rattle.depot_traces.specs.TraceTexts.{answered_text, behind_mark, read_text, record_piece, trace_text}
use Rattle.sha2.specs.Sha256.{sha256, first_words, schedule, rounds, compress, hash_after, digest_bytes}
use Rattle.hex.specs.Hex.{encode_with, decode_pairs}
use Rattle.std.specs.Fmt.{digits}
use Rattle.depot_base.specs.Zeros.{zeros}
use Rattle.depot_answers.specs.declared.reader_answers.ReaderCounts.{ReaderCounts}
use Rattle.depot_base.specs.declared.check.Full.{Full}
use Rattle.depot_requests.specs.declared.reader_reply.ReaderReply.TheVariants as reader_reply
use Rattle.depot_base.specs.declared.record.Record.{Record}
use Rattle.depot_base.specs.declared.write.Change.{Change}
use Rattle.depot_base.specs.declared.record.Record.TheVariants.{Birth, OwnPut, OwnVoucher, Held}
use Rattle.depot_model.specs.checks.Checks.{Setting}
use Rattle.depot_model.specs.exchange.Feeding.{out_of_room}
use Rattle.depot_model.specs.worlds.World.{Read, IsCorrect}
use Rattle.depot_model.specs.exchange.Bundle.{Signs}
use Rattle.depot_model.specs.journals.Stops.{HasRecords}
use Rattle.depot_model.proofs.examples.Exchanges.{here, sign, born, members, put, hello_text, bundle, bytes_in, stream}
use Rattle.depot_base.specs.Writes.{one_change}
use Rattle.depot_base.specs.File.{IsFileOf}
use Rattle.depot_laws.proofs.of_worlds.TwoNodes.{all_verify, node, newborn, second_born}
use Rattle.depot_outside.specs.Told.{Disks, Shelves, Sinks, Wrote}
use Rattle.depot_script.specs.Commands.{put_form as put_command, puts_form as puts_command, get_form as get_command, hello_form as hello_command, bundle_form as bundle_command, take_form as take_command, receipt_form as receipt_command, settled_form as settled_command, export_form as export_command}
use Rattle.depot_script.specs.declared.command.Command.{Command}
use Rattle.depot_script.specs.declared.command.Command.TheVariants as command
use Rattle.depot_session.specs.declared.ending.ScriptEnding.{ScriptEnding}
use Rattle.depot_session.specs.declared.ending.ScriptEnding.TheVariants as ending
use Rattle.depot_session.specs.SessionRuns.{CallsShort, DiskFailsAmong, GoesShort, GrowsTo, IsCutBy, IsLast, IsToBeWritten, LeavesFront, calls_of_run, pending_for, pending_in, world_at}
use Rattle.depot_session.specs.Sessions.{Answers, Files, Session, answers_of, ending_of_closing, ending_of_reader_reply, session_from, step_of}
use Rattle.depot_session.specs.Unhindered.{AreUnhindered}

-- ---- a script

-- a hello of the second node, a stream of one update and its value, a hello of another roster, and what is neither
abbrev files : Files
files name =
    if bytes_eq name (codes "two") then Some (hello_text 2 (born 2))
    else (if bytes_eq name (codes "in") then Some (stream 0 1 98 ++ 4 ∷ 0 ∷ 0 ∷ 0 ∷ 1 ∷ 0 ∷ [])
    else (if bytes_eq name (codes "other") then Some (1 ∷ 3 ∷ 0 ∷ 2 ∷ (zeros ++ replicate 6 0))
    else (if bytes_eq name (codes "bad") then Some (9 ∷ []) else None)))

abbrev start : Session
start = session_from (here 1) (born 1) [] files

abbrev answers : List Command → Answers
answers commands = answers_of (here 1) (sign 1) start commands

abbrev k : List ℕ
k = 107 ∷ []

-- the first node puts, reads, stores a hello and a bundle, takes, and reads
abbrev all : Answers
all = answers (command.Put k (97 ∷ []) ∷ command.Get k ∷ command.Hello (codes "h") ∷ command.Bundle (codes "two") (codes "b") ∷ command.Take (codes "in") ∷ command.Get k ∷ [])

record CarriedOut : Type 0 where
  pub ends : all.ending ≡ ending.Done
  pub records : length all.session.correct.journal ≡ 4
  -- its reads, and what they show
  pub reads : map (λ (r : Read). r.at) all.session.correct.reads ≡ 2 ∷ 4 ∷ []
  pub shown : map (λ (r : Read). length r.answer) all.session.correct.reads ≡ 1 ∷ 2 ∷ []
  -- the files that it stored, and those that were there
  pub hello_file : all.session.files (codes "h") ≡ Some (hello_text 1 (put 1 97 (born 1)))
  pub bundle_file : all.session.files (codes "b") ≡ Some (bytes_in (bundle 1 (put 1 97 (born 1)) 2 (born 2)))
  pub other_file : all.session.files (codes "bad") ≡ Some (9 ∷ [])
  pub no_file : all.session.files (codes "none") ≡ None

carried_out : CarriedOut
unfolding answers_of step_of put_command get_command hello_command bundle_command take_command rest_of numeral number bytes_of inner list_of dep roster_entry signed_with is_covered candidates records_where values_behind candidate_parcels parcels fitting sent_for sent_foreign unvouched bundle_frames bundle_of bundle_answer sight content_checks opponent forked refused_as_convicted statement_checks proof_checks first_failed_check is_known answer_to due named_opponent added growth is_of_kind contradicts kind_of proof_of given_by take_frame fed_frame fed_byte fed ending_of report_of frame_at hello_leaf hello convicted_nodes lacking record_place hello_of leaves_of put_by_id by_id history_text history_hash first_values has_id named prev_of is_convicted is_vouched holds_hash holds is_wanted points spent_by tips_of collides_by limit_of_own limit_of_put past precedes_named next_entries next_own leaf_count plain_root plain_signature plain_verifies birth own_put tagged record_text foreign_leaves full_with key_of is_signed given_as answer_to_text growth_of_text update_fields voucher_fields update_body voucher_body statement signed proof roster id_of_update id_of_statement hash_of_roster put_rising rising groups_behind groups_of new_vouchers limit_of_new limit_of_vouchers named_by text_of_check text_of_limit text_of_report served restart_by insert_by order_by latest_in sha256 first_words schedule rounds compress hash_after digest_bytes encode_with decode_pairs digits seen_under write marked is_update_text is_hollow
carried_out = record { ends = refl; records = refl; reads = refl; shown = refl; hello_file = refl; bundle_file = refl; other_file = refl; no_file = refl }

record Told : Type 0 where
  pub lines : (answers (command.Put k (97 ∷ []) ∷ command.Get k ∷ command.Hello (codes "h") ∷ command.Bundle (codes "two") (codes "b") ∷ command.Take (codes "in") ∷ [])).text ≡ codes "put 6b -> 0/1\nget 6b -> 1/0/1=61\nhello h -> convicted 0 leaves 1 wanted 0\nbundle two b -> proofs 0 vouchers 0 updates 1 values 1 whole\ntake in -> accepted 2 known 0 refused 0 whole\n"

told : Told
unfolding answers_of step_of put_command get_command hello_command bundle_command take_command rest_of numeral number bytes_of inner list_of dep roster_entry signed_with is_covered candidates records_where values_behind candidate_parcels parcels fitting sent_for sent_foreign unvouched bundle_frames bundle_of bundle_answer sight content_checks opponent forked refused_as_convicted statement_checks proof_checks first_failed_check is_known answer_to due named_opponent added growth is_of_kind contradicts kind_of proof_of given_by take_frame fed_frame fed_byte fed ending_of report_of frame_at hello_leaf hello convicted_nodes lacking record_place hello_of leaves_of put_by_id by_id history_text history_hash first_values has_id named prev_of is_convicted is_vouched holds_hash holds is_wanted points spent_by tips_of collides_by limit_of_own limit_of_put past precedes_named next_entries next_own leaf_count plain_root plain_signature plain_verifies birth own_put tagged record_text foreign_leaves full_with key_of is_signed given_as answer_to_text growth_of_text update_fields voucher_fields update_body voucher_body statement signed proof roster id_of_update id_of_statement hash_of_roster put_rising rising groups_behind groups_of new_vouchers limit_of_new limit_of_vouchers named_by text_of_check text_of_limit text_of_report served restart_by insert_by order_by latest_in sha256 first_words schedule rounds compress hash_after digest_bytes encode_with decode_pairs digits seen_under write marked is_update_text is_hollow
told = record { lines = refl }

-- several changes at once, a deletion among them

abbrev l : List ℕ
l = 108 ∷ []

abbrev given : List ℕ → ℕ → Change
given key value = record { key = key; value = Some (value ∷ []) }

abbrev deleted : List ℕ → Change
deleted key = record { key = key; value = None }

abbrev several : Answers
several = answers (command.Puts (given k 97 ∷ given l 98 ∷ []) ∷ command.Get k ∷ command.Get l ∷ command.Puts (deleted k ∷ given l 99 ∷ []) ∷ command.Get k ∷ command.Get l ∷ [])

record Several : Type 0 where
  pub ends : several.ending ≡ ending.Done
  -- one record a command, and none of a value that is deleted
  pub records : length several.session.correct.journal ≡ 3
  pub lines : several.text ≡ codes "puts -> 0/1\nget 6b -> 1/0/1=61\nget 6c -> 1/0/1=62\nputs -> 1/2\nget 6b -> 1/1/2!\nget 6c -> 1/1/2=63\n"

several_at_once : Several
unfolding answers_of step_of put_command puts_command get_command hello_command bundle_command take_command rest_of numeral number bytes_of inner list_of dep roster_entry signed_with is_covered candidates records_where values_behind candidate_parcels parcels fitting sent_for sent_foreign unvouched bundle_frames bundle_of bundle_answer sight content_checks opponent forked refused_as_convicted statement_checks proof_checks first_failed_check is_known answer_to due named_opponent added growth is_of_kind contradicts kind_of proof_of given_by take_frame fed_frame fed_byte fed ending_of report_of frame_at hello_leaf hello convicted_nodes lacking record_place hello_of leaves_of put_by_id by_id history_text history_hash first_values has_id named prev_of is_convicted is_vouched holds_hash holds is_wanted points spent_by tips_of collides_by limit_of_own limit_of_put past precedes_named next_entries next_own leaf_count plain_root plain_signature plain_verifies birth own_put tagged record_text foreign_leaves full_with key_of is_signed given_as answer_to_text growth_of_text update_fields voucher_fields update_body voucher_body statement signed proof roster id_of_update id_of_statement hash_of_roster put_rising rising groups_behind groups_of new_vouchers limit_of_new limit_of_vouchers named_by text_of_check text_of_limit text_of_report served restart_by insert_by order_by latest_in sha256 first_words schedule rounds compress hash_after digest_bytes encode_with decode_pairs digits seen_under write marked is_update_text is_hollow
several_at_once = record { ends = refl; records = refl; lines = refl }

-- receipts, and whether a put is settled

-- the id of the node's first put
abbrev first_id : List ℕ
first_id = id_of_update (next_own 1 (born 1) (one_change k (97 ∷ [])))

-- it gives none for what it hasn't accepted, and then one for its own put
abbrev received : Answers
received = answers (command.Receipt first_id ∷ command.Put k (97 ∷ []) ∷ command.Settled first_id 1 ∷ command.Receipt first_id ∷ command.Settled first_id 1 ∷ command.Settled first_id 2 ∷ [])

record Received : Type 0 where
  pub ends : received.ending ≡ ending.Done
  -- one record a put, and none where no receipt is given
  pub records : length received.session.correct.journal ≡ 3
  pub lines : received.text ≡ codes "receipt df4be50b7bd1dc07fc67b2d1e8967be7e022e474f81cb5102039c1a6ecc0666b -> Unknown\nput 6b -> 0/1\nsettled df4be50b7bd1dc07fc67b2d1e8967be7e022e474f81cb5102039c1a6ecc0666b 1 -> no\nreceipt df4be50b7bd1dc07fc67b2d1e8967be7e022e474f81cb5102039c1a6ecc0666b -> 1/2\nsettled df4be50b7bd1dc07fc67b2d1e8967be7e022e474f81cb5102039c1a6ecc0666b 1 -> yes\nsettled df4be50b7bd1dc07fc67b2d1e8967be7e022e474f81cb5102039c1a6ecc0666b 2 -> no\n"

received_all : Received
unfolding answers_of step_of put_command receipt_command settled_command get_command hello_command bundle_command take_command rest_of numeral number bytes_of inner list_of dep roster_entry signed_with is_covered candidates records_where values_behind candidate_parcels parcels fitting sent_for sent_foreign unvouched bundle_frames bundle_of bundle_answer sight content_checks opponent forked refused_as_convicted statement_checks proof_checks first_failed_check is_known answer_to due named_opponent added growth is_of_kind contradicts kind_of proof_of given_by take_frame fed_frame fed_byte fed ending_of report_of frame_at hello_leaf hello convicted_nodes lacking record_place hello_of leaves_of put_by_id by_id history_text history_hash first_values has_id named prev_of is_convicted is_vouched holds_hash holds is_wanted points spent_by tips_of collides_by limit_of_own limit_of_put past precedes_named next_entries next_own leaf_count plain_root plain_signature plain_verifies birth own_put tagged record_text foreign_leaves full_with key_of is_signed given_as answer_to_text growth_of_text update_fields voucher_fields update_body voucher_body statement signed proof roster id_of_update id_of_statement hash_of_roster put_rising rising groups_behind groups_of new_vouchers limit_of_new limit_of_vouchers named_by text_of_check text_of_limit text_of_report served receipt_key put_number numbers_rising no_receipt restart_by insert_by order_by latest_in sha256 first_words schedule rounds compress hash_after digest_bytes encode_with decode_pairs digits seen_under write marked is_update_text is_hollow
received_all = record { ends = refl; records = refl; lines = refl }

-- a trace that is handed in

-- after a read, and before one that it doesn't have
abbrev exported : Answers
exported = answers (command.Put k (97 ∷ []) ∷ command.Get k ∷ command.Export (codes "t") ∷ command.Get k ∷ [])

-- a run of its journal, whose read is one of an earlier run
abbrev exported_later : Answers
exported_later = answers_of (here 1) (sign 1) (session_from (here 1) (put 1 97 (born 1)) exported.session.correct.reads files) (command.Export (codes "t") ∷ [])

-- the texts of its two records
abbrev birth_text : List ℕ
birth_text = 1 ∷ 0 ∷ 1 ∷ hash_of_roster members

abbrev put_text : List ℕ
put_text = 2 ∷ 0 ∷ 0 ∷ 0 ∷ 120 ∷ (text_of_update (next_own 1 (born 1) (one_change k (97 ∷ []))) ++ 97 ∷ [])

record Exported : Type 0 where
  pub ends : exported.ending ≡ ending.Done
  pub lines : exported.text ≡ codes "put 6b -> 0/1\nget 6b -> 1/0/1=61\nexport t -> records 2 reads 1\nget 6b -> 1/0/1=61\n"
  -- two records, each preceded by its length, and a read of two records: of the key, with one write and its value
  pub file : exported.session.files (codes "t") ≡ Some (1 ∷ 5 ∷ 0 ∷ 1 ∷ 0 ∷ 0 ∷ 0 ∷ 2 ∷ (0 ∷ 0 ∷ 0 ∷ 35 ∷ (birth_text ++ (0 ∷ 0 ∷ 0 ∷ 126 ∷ (put_text ++ (0 ∷ 0 ∷ 0 ∷ 1 ∷ 0 ∷ 0 ∷ 0 ∷ 2 ∷ 1 ∷ 107 ∷ 0 ∷ 1 ∷ (first_id ++ 1 ∷ 0 ∷ 0 ∷ 0 ∷ 1 ∷ 97 ∷ [])))))))
  pub later : exported_later.text ≡ codes "export t -> records 2 reads 0\n"

exported_all : Exported
unfolding answers_of step_of trace_text record_piece read_text answered_text behind_mark put_command get_command export_command hello_command bundle_command take_command rest_of numeral number bytes_of inner list_of dep roster_entry signed_with is_covered candidates records_where values_behind candidate_parcels parcels fitting sent_for sent_foreign unvouched bundle_frames bundle_of bundle_answer sight content_checks opponent forked refused_as_convicted statement_checks proof_checks first_failed_check is_known answer_to due named_opponent added growth is_of_kind contradicts kind_of proof_of given_by take_frame fed_frame fed_byte fed ending_of report_of frame_at hello_leaf hello convicted_nodes lacking record_place hello_of leaves_of put_by_id by_id history_text history_hash first_values has_id named prev_of is_convicted is_vouched holds_hash holds is_wanted points spent_by tips_of collides_by limit_of_own limit_of_put past precedes_named next_entries next_own leaf_count plain_root plain_signature plain_verifies birth own_put tagged record_text foreign_leaves full_with key_of is_signed given_as answer_to_text growth_of_text update_fields voucher_fields update_body voucher_body statement signed proof roster id_of_update id_of_statement hash_of_roster put_rising rising groups_behind groups_of new_vouchers limit_of_new limit_of_vouchers named_by text_of_check text_of_limit text_of_report served restart_by insert_by order_by latest_in sha256 first_words schedule rounds compress hash_after digest_bytes encode_with decode_pairs digits seen_under write marked is_update_text is_hollow
exported_all = record { ends = refl; lines = refl; file = refl; later = refl }

-- ---- how a script ends

-- a node without a leaf
abbrev low : Setting
low = record (here 1) { listed = record { node = 1; key = record { root = zeros; height = 2 } } ∷ [] }

abbrev used : List Record
used = Birth 1 zeros ∷ OwnVoucher (record { node = 1; seq = 0; ids = zeros ∷ [] }) ∷ OwnVoucher (record { node = 1; seq = 1; ids = zeros ∷ [] }) ∷ OwnVoucher (record { node = 1; seq = 2; ids = zeros ∷ [] }) ∷ OwnVoucher (record { node = 1; seq = 3; ids = zeros ∷ [] }) ∷ []

abbrev spent_now : Answers
spent_now = answers_of low (sign 1) (session_from low used [] files) (command.Put k (97 ∷ []) ∷ command.Get k ∷ [])

record Endings : Type 0 where
  pub nothing : (answers []).ending ≡ ending.Done
  -- a hello and a stream that aren't there
  pub absent_hello : (answers (command.Bundle (codes "none") (codes "b") ∷ command.Get k ∷ [])).ending ≡ ending.Shelf
  pub absent_hello_line : (answers (command.Bundle (codes "none") (codes "b") ∷ command.Get k ∷ [])).text ≡ codes "shelf none\n"
  pub absent_stream : (answers (command.Take (codes "none") ∷ command.Get k ∷ [])).ending ≡ ending.Shelf
  pub absent_stream_line : (answers (command.Take (codes "none") ∷ command.Get k ∷ [])).text ≡ codes "shelf none\n"
  -- a hello that is none, and one of another roster
  pub no_hello : (answers (command.Bundle (codes "bad") (codes "b") ∷ command.Get k ∷ [])).ending ≡ ending.Input
  pub no_hello_line : (answers (command.Bundle (codes "bad") (codes "b") ∷ command.Get k ∷ [])).text ≡ codes "bundle bad b -> IllFormed 0\n"
  pub other_roster : (answers (command.Bundle (codes "other") (codes "b") ∷ command.Get k ∷ [])).ending ≡ ending.Identity
  pub other_roster_line : (answers (command.Bundle (codes "other") (codes "b") ∷ command.Get k ∷ [])).text ≡ codes "bundle other b -> OtherRoster\n"
  -- a stream that is none
  pub no_stream : (answers (command.Take (codes "bad") ∷ command.Get k ∷ [])).ending ≡ ending.Input
  -- a limit
  pub limit : spent_now.ending ≡ ending.Limit
  pub limit_line : spent_now.text ≡ codes "put 6b -> Spent 4\n"
  -- no command after it is carried out
  pub no_read : spent_now.session.correct.reads ≡ []
  pub nothing_stored : (answers (command.Bundle (codes "bad") (codes "b") ∷ [])).session.files (codes "b") ≡ None

endings : Endings
unfolding answers_of step_of put_command get_command hello_command bundle_command take_command rest_of numeral number bytes_of inner list_of dep roster_entry signed_with is_covered candidates records_where values_behind candidate_parcels parcels fitting sent_for sent_foreign unvouched bundle_frames bundle_of bundle_answer sight content_checks opponent forked refused_as_convicted statement_checks proof_checks first_failed_check is_known answer_to due named_opponent added growth is_of_kind contradicts kind_of proof_of given_by take_frame fed_frame fed_byte fed ending_of report_of frame_at hello_leaf hello convicted_nodes lacking record_place hello_of leaves_of put_by_id by_id history_text history_hash first_values has_id named prev_of is_convicted is_vouched holds_hash holds is_wanted points spent_by tips_of collides_by limit_of_own limit_of_put past precedes_named next_entries next_own leaf_count plain_root plain_signature plain_verifies birth own_put tagged record_text foreign_leaves full_with key_of is_signed given_as answer_to_text growth_of_text update_fields voucher_fields update_body voucher_body statement signed proof roster id_of_update id_of_statement hash_of_roster put_rising rising groups_behind groups_of new_vouchers limit_of_new limit_of_vouchers named_by text_of_check text_of_limit text_of_report served restart_by insert_by order_by latest_in sha256 first_words schedule rounds compress hash_after digest_bytes encode_with decode_pairs digits seen_under write marked is_update_text is_hollow
endings = record { nothing = refl; absent_hello = refl; absent_hello_line = refl; absent_stream = refl; absent_stream_line = refl; no_hello = refl; no_hello_line = refl; other_roster = refl; other_roster_line = refl; no_stream = refl; limit = refl; limit_line = refl; no_read = refl; nothing_stored = refl }

-- a stream for which there is no room ends it by a limit
full_take : (what : Full) → ending_of_closing (closing_told (Some (out_of_room what))) ≡ Some ending.Limit
full_take what = refl

-- and so does one for which a reader has none
full_tgive : (counts : ReaderCounts) (what : Full) → ending_of_reader_reply (reader_reply.Took counts (Some what)) ≡ Some ending.Limit
full_tgive counts what = refl

-- ---- runs that are cut short

abbrev shelf : ℕ → Shelves
shelf faults = record { tells = true; file = files; file_after = files; failed_before = []; failed_after = []; faults_before = 0; faults_after = faults }

abbrev sink : ℕ → Sinks
sink faults = record { tells = true; before = []; after = []; faults_before = 0; faults_after = faults }

-- memory needs no fault; the shelf, the sink and the disk need their own
by_memory : IsCutBy ⊥ (shelf 0) (sink 0) ending.Memory
by_memory = tt

by_shelf : IsCutBy ⊥ (shelf 1) (sink 0) ending.Shelf
by_shelf = omega arith

not_by_shelf : IsCutBy (Unit {0}) (shelf 0) (sink 1) ending.Shelf → ⊥
not_by_shelf rose = omega (arith, rose)

by_sink : IsCutBy ⊥ (shelf 0) (sink 1) ending.Sink
by_sink = omega arith

not_by_sink : IsCutBy (Unit {0}) (shelf 1) (sink 0) ending.Sink → ⊥
not_by_sink rose = omega (arith, rose)

not_by_disk : IsCutBy ⊥ (shelf 1) (sink 1) ending.Disk → ⊥
not_by_disk never = never

not_by_limit : IsCutBy (Unit {0}) (shelf 1) (sink 1) ending.Limit → ⊥
not_by_limit never = never

-- what was an image before the run may still be one where no command was carried out, and nowhere else
before_any : (image : List ℕ) (kept more : List Record) → LeavesFront [] (λ i. i ≡ image) kept more image
before_any image kept more = inl refl

not_lost : (c : Command) → LeavesFront (c ∷ []) (λ i. i ≡ []) (Held (7 ∷ []) ∷ []) [] [] → ⊥
not_lost c left = no_records (map text_of_record (take left.count [])) left.has where
  no_records : (bodies : List (List ℕ)) → IsFileOf [] (text_of_record (Held (7 ∷ [])) ∷ bodies) → ⊥
  no_records bodies (inl short) = let none : text_of_record (Held (7 ∷ [])) ∷ bodies ≡ [] = short.1 in cc
  no_records bodies (inr ((gate, rest, closed, is), within)) = cc

-- ---- a script of one put

abbrev no_signature : Signs
no_signature seq body = []

abbrev second : Session
second = session_from (node 2) (newborn 2) [] files

abbrev one_put : Command
one_put = command.Put k (97 ∷ [])

abbrev its_records : List Record
its_records = OwnPut (next_own 2 (newborn 2) (one_change k (97 ∷ []))) ((97 ∷ []) ∷ []) ∷ []

abbrev its_line : List ℕ
its_line = codes "put 6b -> 0/1\n"

record PutGoes : Type 0 where
  pub brings : (answers_of (node 2) no_signature second (one_put ∷ [])).session.correct.journal ≡ newborn 2 ++ its_records
  pub steps : (step_of (node 2) no_signature second one_put).session.correct.journal ≡ newborn 2 ++ its_records
  pub text : (step_of (node 2) no_signature second one_put).text ≡ its_line
  pub files : (step_of (node 2) no_signature second one_put).session.files ≡ files
  pub before : (answers_of (node 2) no_signature second []).session ≡ second
  pub done : (answers_of (node 2) no_signature second []).ending ≡ ending.Done
  pub nothing : (answers_of (node 2) no_signature second []).text ≡ []

put_goes : PutGoes
unfolding answers_of step_of put_command get_command hello_command bundle_command take_command rest_of numeral number bytes_of inner list_of dep roster_entry signed_with is_covered candidates records_where values_behind candidate_parcels parcels fitting sent_for sent_foreign unvouched bundle_frames bundle_of bundle_answer sight content_checks opponent forked refused_as_convicted statement_checks proof_checks first_failed_check is_known answer_to due named_opponent added growth is_of_kind contradicts kind_of proof_of given_by take_frame fed_frame fed_byte fed ending_of report_of frame_at hello_leaf hello convicted_nodes lacking record_place hello_of leaves_of put_by_id by_id history_text history_hash first_values has_id named prev_of is_convicted is_vouched holds_hash holds is_wanted points spent_by tips_of collides_by limit_of_own limit_of_put past precedes_named next_entries next_own leaf_count plain_root plain_signature plain_verifies birth own_put tagged record_text foreign_leaves full_with key_of is_signed given_as answer_to_text growth_of_text update_fields voucher_fields update_body voucher_body statement signed proof roster id_of_update id_of_statement hash_of_roster put_rising rising groups_behind groups_of new_vouchers limit_of_new limit_of_vouchers named_by text_of_check text_of_limit text_of_report served restart_by insert_by order_by latest_in sha256 first_words schedule rounds compress hash_after digest_bytes encode_with decode_pairs digits seen_under write marked is_update_text is_hollow all_verify
put_goes = record { brings = refl; steps = refl; text = refl; files = refl; before = refl; done = refl; nothing = refl }

is_correct : IsCorrect (world_at (node 2)) second.correct
unfolding key_of
is_correct = record { member = refl; lawful = second_born; begun = refl; reads = λ r never. absurd never; in_order = tt }

-- a disk of which a stop leaves this file, and left that one before, and on which these calls were made
abbrev disk : List ℕ → List ℕ → List Made → ℕ → Disks
disk before after calls faults = record { tells = true; file = before; file_after = after; may_leave = λ i. i ≡ before; may_leave_after = λ i. i ≡ after; left_in_run = λ i. i ≡ after; moment_before = 0; moment_after = 0; left_since = λ t i. i ≡ after; after = λ made. made ≡ calls; faults_before = 0; faults_after = faults }

-- a sink to which this was written
abbrev wrote : List ℕ → ℕ → Sinks
wrote text faults = record { tells = true; before = []; after = text; faults_before = 0; faults_after = faults }

abbrev Short : Disks → Sinks → ScriptEnding → Type 0
Short d w ends = GoesShort (node 2) no_signature (newborn 2) second (one_put ∷ []) d (shelf 0) w ends

-- nothing of the put is on the disk, and nothing of its line was reported
cut_before : (image : List ℕ) (calls : List Made) (faults : ℕ) (w : Sinks) (ends : ScriptEnding) (last : List ℕ) → CallsShort (newborn 2) its_records (◌≡◌ {A = List Command} [] [] × (last ≡ [])) (disk image image calls faults) → IsCutBy (0 < faults) (shelf 0) w ends → IsLast (pending_in (node 2) no_signature second (one_put ∷ []) (λ i. i ≡ image) (0 < faults) (shelf 0)) ends last → Wrote w last → Short (disk image image calls faults) w ends
unfolding answers_of
cut_before image calls faults w ends last called cut is told = record {
  cut = cut;
  done = [];
  rest = one_put ∷ [];
  parts = refl;
  went_on = refl;
  correct = is_correct;
  last = last;
  last_is = is;
  wrote = told;
  kept = newborn 2;
  kept_is = inl refl;
  more = its_records;
  brings = put_goes.brings;
  leaves = λ i left. inl left;
  reads = inl refl;
  grows = record { grown = its_records; is = put_goes.brings; moments = λ i left. inl left };
  calls = called;
  files = λ name. inl refl;
}

-- of the calls that were to be made the first one failed
abbrev first_failed : List Made
first_failed = made_but_last [] syncs

fails_first : (image : List ℕ) → DiskFailsAmong (disk image image first_failed 1) (calls_of_run (disk image image first_failed 1) (newborn 2) its_records)
fails_first image = record { before = []; failing = syncs; rest = drop 1 (calls_of_run (disk image image first_failed 1) (newborn 2) its_records); parts = refl; fails = refl }

cut_by_disk : (image : List ℕ) → Short (disk image image first_failed 1) (wrote (codes "disk\n") 0) ending.Disk
cut_by_disk image = cut_before image first_failed 1 (wrote (codes "disk\n") 0) ending.Disk (codes "disk\n") (record { part = λ rose. fails_first image; whole = λ calm. absurd (calm (omega arith)) }) (omega arith) refl (λ tells. refl)

cut_by_memory : (image : List ℕ) → Short (disk image image [] 0) (wrote [] 0) ending.Memory
cut_by_memory image = cut_before image [] 0 (wrote [] 0) ending.Memory [] (record { part = λ rose. absurd (omega (arith, rose)); whole = λ calm. inl (refl, refl) }) tt refl (λ tells. refl)

-- a disk that failed in one look more, after all that the run was to ask of it, failed in none of these
not_one_look_more : (image : List ℕ) (calls : List Call) → DiskFailsAmong (disk image image (made_but_last calls asks_length) 1) calls → ⊥
not_one_look_more image calls f =
    let parts = ap length f.parts in
    let fails = ap length f.fails in
    let asked : List Made = record { call = f.failing; failed = true } ∷ [] in
    let looked : List Made = record { call = asks_length; failed = true } ∷ [] in
    omega (arith, parts, fails, length-append f.before (f.failing ∷ f.rest), length-append (made f.before) asked, length-append (made calls) looked, length-map {B = Made} f.before (λ (call : Call). record { call = call; failed = false }), length-map {B = Made} calls (λ (call : Call). record { call = call; failed = false }))

-- the put is on the disk, and three bytes of its line were reported before the sink failed
abbrev all_made : List ℕ → List ℕ → List Made
all_made before after = made (calls_of_run (disk before after [] 0) (newborn 2) its_records)

cut_by_sink : (before after : List ℕ) → HasRecords (newborn 2 ++ its_records) after → Short (disk before after (all_made before after) 0) (wrote (codes "put") 1) ending.Sink
unfolding answers_of
cut_by_sink before after has = record {
  cut = omega arith;
  done = [];
  rest = one_put ∷ [];
  parts = refl;
  went_on = refl;
  correct = is_correct;
  last = codes "put";
  last_is = inr (its_line, (inl (record { journal = λ i is. subst (λ (f : List ℕ). HasRecords (step_of (node 2) no_signature second one_put).session.correct.journal f) (sym is) (subst (λ (J : List Record). HasRecords J after) (sym put_goes.steps) has); files = λ name. ap (λ (f : Files). f name) (sym put_goes.files) }, sym put_goes.text), (3, refl)));
  wrote = λ tells. refl;
  kept = newborn 2;
  kept_is = inl refl;
  more = its_records;
  brings = put_goes.brings;
  leaves = λ i is. inr (record { count = 1; has = subst (λ (f : List ℕ). HasRecords (newborn 2 ++ its_records) f) (sym is) has });
  reads = inr (record { count = 1; has = has });
  grows = record { grown = its_records; is = put_goes.brings; moments = λ i is. inr (record { count = 1; has = subst (λ (f : List ℕ). HasRecords (newborn 2 ++ its_records) f) (sym is) has }) };
  calls = record { part = λ rose. absurd (omega (arith, rose)); whole = λ calm. inr (its_records, (has, refl)) };
  files = λ name. inl refl;
}

-- a crash image of the run may have a prefix of what the put brings; no image has lost the records from before
put_begun : (image : List ℕ) → HasRecords (newborn 2) image → GrowsTo (newborn 2) (newborn 2 ++ its_records) (disk image image [] 0)
put_begun image has = record { grown = its_records; is = refl; moments = λ i is. inr (record { count = 0; has = subst (λ (f : List ℕ). HasRecords (newborn 2 ++ []) f) (sym is) has }) }

never_lost : (after : List Record) (d : Disks) → d.left_in_run [] → (d.may_leave [] → ⊥) → GrowsTo (newborn 2) after d → ⊥
never_lost after d left kept grows = elim (grows.moments [] left) [
  | inl before ↦ kept before
  | inr front ↦ no_birth (take front.count grows.grown) front.has
] where
  no_birth : (more : List Record) → HasRecords (newborn 2 ++ more) [] → ⊥
  no_birth more (inl short) = let none : map text_of_record (newborn 2 ++ more) ≡ [] = short.1 in cc
  no_birth more (inr ((gate, rest, closed, is), within)) = cc

-- no byte of its line is reported where a stop can lose the put
not_told : IsToBeWritten (pending_for one_put (step_of (node 2) no_signature second one_put) (λ i. i ≡ []) ⊥ (shelf 0)) its_line → ⊥
not_told (inl (stands, is)) = nothing_there (subst (λ (J : List Record). HasRecords J []) put_goes.steps (stands.journal [] refl)) where
  nothing_there : HasRecords (newborn 2 ++ its_records) [] → ⊥
  nothing_there (inl short) = let none : map text_of_record (newborn 2 ++ its_records) ≡ [] = short.1 in cc
  nothing_there (inr ((gate, rest, closed, is), within)) = cc
not_told (inr (inl (failed, is))) = failed
not_told (inr (inr (failed, is))) = omega (arith, failed)

-- ---- scripts that complete

-- nothing prevents a put that meets no limit, and of a read
unhindered : AreUnhindered (node 2) no_signature second (one_put ∷ command.Get k ∷ [])
unfolding answers_of step_of put_command get_command hello_command bundle_command take_command rest_of numeral number bytes_of inner list_of dep roster_entry signed_with is_covered candidates records_where values_behind candidate_parcels parcels fitting sent_for sent_foreign unvouched bundle_frames bundle_of bundle_answer sight content_checks opponent forked refused_as_convicted statement_checks proof_checks first_failed_check is_known answer_to due named_opponent added growth is_of_kind contradicts kind_of proof_of given_by take_frame fed_frame fed_byte fed ending_of report_of frame_at hello_leaf hello convicted_nodes lacking record_place hello_of leaves_of put_by_id by_id history_text history_hash first_values has_id named prev_of is_convicted is_vouched holds_hash holds is_wanted points spent_by tips_of collides_by limit_of_own limit_of_put past precedes_named next_entries next_own leaf_count plain_root plain_signature plain_verifies birth own_put tagged record_text foreign_leaves full_with key_of is_signed given_as answer_to_text growth_of_text update_fields voucher_fields update_body voucher_body statement signed proof roster id_of_update id_of_statement hash_of_roster put_rising rising groups_behind groups_of new_vouchers limit_of_new limit_of_vouchers named_by text_of_check text_of_limit text_of_report served restart_by insert_by order_by latest_in sha256 first_words schedule rounds compress hash_after digest_bytes encode_with decode_pairs digits seen_under write marked is_update_text is_hollow all_verify
unhindered = (refl, (tt, tt))

-- a stream that isn't there is in the way of taking it, and a limit in that of a put
not_without_stream : AreUnhindered (node 2) no_signature second (command.Take (codes "none") ∷ []) → ⊥
not_without_stream are = let none : ◌≡◌ {A = Option (List ℕ)} None (Some are.0.bytes) = are.0.there in cc

not_at_a_limit : AreUnhindered low (sign 1) (session_from low used [] files) (one_put ∷ []) → ⊥
unfolding answers_of step_of put_command get_command hello_command bundle_command take_command rest_of numeral number bytes_of inner list_of dep roster_entry signed_with is_covered candidates records_where values_behind candidate_parcels parcels fitting sent_for sent_foreign unvouched bundle_frames bundle_of bundle_answer sight content_checks opponent forked refused_as_convicted statement_checks proof_checks first_failed_check is_known answer_to due named_opponent added growth is_of_kind contradicts kind_of proof_of given_by take_frame fed_frame fed_byte fed ending_of report_of frame_at hello_leaf hello convicted_nodes lacking record_place hello_of leaves_of put_by_id by_id history_text history_hash first_values has_id named prev_of is_convicted is_vouched holds_hash holds is_wanted points spent_by tips_of collides_by limit_of_own limit_of_put past precedes_named next_entries next_own leaf_count plain_root plain_signature plain_verifies birth own_put tagged record_text foreign_leaves full_with key_of is_signed given_as answer_to_text growth_of_text update_fields voucher_fields update_body voucher_body statement signed proof roster id_of_update id_of_statement hash_of_roster put_rising rising groups_behind groups_of new_vouchers limit_of_new limit_of_vouchers named_by text_of_check text_of_limit text_of_report served restart_by insert_by order_by latest_in sha256 first_words schedule rounds compress hash_after digest_bytes encode_with decode_pairs digits seen_under write marked is_update_text is_hollow all_verify
not_at_a_limit are = let none : ◌≡◌ {A = Option Limit} (Some (spent 4)) None = are.0 in cc
