-- Worked schedules of checkpoints and readers, computed with the plain scheme: digests and signatures included; and lines that are none.
use Rattle.std.proofs.Common.{◌≡◌, ℕ, List, [], Ok, Err, codes, refl}
use Rattle.depot_base.specs.Closed.{rest_of}
use Rattle.depot_base.specs.Cursor.{numeral}
use Rattle.depot_base.specs.Format.{number, bytes_of, inner, list_of}
use Rattle.depot_base.specs.Parts.{dep, roster_entry}
use Rattle.depot_model.specs.exchange.Bundle.{signed_with, is_covered, candidates, records_where, values_behind, candidate_parcels, parcels, fitting, sent_for, sent_foreign, unvouched, bundle_frames, bundle_of, bundle_answer}
use Rattle.depot_model.specs.readers.Checkpoints.{checkpoint_key, is_checkpoint_key, checkpoint as checkpoint_format}
use Rattle.depot_model.specs.checks.Checks.{sight, content_checks, opponent, forked, refused_as_convicted, statement_checks, proof_checks, first_failed_check, is_known, answer_to, due, named_opponent, added, growth}
use Rattle.depot_model.specs.updates.Contradictions.{is_of_kind, contradicts, kind_of}
use Rattle.depot_model.specs.updates.Conviction.{proof_of}
use Rattle.depot_model.specs.exchange.Feeding.{given_by, take_frame, fed_frame, fed_byte, fed, ending_of, report_of}
use Rattle.depot_model.specs.texts.Frames.{frame_at}
use Rattle.depot_model.specs.exchange.Hello.{hello_leaf, hello, convicted_nodes, lacking, record_place, hello_of}
use Rattle.depot_model.specs.updates.History.{leaves_of, put_by_id, by_id, history_text, history_hash}
use Rattle.depot_model.specs.lists.Items.{places_where}
use Rattle.depot_model.specs.journals.Journal.{first_values, has_id, named, prev_of, is_convicted, is_vouched, holds_hash, holds, seen_under, is_wanted}
use Rattle.depot_model.specs.updates.Judgement.{points}
use Rattle.depot_model.specs.checks.Limits.{spent_by, tips_of, collides_by, limit_of_own, limit_of_put}
use Rattle.depot_model.specs.texts.Log.{text_of_log, firsts_behind, orphan_behind}
use Rattle.depot_model.specs.readers.Opening.{checkpoint_of, make_of, unknown_leaf, opened_text}
use Rattle.depot_model.specs.updates.Order.{past, IsCausal}
use Rattle.depot_model.specs.checks.Own.{precedes_named, next_entries, next_own, leaf_count}
use Rattle.depot_model.specs.texts.Plain.{plain_root, plain_signature, plain_verifies}
use Rattle.depot_model.specs.readers.Pruning.{below_of}
use Rattle.depot_model.specs.readers.ReaderFeeds.{frames_from, reader_fed, reader_feed_of}
use Rattle.depot_model.specs.readers.Readers.{kept, reader_of, unsigned_node, trim_of, told_as_node, told_of_value, reader_outcome, reader_takes, seen_by_reader}
use Rattle.depot_model.specs.readers.Trimming.{is_signed_by, is_trimmed, names}
use Rattle.depot_model.specs.texts.Records.{birth, own_put, tagged, record_text}
use Rattle.depot_model.specs.checks.Room.{foreign_leaves, full_with}
use Rattle.depot_model.specs.worlds.Receipts.{receipt_of}
use Rattle.depot_model.specs.texts.Roster.{key_of, is_signed}
use Rattle.depot_model.specs.checks.Taking.{given_as, answer_to_text, growth_of_text}
use Rattle.depot_model.specs.texts.Texts.{update_fields, voucher_fields, update_body, voucher_body, statement, signed, proof, roster, id_of_update, id_of_statement, hash_of_roster}
use Rattle.depot_model.specs.checks.Vouching.{put_rising, rising, groups_behind, groups_of, new_vouchers, limit_of_new, limit_of_vouchers}
use Rattle.depot_lines.specs.declared.line_fault.LineFault.TheVariants as is
use Rattle.depot_schedule.specs.EventLines.{put_line, puts_line, get_line, hello_line, bundle_line, give_line, restart_line, update_line, voucher_line, proof_line, judge_line, raw_line, cut_line, flip_line, join_line, stop_line, verb_named, checkpoint_line, sign_line, trim_line, tgive_line, tget_line}
use Rattle.depot_schedule.specs.Schedules.{text_of_schedule, read_line, schedule_of}
use Rattle.depot_lines.specs.Spelling.{value_behind}
use Rattle.depot_schedule.specs.EventWords.{named_by}
use Rattle.depot_answers.specs.AnswerTexts.{text_of_check, text_of_limit, text_of_report, text_of_reader_feed}
use Rattle.depot_requests.specs.Requests.{effect_of, served}
use Rattle.depot_world.specs.ScheduleStops.{restart_by}
use Rattle.depot_model.specs.updates.LatestList.{latest_in}
use Rattle.depot_model.specs.lists.Insertion.{insert_by, order_by}
use Rattle.depot_world.specs.Run.{run_of, world_by, host_in, made_in, referred, id_referred, seen_with, put_host, with_host, reader_in, put_reader}
use Rattle.depot_world.specs.FaultySigning.{all_of, each_once, updated, vouched_text, proof_text, flip_at}
use Rattle.depot_world.specs.ScheduleStops.{standing_after, event_result}
use Rattle.depot_world.specs.Setups.{suite_of, seed_of, setup_of}
use Rattle.depot_world.specs.Transcript.{done_at_node, pending_at, done, lines_of, run_after, printed, world_of, transcript_of, trim_at}
use Rattle.sha2.specs.Sha256.{sha256, first_words, schedule, rounds, compress, hash_after, digest_bytes}
use Rattle.hex.specs.Hex.{encode_with, decode_pairs}
use Rattle.std.specs.Fmt.{digits}

-- the transcript of a schedule's text
abbrev played : List ℕ → List ℕ
played text = elim (schedule_of text) [
  | Ok s ↦ transcript_of s
  | Err e ↦ []
]

-- a reader keeps the latest write below a checkpoint, and what signed that
a_reader_keeps_the_latest : played (codes "depot schedule 1\nscheme plain 4\nnode 1\nput 1 6b 61\nput 1 6b 62\ncheckpoint 1 k\ntrim 1 k t\ntget t 6b\n") ≡ codes "put 1 6b -> 0/1\nput 1 6b -> 1/2\ncheckpoint 1 k -> 2/3\ntrim 1 t -> kept 2 of 3\ntget t 6b -> 1/1/2=62\n"
unfolding rest_of numeral number bytes_of inner list_of dep roster_entry signed_with is_covered candidates records_where values_behind candidate_parcels parcels fitting sent_for sent_foreign unvouched bundle_frames bundle_of bundle_answer sight content_checks opponent forked refused_as_convicted statement_checks proof_checks first_failed_check is_known answer_to due named_opponent added growth is_of_kind contradicts kind_of proof_of given_by take_frame fed_frame fed_byte fed ending_of report_of frame_at hello_leaf hello convicted_nodes lacking record_place hello_of leaves_of put_by_id by_id history_text history_hash places_where first_values has_id named prev_of is_convicted is_vouched holds_hash holds is_wanted points spent_by tips_of collides_by limit_of_own limit_of_put text_of_log firsts_behind orphan_behind past IsCausal precedes_named next_entries next_own leaf_count plain_root plain_signature plain_verifies birth own_put tagged record_text foreign_leaves full_with key_of is_signed given_as answer_to_text growth_of_text update_fields voucher_fields update_body voucher_body statement signed proof roster id_of_update id_of_statement hash_of_roster put_rising rising groups_behind groups_of new_vouchers limit_of_new limit_of_vouchers put_line get_line hello_line bundle_line give_line restart_line update_line voucher_line proof_line judge_line raw_line cut_line flip_line join_line stop_line verb_named text_of_schedule read_line schedule_of value_behind named_by text_of_check text_of_limit text_of_report served effect_of restart_by insert_by order_by latest_in run_of world_by host_in made_in referred seen_with put_host with_host all_of updated vouched_text proof_text flip_at standing_after event_result suite_of seed_of setup_of done_at_node pending_at done lines_of run_after printed world_of transcript_of sha256 first_words schedule rounds compress hash_after digest_bytes encode_with decode_pairs digits seen_under id_referred each_once receipt_of is_checkpoint_key checkpoint_key checkpoint_format checkpoint_of make_of unknown_leaf opened_text is_signed_by is_trimmed names below_of kept reader_of unsigned_node trim_of told_as_node told_of_value reader_outcome reader_takes seen_by_reader frames_from reader_fed reader_feed_of text_of_reader_feed trim_at reader_in put_reader checkpoint_line sign_line trim_line tgive_line tget_line
a_reader_keeps_the_latest = refl

-- no checkpoint is made of nothing, no reader of no text, and a question to no reader has no answer
no_reader_is_made : played (codes "depot schedule 1\nscheme plain 4\nnode 1\ncheckpoint 1 k\nsign 1 k\ntrim 1 k t\ntgive t k\ntget t 6b\n") ≡ codes "checkpoint 1 k -> Empty\nsign 1 k -> IllFormed 0\ntrim 1 t -> IllFormed 0\ntgive t k ->\ntget t 6b ->\n"
unfolding rest_of numeral number bytes_of inner list_of dep roster_entry signed_with is_covered candidates records_where values_behind candidate_parcels parcels fitting sent_for sent_foreign unvouched bundle_frames bundle_of bundle_answer sight content_checks opponent forked refused_as_convicted statement_checks proof_checks first_failed_check is_known answer_to due named_opponent added growth is_of_kind contradicts kind_of proof_of given_by take_frame fed_frame fed_byte fed ending_of report_of frame_at hello_leaf hello convicted_nodes lacking record_place hello_of leaves_of put_by_id by_id history_text history_hash places_where first_values has_id named prev_of is_convicted is_vouched holds_hash holds is_wanted points spent_by tips_of collides_by limit_of_own limit_of_put text_of_log firsts_behind orphan_behind past IsCausal precedes_named next_entries next_own leaf_count plain_root plain_signature plain_verifies birth own_put tagged record_text foreign_leaves full_with key_of is_signed given_as answer_to_text growth_of_text update_fields voucher_fields update_body voucher_body statement signed proof roster id_of_update id_of_statement hash_of_roster put_rising rising groups_behind groups_of new_vouchers limit_of_new limit_of_vouchers put_line get_line hello_line bundle_line give_line restart_line update_line voucher_line proof_line judge_line raw_line cut_line flip_line join_line stop_line verb_named text_of_schedule read_line schedule_of value_behind named_by text_of_check text_of_limit text_of_report served effect_of restart_by insert_by order_by latest_in run_of world_by host_in made_in referred seen_with put_host with_host all_of updated vouched_text proof_text flip_at standing_after event_result suite_of seed_of setup_of done_at_node pending_at done lines_of run_after printed world_of transcript_of sha256 first_words schedule rounds compress hash_after digest_bytes encode_with decode_pairs digits seen_under id_referred each_once receipt_of is_checkpoint_key checkpoint_key checkpoint_format checkpoint_of make_of unknown_leaf opened_text is_signed_by is_trimmed names below_of kept reader_of unsigned_node trim_of told_as_node told_of_value reader_outcome reader_takes seen_by_reader frames_from reader_fed reader_feed_of text_of_reader_feed trim_at reader_in put_reader checkpoint_line sign_line trim_line tgive_line tget_line
no_reader_is_made = refl

-- the label of a checkpoint that was stopped is empty, even if its record is kept
a_stopped_checkpoint_has_no_text : played (codes "depot schedule 1\nscheme plain 4\nnode 1\nput 1 6b 61\nstop 1 4 1\ncheckpoint 1 k\nsign 1 k\n") ≡ codes "put 1 6b -> 0/1\nstop 1 -> armed\ncheckpoint 1 k -> stopped records 3\nsign 1 k -> IllFormed 0\n"
unfolding rest_of numeral number bytes_of inner list_of dep roster_entry signed_with is_covered candidates records_where values_behind candidate_parcels parcels fitting sent_for sent_foreign unvouched bundle_frames bundle_of bundle_answer sight content_checks opponent forked refused_as_convicted statement_checks proof_checks first_failed_check is_known answer_to due named_opponent added growth is_of_kind contradicts kind_of proof_of given_by take_frame fed_frame fed_byte fed ending_of report_of frame_at hello_leaf hello convicted_nodes lacking record_place hello_of leaves_of put_by_id by_id history_text history_hash places_where first_values has_id named prev_of is_convicted is_vouched holds_hash holds is_wanted points spent_by tips_of collides_by limit_of_own limit_of_put text_of_log firsts_behind orphan_behind past IsCausal precedes_named next_entries next_own leaf_count plain_root plain_signature plain_verifies birth own_put tagged record_text foreign_leaves full_with key_of is_signed given_as answer_to_text growth_of_text update_fields voucher_fields update_body voucher_body statement signed proof roster id_of_update id_of_statement hash_of_roster put_rising rising groups_behind groups_of new_vouchers limit_of_new limit_of_vouchers put_line get_line hello_line bundle_line give_line restart_line update_line voucher_line proof_line judge_line raw_line cut_line flip_line join_line stop_line verb_named text_of_schedule read_line schedule_of value_behind named_by text_of_check text_of_limit text_of_report served effect_of restart_by insert_by order_by latest_in run_of world_by host_in made_in referred seen_with put_host with_host all_of updated vouched_text proof_text flip_at standing_after event_result suite_of seed_of setup_of done_at_node pending_at done lines_of run_after printed world_of transcript_of sha256 first_words schedule rounds compress hash_after digest_bytes encode_with decode_pairs digits seen_under id_referred each_once receipt_of is_checkpoint_key checkpoint_key checkpoint_format checkpoint_of make_of unknown_leaf opened_text is_signed_by is_trimmed names below_of kept reader_of unsigned_node trim_of told_as_node told_of_value reader_outcome reader_takes seen_by_reader frames_from reader_fed reader_feed_of text_of_reader_feed trim_at reader_in put_reader checkpoint_line sign_line trim_line tgive_line tget_line
a_stopped_checkpoint_has_no_text = refl

-- all sign a checkpoint before a reader is made, which goes on by what it takes
a_reader_goes_on : played (codes "depot schedule 1\nscheme plain 4\nnode 1\nnode 2\nput 1 6b 61\nput 1 6b 62\ncheckpoint 1 k\nhello 2 a\nbundle 1 a b\ngive 2 b\ntrim 2 k u\nsign 2 k\ntrim 2 k t\ntget t 6b\nput 1 6b 63\nhello 2 e\nbundle 1 e f\ntgive t f\ntget t 6b\ntgive t f\n") ≡ codes "put 1 6b -> 0/1\nput 1 6b -> 1/2\ncheckpoint 1 k -> 2/3\nhello 2 a -> convicted 0 leaves 0 wanted 0\nbundle 1 a b -> proofs 0 vouchers 0 updates 3 values 3 whole\ngive 2 b -> accepted 6 known 0 refused 0 whole\ntrim 2 u -> Unsigned 2\nsign 2 k -> 0/4\ntrim 2 t -> kept 3 of 4\ntget t 6b -> 1/1/2=62\nput 1 6b -> 3/4\nhello 2 e -> convicted 0 leaves 2 wanted 0\nbundle 1 e f -> proofs 0 vouchers 0 updates 1 values 1 whole\ntgive t f -> accepted 2 known 0 refused 0 below 0\ntget t 6b -> 1/3/4=63\ntgive t f -> accepted 0 known 2 refused 0 below 0\n"
unfolding rest_of numeral number bytes_of inner list_of dep roster_entry signed_with is_covered candidates records_where values_behind candidate_parcels parcels fitting sent_for sent_foreign unvouched bundle_frames bundle_of bundle_answer sight content_checks opponent forked refused_as_convicted statement_checks proof_checks first_failed_check is_known answer_to due named_opponent added growth is_of_kind contradicts kind_of proof_of given_by take_frame fed_frame fed_byte fed ending_of report_of frame_at hello_leaf hello convicted_nodes lacking record_place hello_of leaves_of put_by_id by_id history_text history_hash places_where first_values has_id named prev_of is_convicted is_vouched holds_hash holds is_wanted points spent_by tips_of collides_by limit_of_own limit_of_put text_of_log firsts_behind orphan_behind past IsCausal precedes_named next_entries next_own leaf_count plain_root plain_signature plain_verifies birth own_put tagged record_text foreign_leaves full_with key_of is_signed given_as answer_to_text growth_of_text update_fields voucher_fields update_body voucher_body statement signed proof roster id_of_update id_of_statement hash_of_roster put_rising rising groups_behind groups_of new_vouchers limit_of_new limit_of_vouchers put_line get_line hello_line bundle_line give_line restart_line update_line voucher_line proof_line judge_line raw_line cut_line flip_line join_line stop_line verb_named text_of_schedule read_line schedule_of value_behind named_by text_of_check text_of_limit text_of_report served effect_of restart_by insert_by order_by latest_in run_of world_by host_in made_in referred seen_with put_host with_host all_of updated vouched_text proof_text flip_at standing_after event_result suite_of seed_of setup_of done_at_node pending_at done lines_of run_after printed world_of transcript_of sha256 first_words schedule rounds compress hash_after digest_bytes encode_with decode_pairs digits seen_under id_referred each_once receipt_of is_checkpoint_key checkpoint_key checkpoint_format checkpoint_of make_of unknown_leaf opened_text is_signed_by is_trimmed names below_of kept reader_of unsigned_node trim_of told_as_node told_of_value reader_outcome reader_takes seen_by_reader frames_from reader_fed reader_feed_of text_of_reader_feed trim_at reader_in put_reader checkpoint_line sign_line trim_line tgive_line tget_line
a_reader_goes_on = refl

-- ---- lines that are none

-- a reader is no bytes
a_reader_is_no_bytes : schedule_of (codes "depot schedule 1\nscheme plain 4\nnode 1\nraw k 00\ntrim 1 k t\ngive 1 t\n") ≡ Err (6, is.Label)
unfolding schedule_of read_line verb_named named_by value_behind decode_pairs raw_line give_line put_line puts_line checkpoint_line trim_line tgive_line receipt_of is_checkpoint_key
a_reader_is_no_bytes = refl

-- bytes are no reader
bytes_are_no_reader : schedule_of (codes "depot schedule 1\nscheme plain 4\nnode 1\nraw k 00\ntgive k k\n") ≡ Err (5, is.Label)
unfolding schedule_of read_line verb_named named_by value_behind decode_pairs raw_line give_line put_line puts_line checkpoint_line trim_line tgive_line receipt_of is_checkpoint_key
bytes_are_no_reader = refl

-- a reader has a name of its own, in the line that makes it and after that
a_name_is_no_label : schedule_of (codes "depot schedule 1\nscheme plain 4\nnode 1\nraw k 00\ntrim 1 k k\n") ≡ Err (5, is.Label)
unfolding schedule_of read_line verb_named named_by value_behind decode_pairs raw_line give_line put_line puts_line checkpoint_line trim_line tgive_line receipt_of is_checkpoint_key
a_name_is_no_label = refl

a_label_is_no_name : schedule_of (codes "depot schedule 1\nscheme plain 4\nnode 1\nraw k 00\ntrim 1 k t\nraw t 00\n") ≡ Err (6, is.Label)
unfolding schedule_of read_line verb_named named_by value_behind decode_pairs raw_line give_line put_line puts_line checkpoint_line trim_line tgive_line receipt_of is_checkpoint_key
a_label_is_no_name = refl

-- the key of a checkpoint is neither put nor deleted
no_checkpoint_is_put : schedule_of (codes "depot schedule 1\nscheme plain 4\nnode 1\nput 1 636865636b706f696e743a0000000000000000000000000000000000000000000000000000000000000000 61\n") ≡ Err (4, is.Hex)
unfolding schedule_of read_line verb_named named_by value_behind decode_pairs raw_line give_line put_line puts_line checkpoint_line trim_line tgive_line receipt_of is_checkpoint_key
no_checkpoint_is_put = refl

no_checkpoint_is_deleted : schedule_of (codes "depot schedule 1\nscheme plain 4\nnode 1\nputs 1 636865636b706f696e743a0000000000000000000000000000000000000000000000000000000000000000!\n") ≡ Err (4, is.Hex)
unfolding schedule_of read_line verb_named named_by value_behind decode_pairs raw_line give_line put_line puts_line checkpoint_line trim_line tgive_line receipt_of is_checkpoint_key
no_checkpoint_is_deleted = refl
