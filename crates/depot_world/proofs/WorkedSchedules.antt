-- Worked schedules and their transcripts, computed with the plain scheme: digests and signatures included.
use Rattle.std.proofs.Common.{◌≡◌, ℕ, List, [], Ok, Err, codes, refl}
use Rattle.depot_base.specs.Closed.{rest_of}
use Rattle.depot_base.specs.Cursor.{numeral}
use Rattle.depot_base.specs.Format.{number, bytes_of, inner, list_of}
use Rattle.depot_base.specs.Parts.{dep, roster_entry, write, marked}
use Rattle.depot_model.specs.exchange.Bundle.{signed_with, is_covered, candidates, records_where, values_behind, candidate_parcels, parcels, fitting, sent_for, sent_foreign, unvouched, bundle_frames, bundle_of, bundle_answer}
use Rattle.depot_model.specs.readers.Checkpoints.{is_checkpoint_key}
use Rattle.depot_model.specs.checks.Checks.{sight, content_checks, opponent, forked, refused_as_convicted, statement_checks, proof_checks, first_failed_check, is_known, answer_to, due, named_opponent, added, growth}
use Rattle.depot_model.specs.updates.Contradictions.{is_of_kind, contradicts, kind_of, is_update_text, is_hollow}
use Rattle.depot_model.specs.updates.Conviction.{proof_of}
use Rattle.depot_model.specs.exchange.Feeding.{given_by, take_frame, fed_frame, fed_byte, fed, ending_of, report_of}
use Rattle.depot_model.specs.texts.Frames.{frame_at}
use Rattle.depot_model.specs.exchange.Hello.{hello_leaf, hello, convicted_nodes, lacking, record_place, hello_of}
use Rattle.depot_model.specs.updates.History.{leaves_of, put_by_id, by_id, history_text, history_hash}
use Rattle.depot_model.specs.lists.Items.{places_where}
use Rattle.depot_model.specs.journals.Journal.{first_values, has_id, named, prev_of, is_convicted, is_vouched, holds_hash, holds, seen_under, is_wanted}
use Rattle.depot_model.specs.updates.Judgement.{points}
use Rattle.depot_model.specs.checks.Limits.{spent_by, tips_of, collides_by, limit_of_own, limit_of_put}
use Rattle.depot_model.specs.texts.Log.{text_of_log, firsts_behind, orphan_behind}
use Rattle.depot_model.specs.updates.Order.{past, IsCausal}
use Rattle.depot_model.specs.checks.Own.{precedes_named, next_entries, next_own, leaf_count}
use Rattle.depot_model.specs.texts.Plain.{plain_root, plain_signature, plain_verifies}
use Rattle.depot_model.specs.texts.Records.{birth, own_put, tagged, record_text}
use Rattle.depot_model.specs.checks.Room.{foreign_leaves, full_with}
use Rattle.depot_model.specs.worlds.Receipts.{receipt_key, receipt_of, put_number, numbers_rising, no_receipt}
use Rattle.depot_model.specs.texts.Roster.{key_of, is_signed}
use Rattle.depot_model.specs.checks.Taking.{given_as, answer_to_text, growth_of_text}
use Rattle.depot_model.specs.texts.Texts.{update_fields, voucher_fields, update_body, voucher_body, statement, signed, proof, roster, id_of_update, id_of_statement, hash_of_roster}
use Rattle.depot_model.specs.checks.Vouching.{put_rising, rising, groups_behind, groups_of, new_vouchers, limit_of_new, limit_of_vouchers}
use Rattle.depot_schedule.specs.EventLines.{put_line, puts_line, get_line, hello_line, bundle_line, give_line, restart_line, update_line, updates_line, voucher_line, proof_line, hollow_line, judge_line, raw_line, cut_line, flip_line, join_line, stop_line, receipt_line, settled_line, verb_named}
use Rattle.depot_schedule.specs.Schedules.{text_of_schedule, read_line, schedule_of}
use Rattle.depot_lines.specs.Spelling.{value_behind}
use Rattle.depot_schedule.specs.EventWords.{named_by}
use Rattle.depot_answers.specs.AnswerTexts.{text_of_check, text_of_limit, text_of_report}
use Rattle.depot_requests.specs.Requests.{effect_of, served}
use Rattle.depot_world.specs.ScheduleStops.{restart_by}
use Rattle.depot_model.specs.updates.LatestList.{latest_in}
use Rattle.depot_model.specs.lists.Insertion.{insert_by, order_by}
use Rattle.depot_world.specs.Run.{run_of, world_by, host_in, made_in, referred, id_referred, seen_with, put_host, with_host}
use Rattle.depot_world.specs.FaultySigning.{all_of, each_once, updated, vouched_text, proof_text, hollow_text, flip_at}
use Rattle.depot_world.specs.ScheduleStops.{standing_after, event_result}
use Rattle.depot_world.specs.Setups.{suite_of, seed_of, setup_of}
use Rattle.depot_world.specs.Transcript.{done_at_node, pending_at, done, lines_of, run_after, printed, world_of, transcript_of}
use Rattle.sha2.specs.Sha256.{sha256, first_words, schedule, rounds, compress, hash_after, digest_bytes}
use Rattle.hex.specs.Hex.{encode_with, decode_pairs}
use Rattle.std.specs.Fmt.{digits}

-- the transcript of a schedule's text
abbrev played : List ℕ → List ℕ
played text = elim (schedule_of text) [
  | Ok s ↦ transcript_of s
  | Err e ↦ []
]

-- a put is read
a_put_is_read : played (codes "depot schedule 1\nscheme plain 4\nnode 1\nput 1 6b 61\nget 1 6b\n") ≡ codes "put 1 6b -> 0/1\nget 1 6b -> 1/0/1=61\n"
unfolding rest_of numeral number bytes_of inner list_of dep roster_entry signed_with is_covered candidates records_where values_behind candidate_parcels parcels fitting sent_for sent_foreign unvouched bundle_frames bundle_of bundle_answer sight content_checks opponent forked refused_as_convicted statement_checks proof_checks first_failed_check is_known answer_to due named_opponent added growth is_of_kind contradicts kind_of proof_of given_by take_frame fed_frame fed_byte fed ending_of report_of frame_at hello_leaf hello convicted_nodes lacking record_place hello_of leaves_of put_by_id by_id history_text history_hash places_where first_values has_id named prev_of is_convicted is_vouched holds_hash holds is_wanted points spent_by tips_of collides_by limit_of_own limit_of_put text_of_log firsts_behind orphan_behind past IsCausal precedes_named next_entries next_own leaf_count plain_root plain_signature plain_verifies birth own_put tagged record_text foreign_leaves full_with key_of is_signed given_as answer_to_text growth_of_text update_fields voucher_fields update_body voucher_body statement signed proof roster id_of_update id_of_statement hash_of_roster put_rising rising groups_behind groups_of new_vouchers limit_of_new limit_of_vouchers put_line get_line hello_line bundle_line give_line restart_line update_line voucher_line proof_line judge_line raw_line cut_line flip_line join_line stop_line verb_named text_of_schedule read_line schedule_of value_behind named_by text_of_check text_of_limit text_of_report served effect_of restart_by insert_by order_by latest_in run_of world_by host_in made_in referred seen_with put_host with_host all_of updated vouched_text proof_text flip_at standing_after event_result suite_of seed_of setup_of done_at_node pending_at done lines_of run_after printed world_of transcript_of sha256 first_words schedule rounds compress hash_after digest_bytes encode_with decode_pairs digits seen_under id_referred each_once receipt_of is_checkpoint_key
a_put_is_read = refl

-- a key that nobody wrote, and an empty value
an_empty_value_is_read : played (codes "depot schedule 1\nscheme plain 4\nnode 1\nget 1 6b\nput 1 6b -\nget 1 6b\n") ≡ codes "get 1 6b ->\nput 1 6b -> 0/1\nget 1 6b -> 1/0/1=\n"
unfolding rest_of numeral number bytes_of inner list_of dep roster_entry signed_with is_covered candidates records_where values_behind candidate_parcels parcels fitting sent_for sent_foreign unvouched bundle_frames bundle_of bundle_answer sight content_checks opponent forked refused_as_convicted statement_checks proof_checks first_failed_check is_known answer_to due named_opponent added growth is_of_kind contradicts kind_of proof_of given_by take_frame fed_frame fed_byte fed ending_of report_of frame_at hello_leaf hello convicted_nodes lacking record_place hello_of leaves_of put_by_id by_id history_text history_hash places_where first_values has_id named prev_of is_convicted is_vouched holds_hash holds is_wanted points spent_by tips_of collides_by limit_of_own limit_of_put text_of_log firsts_behind orphan_behind past IsCausal precedes_named next_entries next_own leaf_count plain_root plain_signature plain_verifies birth own_put tagged record_text foreign_leaves full_with key_of is_signed given_as answer_to_text growth_of_text update_fields voucher_fields update_body voucher_body statement signed proof roster id_of_update id_of_statement hash_of_roster put_rising rising groups_behind groups_of new_vouchers limit_of_new limit_of_vouchers put_line get_line hello_line bundle_line give_line restart_line update_line voucher_line proof_line judge_line raw_line cut_line flip_line join_line stop_line verb_named text_of_schedule read_line schedule_of value_behind named_by text_of_check text_of_limit text_of_report served effect_of restart_by insert_by order_by latest_in run_of world_by host_in made_in referred seen_with put_host with_host all_of updated vouched_text proof_text flip_at standing_after event_result suite_of seed_of setup_of done_at_node pending_at done lines_of run_after printed world_of transcript_of sha256 first_words schedule rounds compress hash_after digest_bytes encode_with decode_pairs digits seen_under id_referred each_once receipt_of is_checkpoint_key
an_empty_value_is_read = refl

-- concurrent writes meet
concurrent_writes_meet : played (codes "depot schedule 1\nscheme plain 4\nnode 1\nnode 2\nput 1 6b 61\nput 2 6b 62\nhello 1 a\nhello 2 b\nbundle 1 b c\nbundle 2 a d\ngive 1 d\ngive 2 c 1\nget 1 6b\nget 2 6b\n") ≡ codes "put 1 6b -> 0/1\nput 2 6b -> 0/1\nhello 1 a -> convicted 0 leaves 1 wanted 0\nhello 2 b -> convicted 0 leaves 1 wanted 0\nbundle 1 b c -> proofs 0 vouchers 0 updates 1 values 1 whole\nbundle 2 a d -> proofs 0 vouchers 0 updates 1 values 1 whole\ngive 1 d -> accepted 2 known 0 refused 0 whole\ngive 2 c -> accepted 2 known 0 refused 0 whole\nget 1 6b -> 1/0/1=61 2/0/1=62\nget 2 6b -> 1/0/1=61 2/0/1=62\n"
unfolding rest_of numeral number bytes_of inner list_of dep roster_entry signed_with is_covered candidates records_where values_behind candidate_parcels parcels fitting sent_for sent_foreign unvouched bundle_frames bundle_of bundle_answer sight content_checks opponent forked refused_as_convicted statement_checks proof_checks first_failed_check is_known answer_to due named_opponent added growth is_of_kind contradicts kind_of proof_of given_by take_frame fed_frame fed_byte fed ending_of report_of frame_at hello_leaf hello convicted_nodes lacking record_place hello_of leaves_of put_by_id by_id history_text history_hash places_where first_values has_id named prev_of is_convicted is_vouched holds_hash holds is_wanted points spent_by tips_of collides_by limit_of_own limit_of_put text_of_log firsts_behind orphan_behind past IsCausal precedes_named next_entries next_own leaf_count plain_root plain_signature plain_verifies birth own_put tagged record_text foreign_leaves full_with key_of is_signed given_as answer_to_text growth_of_text update_fields voucher_fields update_body voucher_body statement signed proof roster id_of_update id_of_statement hash_of_roster put_rising rising groups_behind groups_of new_vouchers limit_of_new limit_of_vouchers put_line get_line hello_line bundle_line give_line restart_line update_line voucher_line proof_line judge_line raw_line cut_line flip_line join_line stop_line verb_named text_of_schedule read_line schedule_of value_behind named_by text_of_check text_of_limit text_of_report served effect_of restart_by insert_by order_by latest_in run_of world_by host_in made_in referred seen_with put_host with_host all_of updated vouched_text proof_text flip_at standing_after event_result suite_of seed_of setup_of done_at_node pending_at done lines_of run_after printed world_of transcript_of sha256 first_words schedule rounds compress hash_after digest_bytes encode_with decode_pairs digits seen_under id_referred each_once receipt_of is_checkpoint_key
concurrent_writes_meet = refl

-- a child that comes before its parent is refused
a_child_waits_for_its_parent : played (codes "depot schedule 1\nscheme plain 4\nnode 1\nfaulty 9\nupdate x 9 0 1 - 6b 61 - right\nupdate y 9 1 2 x 6b 62 - right\ngive 1 y\ngive 1 x\ngive 1 y\nget 1 6b\n") ≡ codes "update x -> 9/0/1\nupdate y -> 9/1/2\ngive 1 y -> accepted 0 known 0 refused 2 bare\n refused 0 5 Missing\n refused 1 14 Unwanted\ngive 1 x -> accepted 2 known 0 refused 0 bare\ngive 1 y -> accepted 2 known 0 refused 0 bare\nget 1 6b -> 9/1/2=62\n"
unfolding rest_of numeral number bytes_of inner list_of dep roster_entry signed_with is_covered candidates records_where values_behind candidate_parcels parcels fitting sent_for sent_foreign unvouched bundle_frames bundle_of bundle_answer sight content_checks opponent forked refused_as_convicted statement_checks proof_checks first_failed_check is_known answer_to due named_opponent added growth is_of_kind contradicts kind_of proof_of given_by take_frame fed_frame fed_byte fed ending_of report_of frame_at hello_leaf hello convicted_nodes lacking record_place hello_of leaves_of put_by_id by_id history_text history_hash places_where first_values has_id named prev_of is_convicted is_vouched holds_hash holds is_wanted points spent_by tips_of collides_by limit_of_own limit_of_put text_of_log firsts_behind orphan_behind past IsCausal precedes_named next_entries next_own leaf_count plain_root plain_signature plain_verifies birth own_put tagged record_text foreign_leaves full_with key_of is_signed given_as answer_to_text growth_of_text update_fields voucher_fields update_body voucher_body statement signed proof roster id_of_update id_of_statement hash_of_roster put_rising rising groups_behind groups_of new_vouchers limit_of_new limit_of_vouchers put_line get_line hello_line bundle_line give_line restart_line update_line voucher_line proof_line judge_line raw_line cut_line flip_line join_line stop_line verb_named text_of_schedule read_line schedule_of value_behind named_by text_of_check text_of_limit text_of_report served effect_of restart_by insert_by order_by latest_in run_of world_by host_in made_in referred seen_with put_host with_host all_of updated vouched_text proof_text flip_at standing_after event_result suite_of seed_of setup_of done_at_node pending_at done lines_of run_after printed world_of transcript_of sha256 first_words schedule rounds compress hash_after digest_bytes encode_with decode_pairs digits seen_under id_referred each_once receipt_of is_checkpoint_key
a_child_waits_for_its_parent = refl

-- a fork convicts its writer
a_fork_convicts : played (codes "depot schedule 1\nscheme plain 4\nnode 1\nfaulty 9\nupdate x 9 0 1 - 6b 61 - right\nupdate y 9 1 2 - 6b 62 - right\ngive 1 x\ngive 1 y\nrestart 1\n") ≡ codes "update x -> 9/0/1\nupdate y -> 9/1/2\ngive 1 x -> accepted 2 known 0 refused 0 bare\ngive 1 y -> accepted 0 known 0 refused 2 bare\n refused 0 11 Forked SamePrev\n refused 1 14 Unwanted\nrestart 1 -> records 4\n"
unfolding rest_of numeral number bytes_of inner list_of dep roster_entry signed_with is_covered candidates records_where values_behind candidate_parcels parcels fitting sent_for sent_foreign unvouched bundle_frames bundle_of bundle_answer sight content_checks opponent forked refused_as_convicted statement_checks proof_checks first_failed_check is_known answer_to due named_opponent added growth is_of_kind contradicts kind_of proof_of given_by take_frame fed_frame fed_byte fed ending_of report_of frame_at hello_leaf hello convicted_nodes lacking record_place hello_of leaves_of put_by_id by_id history_text history_hash places_where first_values has_id named prev_of is_convicted is_vouched holds_hash holds is_wanted points spent_by tips_of collides_by limit_of_own limit_of_put text_of_log firsts_behind orphan_behind past IsCausal precedes_named next_entries next_own leaf_count plain_root plain_signature plain_verifies birth own_put tagged record_text foreign_leaves full_with key_of is_signed given_as answer_to_text growth_of_text update_fields voucher_fields update_body voucher_body statement signed proof roster id_of_update id_of_statement hash_of_roster put_rising rising groups_behind groups_of new_vouchers limit_of_new limit_of_vouchers put_line get_line hello_line bundle_line give_line restart_line update_line voucher_line proof_line judge_line raw_line cut_line flip_line join_line stop_line verb_named text_of_schedule read_line schedule_of value_behind named_by text_of_check text_of_limit text_of_report served effect_of restart_by insert_by order_by latest_in run_of world_by host_in made_in referred seen_with put_host with_host all_of updated vouched_text proof_text flip_at standing_after event_result suite_of seed_of setup_of done_at_node pending_at done lines_of run_after printed world_of transcript_of sha256 first_words schedule rounds compress hash_after digest_bytes encode_with decode_pairs digits seen_under id_referred each_once receipt_of is_checkpoint_key
a_fork_convicts = refl

-- a fork rejoins
a_fork_rejoins : played (codes "depot schedule 1\nscheme plain 4\nnode 1\nnode 2\nfaulty 9\nupdate x 9 0 1 - 6b 61 - right\nupdate y 9 1 2 - 6b 62 - right\ngive 1 x\ngive 2 y\nhello 1 a\nbundle 2 a b\ngive 1 b\nget 1 6b\nhello 1 c\nrestart 1\n") ≡ codes "update x -> 9/0/1\nupdate y -> 9/1/2\ngive 1 x -> accepted 2 known 0 refused 0 bare\ngive 2 y -> accepted 2 known 0 refused 0 bare\nhello 1 a -> convicted 0 leaves 1 wanted 0\nbundle 2 a b -> proofs 0 vouchers 1 updates 1 values 1 whole\ngive 1 b -> accepted 3 known 0 refused 0 whole\nget 1 6b -> 9/0/1=61 9/1/2=62\nhello 1 c -> convicted 1 leaves 2 wanted 0\nrestart 1 -> records 7\n"
unfolding rest_of numeral number bytes_of inner list_of dep roster_entry signed_with is_covered candidates records_where values_behind candidate_parcels parcels fitting sent_for sent_foreign unvouched bundle_frames bundle_of bundle_answer sight content_checks opponent forked refused_as_convicted statement_checks proof_checks first_failed_check is_known answer_to due named_opponent added growth is_of_kind contradicts kind_of proof_of given_by take_frame fed_frame fed_byte fed ending_of report_of frame_at hello_leaf hello convicted_nodes lacking record_place hello_of leaves_of put_by_id by_id history_text history_hash places_where first_values has_id named prev_of is_convicted is_vouched holds_hash holds is_wanted points spent_by tips_of collides_by limit_of_own limit_of_put text_of_log firsts_behind orphan_behind past IsCausal precedes_named next_entries next_own leaf_count plain_root plain_signature plain_verifies birth own_put tagged record_text foreign_leaves full_with key_of is_signed given_as answer_to_text growth_of_text update_fields voucher_fields update_body voucher_body statement signed proof roster id_of_update id_of_statement hash_of_roster put_rising rising groups_behind groups_of new_vouchers limit_of_new limit_of_vouchers put_line get_line hello_line bundle_line give_line restart_line update_line voucher_line proof_line judge_line raw_line cut_line flip_line join_line stop_line verb_named text_of_schedule read_line schedule_of value_behind named_by text_of_check text_of_limit text_of_report served effect_of restart_by insert_by order_by latest_in run_of world_by host_in made_in referred seen_with put_host with_host all_of updated vouched_text proof_text flip_at standing_after event_result suite_of seed_of setup_of done_at_node pending_at done lines_of run_after printed world_of transcript_of sha256 first_words schedule rounds compress hash_after digest_bytes encode_with decode_pairs digits seen_under id_referred each_once receipt_of is_checkpoint_key
a_fork_rejoins = refl

-- a proof is judged, and what is made of its bytes
a_proof_is_judged : played (codes "depot schedule 1\nscheme plain 4\nnode 1\nfaulty 9\nupdate x 9 0 1 - 6b 61 - right\nupdate y 9 1 2 - 6b 62 - right\nproof p SamePrev x y\njudge p\nflip q p 326\njudge q\ncut a p 0 7\ncut f p 7 160\ncut s p 167 160\njoin t a s\njoin u t f\njudge u\n") ≡ codes "update x -> 9/0/1\nupdate y -> 9/1/2\nproof p -> SamePrev\njudge p -> 9 SamePrev\nflip q -> 327 bytes\njudge q -> BadSignature second\ncut a -> 7 bytes\ncut f -> 160 bytes\ncut s -> 160 bytes\njoin t -> 167 bytes\njoin u -> 327 bytes\njudge u -> WrongOrder\n"
unfolding rest_of numeral number bytes_of inner list_of dep roster_entry signed_with is_covered candidates records_where values_behind candidate_parcels parcels fitting sent_for sent_foreign unvouched bundle_frames bundle_of bundle_answer sight content_checks opponent forked refused_as_convicted statement_checks proof_checks first_failed_check is_known answer_to due named_opponent added growth is_of_kind contradicts kind_of proof_of given_by take_frame fed_frame fed_byte fed ending_of report_of frame_at hello_leaf hello convicted_nodes lacking record_place hello_of leaves_of put_by_id by_id history_text history_hash places_where first_values has_id named prev_of is_convicted is_vouched holds_hash holds is_wanted points spent_by tips_of collides_by limit_of_own limit_of_put text_of_log firsts_behind orphan_behind past IsCausal precedes_named next_entries next_own leaf_count plain_root plain_signature plain_verifies birth own_put tagged record_text foreign_leaves full_with key_of is_signed given_as answer_to_text growth_of_text update_fields voucher_fields update_body voucher_body statement signed proof roster id_of_update id_of_statement hash_of_roster put_rising rising groups_behind groups_of new_vouchers limit_of_new limit_of_vouchers put_line get_line hello_line bundle_line give_line restart_line update_line voucher_line proof_line judge_line raw_line cut_line flip_line join_line stop_line verb_named text_of_schedule read_line schedule_of value_behind named_by text_of_check text_of_limit text_of_report served effect_of restart_by insert_by order_by latest_in run_of world_by host_in made_in referred seen_with put_host with_host all_of updated vouched_text proof_text flip_at standing_after event_result suite_of seed_of setup_of done_at_node pending_at done lines_of run_after printed world_of transcript_of sha256 first_words schedule rounds compress hash_after digest_bytes encode_with decode_pairs digits seen_under id_referred each_once receipt_of is_checkpoint_key
a_proof_is_judged = refl

-- bytes of strangers
bytes_of_strangers : played (codes "depot schedule 1\nscheme plain 4\nnode 1\nraw a -\ngive 1 a\nraw b 02\ngive 1 b\nraw c 09\ngive 1 c\nraw d 020000000100\ngive 1 d\nraw e 04000000010004\ngive 1 e\nraw f 00\nbundle 1 f g\nraw h 010300010000000000000000000000000000000000000000000000000000000000000000000000000000\nbundle 1 h i\n") ≡ codes "raw a -> 0 bytes\ngive 1 a -> accepted 0 known 0 refused 0 bare\nraw b -> 1 bytes\ngive 1 b -> accepted 0 known 0 refused 0 cut 1\nraw c -> 1 bytes\ngive 1 c -> accepted 0 known 0 refused 0 ill-formed 0\nraw d -> 6 bytes\ngive 1 d -> accepted 0 known 0 refused 1 bare\n refused 0 1 IllFormed 0\nraw e -> 7 bytes\ngive 1 e -> accepted 0 known 0 refused 0 ill-formed 6\nraw f -> 1 bytes\nbundle 1 f g -> IllFormed 0\nraw h -> 42 bytes\nbundle 1 h i -> OtherRoster\n"
unfolding rest_of numeral number bytes_of inner list_of dep roster_entry signed_with is_covered candidates records_where values_behind candidate_parcels parcels fitting sent_for sent_foreign unvouched bundle_frames bundle_of bundle_answer sight content_checks opponent forked refused_as_convicted statement_checks proof_checks first_failed_check is_known answer_to due named_opponent added growth is_of_kind contradicts kind_of proof_of given_by take_frame fed_frame fed_byte fed ending_of report_of frame_at hello_leaf hello convicted_nodes lacking record_place hello_of leaves_of put_by_id by_id history_text history_hash places_where first_values has_id named prev_of is_convicted is_vouched holds_hash holds is_wanted points spent_by tips_of collides_by limit_of_own limit_of_put text_of_log firsts_behind orphan_behind past IsCausal precedes_named next_entries next_own leaf_count plain_root plain_signature plain_verifies birth own_put tagged record_text foreign_leaves full_with key_of is_signed given_as answer_to_text growth_of_text update_fields voucher_fields update_body voucher_body statement signed proof roster id_of_update id_of_statement hash_of_roster put_rising rising groups_behind groups_of new_vouchers limit_of_new limit_of_vouchers put_line get_line hello_line bundle_line give_line restart_line update_line voucher_line proof_line judge_line raw_line cut_line flip_line join_line stop_line verb_named text_of_schedule read_line schedule_of value_behind named_by text_of_check text_of_limit text_of_report served effect_of restart_by insert_by order_by latest_in run_of world_by host_in made_in referred seen_with put_host with_host all_of updated vouched_text proof_text flip_at standing_after event_result suite_of seed_of setup_of done_at_node pending_at done lines_of run_after printed world_of transcript_of sha256 first_words schedule rounds compress hash_after digest_bytes encode_with decode_pairs digits seen_under id_referred each_once receipt_of is_checkpoint_key
bytes_of_strangers = refl

-- a join supersedes both, and a third node gets all through the first, twice
a_third_node_gets_all : played (codes "depot schedule 1\nscheme plain 4\nnode 1\nnode 2\nnode 3\nput 1 6b 61\nput 2 6b 62\nhello 1 a\nhello 2 b\nbundle 1 b c\nbundle 2 a d\ngive 1 d\ngive 2 c\nget 1 6b\nget 2 6b\nput 1 6b 63\nhello 2 e\nbundle 1 e f\ngive 2 f\nget 2 6b\nhello 3 g\nbundle 1 g h\ngive 3 h\nget 3 6b\nput 1 6b 64\ngive 3 h\nrestart 3\nget 3 6b\n") ≡ codes "put 1 6b -> 0/1\nput 2 6b -> 0/1\nhello 1 a -> convicted 0 leaves 1 wanted 0\nhello 2 b -> convicted 0 leaves 1 wanted 0\nbundle 1 b c -> proofs 0 vouchers 0 updates 1 values 1 whole\nbundle 2 a d -> proofs 0 vouchers 0 updates 1 values 1 whole\ngive 1 d -> accepted 2 known 0 refused 0 whole\ngive 2 c -> accepted 2 known 0 refused 0 whole\nget 1 6b -> 1/0/1=61 2/0/1=62\nget 2 6b -> 1/0/1=61 2/0/1=62\nput 1 6b -> 1/2\nhello 2 e -> convicted 0 leaves 2 wanted 0\nbundle 1 e f -> proofs 0 vouchers 0 updates 1 values 1 whole\ngive 2 f -> accepted 2 known 0 refused 0 whole\nget 2 6b -> 1/1/2=63\nhello 3 g -> convicted 0 leaves 0 wanted 0\nbundle 1 g h -> proofs 0 vouchers 1 updates 3 values 3 whole\ngive 3 h -> accepted 7 known 0 refused 0 whole\nget 3 6b -> 1/1/2=63\nput 1 6b -> 3/3\ngive 3 h -> accepted 0 known 7 refused 0 whole\nrestart 3 -> records 8\nget 3 6b -> 1/1/2=63\n"
unfolding rest_of numeral number bytes_of inner list_of dep roster_entry signed_with is_covered candidates records_where values_behind candidate_parcels parcels fitting sent_for sent_foreign unvouched bundle_frames bundle_of bundle_answer sight content_checks opponent forked refused_as_convicted statement_checks proof_checks first_failed_check is_known answer_to due named_opponent added growth is_of_kind contradicts kind_of proof_of given_by take_frame fed_frame fed_byte fed ending_of report_of frame_at hello_leaf hello convicted_nodes lacking record_place hello_of leaves_of put_by_id by_id history_text history_hash places_where first_values has_id named prev_of is_convicted is_vouched holds_hash holds is_wanted points spent_by tips_of collides_by limit_of_own limit_of_put text_of_log firsts_behind orphan_behind past IsCausal precedes_named next_entries next_own leaf_count plain_root plain_signature plain_verifies birth own_put tagged record_text foreign_leaves full_with key_of is_signed given_as answer_to_text growth_of_text update_fields voucher_fields update_body voucher_body statement signed proof roster id_of_update id_of_statement hash_of_roster put_rising rising groups_behind groups_of new_vouchers limit_of_new limit_of_vouchers put_line get_line hello_line bundle_line give_line restart_line update_line voucher_line proof_line judge_line raw_line cut_line flip_line join_line stop_line verb_named text_of_schedule read_line schedule_of value_behind named_by text_of_check text_of_limit text_of_report served effect_of restart_by insert_by order_by latest_in run_of world_by host_in made_in referred seen_with put_host with_host all_of updated vouched_text proof_text flip_at standing_after event_result suite_of seed_of setup_of done_at_node pending_at done lines_of run_after printed world_of transcript_of sha256 first_words schedule rounds compress hash_after digest_bytes encode_with decode_pairs digits seen_under id_referred each_once receipt_of is_checkpoint_key
a_third_node_gets_all = refl

-- a convicted writer, and then its voucher, are refused
a_convicted_writer_is_refused : played (codes "depot schedule 1\nscheme plain 4\nnode 1\nfaulty 9\nupdate x 9 0 1 - 6b 61 - right\nupdate y 9 1 2 - 6b 62 - right\ngive 1 x\ngive 1 y\nrestart 1\nupdate z 9 2 3 x 6b 63 - right\ngive 1 z\nvoucher v 9 5 z\ngive 1 v\n") ≡ codes "update x -> 9/0/1\nupdate y -> 9/1/2\ngive 1 x -> accepted 2 known 0 refused 0 bare\ngive 1 y -> accepted 0 known 0 refused 2 bare\n refused 0 11 Forked SamePrev\n refused 1 14 Unwanted\nrestart 1 -> records 4\nupdate z -> 9/2/3\ngive 1 z -> accepted 0 known 0 refused 2 bare\n refused 0 12 Convicted 9\n refused 1 14 Unwanted\nvoucher v -> 9/5 ids 1\ngive 1 v -> accepted 0 known 0 refused 1 bare\n refused 0 13 VoucherConvicted 9\n"
unfolding rest_of numeral number bytes_of inner list_of dep roster_entry signed_with is_covered candidates records_where values_behind candidate_parcels parcels fitting sent_for sent_foreign unvouched bundle_frames bundle_of bundle_answer sight content_checks opponent forked refused_as_convicted statement_checks proof_checks first_failed_check is_known answer_to due named_opponent added growth is_of_kind contradicts kind_of proof_of given_by take_frame fed_frame fed_byte fed ending_of report_of frame_at hello_leaf hello convicted_nodes lacking record_place hello_of leaves_of put_by_id by_id history_text history_hash places_where first_values has_id named prev_of is_convicted is_vouched holds_hash holds is_wanted points spent_by tips_of collides_by limit_of_own limit_of_put text_of_log firsts_behind orphan_behind past IsCausal precedes_named next_entries next_own leaf_count plain_root plain_signature plain_verifies birth own_put tagged record_text foreign_leaves full_with key_of is_signed given_as answer_to_text growth_of_text update_fields voucher_fields update_body voucher_body statement signed proof roster id_of_update id_of_statement hash_of_roster put_rising rising groups_behind groups_of new_vouchers limit_of_new limit_of_vouchers put_line get_line hello_line bundle_line give_line restart_line update_line voucher_line proof_line judge_line raw_line cut_line flip_line join_line stop_line verb_named text_of_schedule read_line schedule_of value_behind named_by text_of_check text_of_limit text_of_report served effect_of restart_by insert_by order_by latest_in run_of world_by host_in made_in referred seen_with put_host with_host all_of updated vouched_text proof_text flip_at standing_after event_result suite_of seed_of setup_of done_at_node pending_at done lines_of run_after printed world_of transcript_of sha256 first_words schedule rounds compress hash_after digest_bytes encode_with decode_pairs digits seen_under id_referred each_once receipt_of is_checkpoint_key
a_convicted_writer_is_refused = refl

-- two halves that are the same, and two that contradict each other in another kind
what_two_statements_prove : played (codes "depot schedule 1\nscheme plain 4\nnode 1\nfaulty 9\nupdate x 9 0 1 - 6b 61 - right\nupdate y 9 1 2 - 6b 62 - right\nupdate z 9 2 3 x 6b 63 - right\nproof p SamePrev x y\ncut a p 0 7\ncut f p 7 160\njoin m a f\njoin n m f\njudge n\nproof o Backward x z\njudge o\n") ≡ codes "update x -> 9/0/1\nupdate y -> 9/1/2\nupdate z -> 9/2/3\nproof p -> SamePrev\ncut a -> 7 bytes\ncut f -> 160 bytes\njoin m -> 167 bytes\njoin n -> 327 bytes\njudge n -> Same\nproof o -> Backward\njudge o -> NotContradictory Backward\n"
unfolding rest_of numeral number bytes_of inner list_of dep roster_entry signed_with is_covered candidates records_where values_behind candidate_parcels parcels fitting sent_for sent_foreign unvouched bundle_frames bundle_of bundle_answer sight content_checks opponent forked refused_as_convicted statement_checks proof_checks first_failed_check is_known answer_to due named_opponent added growth is_of_kind contradicts kind_of proof_of given_by take_frame fed_frame fed_byte fed ending_of report_of frame_at hello_leaf hello convicted_nodes lacking record_place hello_of leaves_of put_by_id by_id history_text history_hash places_where first_values has_id named prev_of is_convicted is_vouched holds_hash holds is_wanted points spent_by tips_of collides_by limit_of_own limit_of_put text_of_log firsts_behind orphan_behind past IsCausal precedes_named next_entries next_own leaf_count plain_root plain_signature plain_verifies birth own_put tagged record_text foreign_leaves full_with key_of is_signed given_as answer_to_text growth_of_text update_fields voucher_fields update_body voucher_body statement signed proof roster id_of_update id_of_statement hash_of_roster put_rising rising groups_behind groups_of new_vouchers limit_of_new limit_of_vouchers put_line get_line hello_line bundle_line give_line restart_line update_line voucher_line proof_line judge_line raw_line cut_line flip_line join_line stop_line verb_named text_of_schedule read_line schedule_of value_behind named_by text_of_check text_of_limit text_of_report served effect_of restart_by insert_by order_by latest_in run_of world_by host_in made_in referred seen_with put_host with_host all_of updated vouched_text proof_text flip_at standing_after event_result suite_of seed_of setup_of done_at_node pending_at done lines_of run_after printed world_of transcript_of sha256 first_words schedule rounds compress hash_after digest_bytes encode_with decode_pairs digits seen_under id_referred each_once receipt_of is_checkpoint_key
what_two_statements_prove = refl

-- a clock more than 65,536 above those of the parents
clocks_may_not_run_ahead : played (codes "depot schedule 1\nscheme plain 4\nnode 1\nfaulty 9\nupdate x 9 0 65536 - 6b 61 - right\ngive 1 x\nupdate y 9 1 131073 x 6b 62 - right\ngive 1 y\nupdate z 9 2 131072 x 6b 63 - right\ngive 1 z\n") ≡ codes "update x -> 9/0/65536\ngive 1 x -> accepted 2 known 0 refused 0 bare\nupdate y -> 9/1/131073\ngive 1 y -> accepted 0 known 0 refused 2 bare\n refused 0 9 ClockFar 65536\n refused 1 14 Unwanted\nupdate z -> 9/2/131072\ngive 1 z -> accepted 2 known 0 refused 0 bare\n"
unfolding rest_of numeral number bytes_of inner list_of dep roster_entry signed_with is_covered candidates records_where values_behind candidate_parcels parcels fitting sent_for sent_foreign unvouched bundle_frames bundle_of bundle_answer sight content_checks opponent forked refused_as_convicted statement_checks proof_checks first_failed_check is_known answer_to due named_opponent added growth is_of_kind contradicts kind_of proof_of given_by take_frame fed_frame fed_byte fed ending_of report_of frame_at hello_leaf hello convicted_nodes lacking record_place hello_of leaves_of put_by_id by_id history_text history_hash places_where first_values has_id named prev_of is_convicted is_vouched holds_hash holds is_wanted points spent_by tips_of collides_by limit_of_own limit_of_put text_of_log firsts_behind orphan_behind past IsCausal precedes_named next_entries next_own leaf_count plain_root plain_signature plain_verifies birth own_put tagged record_text foreign_leaves full_with key_of is_signed given_as answer_to_text growth_of_text update_fields voucher_fields update_body voucher_body statement signed proof roster id_of_update id_of_statement hash_of_roster put_rising rising groups_behind groups_of new_vouchers limit_of_new limit_of_vouchers put_line get_line hello_line bundle_line give_line restart_line update_line voucher_line proof_line judge_line raw_line cut_line flip_line join_line stop_line verb_named text_of_schedule read_line schedule_of value_behind named_by text_of_check text_of_limit text_of_report served effect_of restart_by insert_by order_by latest_in run_of world_by host_in made_in referred seen_with put_host with_host all_of updated vouched_text proof_text flip_at standing_after event_result suite_of seed_of setup_of done_at_node pending_at done lines_of run_after printed world_of transcript_of sha256 first_words schedule rounds compress hash_after digest_bytes encode_with decode_pairs digits seen_under id_referred each_once receipt_of is_checkpoint_key
clocks_may_not_run_ahead = refl

-- a clock that is too low, a prev of another writer, a wrong history, and a wrong signature
contents_are_checked : played (codes "depot schedule 1\nscheme plain 4\nnode 1\nfaulty 8\nfaulty 9\nupdate y 8 0 5 - 6b 61 - right\ngive 1 y\nupdate a 9 0 5 - 6b 62 y right\ngive 1 a\nupdate b 9 0 6 y 6b 63 - right\ngive 1 b\nupdate c 9 0 1 - 6b 64 - 0000000000000000000000000000000000000000000000000000000000000000\ngive 1 c\nflip d a 206\ngive 1 d\n") ≡ codes "update y -> 8/0/5\ngive 1 y -> accepted 2 known 0 refused 0 bare\nupdate a -> 9/0/5\ngive 1 a -> accepted 0 known 0 refused 2 bare\n refused 0 8 ClockLow\n refused 1 14 Unwanted\nupdate b -> 9/0/6\ngive 1 b -> accepted 0 known 0 refused 2 bare\n refused 0 6 WrongDep 0\n refused 1 14 Unwanted\nupdate c -> 9/0/1\ngive 1 c -> accepted 0 known 0 refused 2 bare\n refused 0 10 BadHistory\n refused 1 14 Unwanted\nflip d -> 213 bytes\ngive 1 d -> accepted 0 known 0 refused 2 bare\n refused 0 4 BadSignature 9\n refused 1 14 Unwanted\n"
unfolding rest_of numeral number bytes_of inner list_of dep roster_entry signed_with is_covered candidates records_where values_behind candidate_parcels parcels fitting sent_for sent_foreign unvouched bundle_frames bundle_of bundle_answer sight content_checks opponent forked refused_as_convicted statement_checks proof_checks first_failed_check is_known answer_to due named_opponent added growth is_of_kind contradicts kind_of proof_of given_by take_frame fed_frame fed_byte fed ending_of report_of frame_at hello_leaf hello convicted_nodes lacking record_place hello_of leaves_of put_by_id by_id history_text history_hash places_where first_values has_id named prev_of is_convicted is_vouched holds_hash holds is_wanted points spent_by tips_of collides_by limit_of_own limit_of_put text_of_log firsts_behind orphan_behind past IsCausal precedes_named next_entries next_own leaf_count plain_root plain_signature plain_verifies birth own_put tagged record_text foreign_leaves full_with key_of is_signed given_as answer_to_text growth_of_text update_fields voucher_fields update_body voucher_body statement signed proof roster id_of_update id_of_statement hash_of_roster put_rising rising groups_behind groups_of new_vouchers limit_of_new limit_of_vouchers put_line get_line hello_line bundle_line give_line restart_line update_line voucher_line proof_line judge_line raw_line cut_line flip_line join_line stop_line verb_named text_of_schedule read_line schedule_of value_behind named_by text_of_check text_of_limit text_of_report served effect_of restart_by insert_by order_by latest_in run_of world_by host_in made_in referred seen_with put_host with_host all_of updated vouched_text proof_text flip_at standing_after event_result suite_of seed_of setup_of done_at_node pending_at done lines_of run_after printed world_of transcript_of sha256 first_words schedule rounds compress hash_after digest_bytes encode_with decode_pairs digits seen_under id_referred each_once receipt_of is_checkpoint_key
contents_are_checked = refl

-- references that name no update, and repeats that are dropped
references_that_name_nothing : played (codes "depot schedule 1\nscheme plain 4\nnode 1\nfaulty 9\nupdate x 9 0 1 1.0 6b 61 - right\nupdate y 9 0 1 x 6b 61 - right\nput 1 6b 61\nupdate z 9 0 2 - 6b 61 1.0,1.0 right\ngive 1 z\nupdate w 9 1 3 - 6b 61 z right\nvoucher v 9 2 z,1.0,z\nvoucher u 9 3 x\nproof p SamePrev x z\ngive 1 v\nget 1 6b\n") ≡ codes "update x -> NoRef\nupdate y -> NoRef\nput 1 6b -> 0/1\nupdate z -> 9/0/2\ngive 1 z -> accepted 1 known 1 refused 0 bare\nupdate w -> NoRef\nvoucher v -> 9/2 ids 2\nvoucher u -> NoRef\nproof p -> NoRef\ngive 1 v -> accepted 1 known 0 refused 0 bare\nget 1 6b -> 9/0/2=61\n"
unfolding rest_of numeral number bytes_of inner list_of dep roster_entry signed_with is_covered candidates records_where values_behind candidate_parcels parcels fitting sent_for sent_foreign unvouched bundle_frames bundle_of bundle_answer sight content_checks opponent forked refused_as_convicted statement_checks proof_checks first_failed_check is_known answer_to due named_opponent added growth is_of_kind contradicts kind_of proof_of given_by take_frame fed_frame fed_byte fed ending_of report_of frame_at hello_leaf hello convicted_nodes lacking record_place hello_of leaves_of put_by_id by_id history_text history_hash places_where first_values has_id named prev_of is_convicted is_vouched holds_hash holds is_wanted points spent_by tips_of collides_by limit_of_own limit_of_put text_of_log firsts_behind orphan_behind past IsCausal precedes_named next_entries next_own leaf_count plain_root plain_signature plain_verifies birth own_put tagged record_text foreign_leaves full_with key_of is_signed given_as answer_to_text growth_of_text update_fields voucher_fields update_body voucher_body statement signed proof roster id_of_update id_of_statement hash_of_roster put_rising rising groups_behind groups_of new_vouchers limit_of_new limit_of_vouchers put_line get_line hello_line bundle_line give_line restart_line update_line voucher_line proof_line judge_line raw_line cut_line flip_line join_line stop_line verb_named text_of_schedule read_line schedule_of value_behind named_by text_of_check text_of_limit text_of_report served effect_of restart_by insert_by order_by latest_in run_of world_by host_in made_in referred seen_with put_host with_host all_of updated vouched_text proof_text flip_at standing_after event_result suite_of seed_of setup_of done_at_node pending_at done lines_of run_after printed world_of transcript_of sha256 first_words schedule rounds compress hash_after digest_bytes encode_with decode_pairs digits seen_under id_referred each_once receipt_of is_checkpoint_key
references_that_name_nothing = refl

-- a tree is spent
a_tree_is_spent : played (codes "depot schedule 1\nscheme plain 2\nnode 1\nput 1 6b 61\nput 1 6b 61\nput 1 6b 61\nput 1 6b 61\nput 1 6b 61\n") ≡ codes "put 1 6b -> 0/1\nput 1 6b -> 1/2\nput 1 6b -> 2/3\nput 1 6b -> 3/4\nput 1 6b -> Spent 4\n"
unfolding rest_of numeral number bytes_of inner list_of dep roster_entry signed_with is_covered candidates records_where values_behind candidate_parcels parcels fitting sent_for sent_foreign unvouched bundle_frames bundle_of bundle_answer sight content_checks opponent forked refused_as_convicted statement_checks proof_checks first_failed_check is_known answer_to due named_opponent added growth is_of_kind contradicts kind_of proof_of given_by take_frame fed_frame fed_byte fed ending_of report_of frame_at hello_leaf hello convicted_nodes lacking record_place hello_of leaves_of put_by_id by_id history_text history_hash places_where first_values has_id named prev_of is_convicted is_vouched holds_hash holds is_wanted points spent_by tips_of collides_by limit_of_own limit_of_put text_of_log firsts_behind orphan_behind past IsCausal precedes_named next_entries next_own leaf_count plain_root plain_signature plain_verifies birth own_put tagged record_text foreign_leaves full_with key_of is_signed given_as answer_to_text growth_of_text update_fields voucher_fields update_body voucher_body statement signed proof roster id_of_update id_of_statement hash_of_roster put_rising rising groups_behind groups_of new_vouchers limit_of_new limit_of_vouchers put_line get_line hello_line bundle_line give_line restart_line update_line voucher_line proof_line judge_line raw_line cut_line flip_line join_line stop_line verb_named text_of_schedule read_line schedule_of value_behind named_by text_of_check text_of_limit text_of_report served effect_of restart_by insert_by order_by latest_in run_of world_by host_in made_in referred seen_with put_host with_host all_of updated vouched_text proof_text flip_at standing_after event_result suite_of seed_of setup_of done_at_node pending_at done lines_of run_after printed world_of transcript_of sha256 first_words schedule rounds compress hash_after digest_bytes encode_with decode_pairs digits seen_under id_referred each_once receipt_of is_checkpoint_key
a_tree_is_spent = refl

-- a stop at call 1, with image 0
a_stop_at_call_1_with_image_0 : played (codes "depot schedule 1\nscheme plain 4\nnode 1\nstop 1 1 0\nput 1 6b 61\nget 1 6b\nput 1 6b 62\n") ≡ codes "stop 1 -> armed\nput 1 6b -> stopped records 1\nget 1 6b ->\nput 1 6b -> 0/1\n"
unfolding rest_of numeral number bytes_of inner list_of dep roster_entry signed_with is_covered candidates records_where values_behind candidate_parcels parcels fitting sent_for sent_foreign unvouched bundle_frames bundle_of bundle_answer sight content_checks opponent forked refused_as_convicted statement_checks proof_checks first_failed_check is_known answer_to due named_opponent added growth is_of_kind contradicts kind_of proof_of given_by take_frame fed_frame fed_byte fed ending_of report_of frame_at hello_leaf hello convicted_nodes lacking record_place hello_of leaves_of put_by_id by_id history_text history_hash places_where first_values has_id named prev_of is_convicted is_vouched holds_hash holds is_wanted points spent_by tips_of collides_by limit_of_own limit_of_put text_of_log firsts_behind orphan_behind past IsCausal precedes_named next_entries next_own leaf_count plain_root plain_signature plain_verifies birth own_put tagged record_text foreign_leaves full_with key_of is_signed given_as answer_to_text growth_of_text update_fields voucher_fields update_body voucher_body statement signed proof roster id_of_update id_of_statement hash_of_roster put_rising rising groups_behind groups_of new_vouchers limit_of_new limit_of_vouchers put_line get_line hello_line bundle_line give_line restart_line update_line voucher_line proof_line judge_line raw_line cut_line flip_line join_line stop_line verb_named text_of_schedule read_line schedule_of value_behind named_by text_of_check text_of_limit text_of_report served effect_of restart_by insert_by order_by latest_in run_of world_by host_in made_in referred seen_with put_host with_host all_of updated vouched_text proof_text flip_at standing_after event_result suite_of seed_of setup_of done_at_node pending_at done lines_of run_after printed world_of transcript_of sha256 first_words schedule rounds compress hash_after digest_bytes encode_with decode_pairs digits seen_under id_referred each_once receipt_of is_checkpoint_key
a_stop_at_call_1_with_image_0 = refl

-- a stop at call 2, with image 1
a_stop_at_call_2_with_image_1 : played (codes "depot schedule 1\nscheme plain 4\nnode 1\nstop 1 2 1\nput 1 6b 61\nget 1 6b\nput 1 6b 62\n") ≡ codes "stop 1 -> armed\nput 1 6b -> stopped records 1\nget 1 6b ->\nput 1 6b -> 0/1\n"
unfolding rest_of numeral number bytes_of inner list_of dep roster_entry signed_with is_covered candidates records_where values_behind candidate_parcels parcels fitting sent_for sent_foreign unvouched bundle_frames bundle_of bundle_answer sight content_checks opponent forked refused_as_convicted statement_checks proof_checks first_failed_check is_known answer_to due named_opponent added growth is_of_kind contradicts kind_of proof_of given_by take_frame fed_frame fed_byte fed ending_of report_of frame_at hello_leaf hello convicted_nodes lacking record_place hello_of leaves_of put_by_id by_id history_text history_hash places_where first_values has_id named prev_of is_convicted is_vouched holds_hash holds is_wanted points spent_by tips_of collides_by limit_of_own limit_of_put text_of_log firsts_behind orphan_behind past IsCausal precedes_named next_entries next_own leaf_count plain_root plain_signature plain_verifies birth own_put tagged record_text foreign_leaves full_with key_of is_signed given_as answer_to_text growth_of_text update_fields voucher_fields update_body voucher_body statement signed proof roster id_of_update id_of_statement hash_of_roster put_rising rising groups_behind groups_of new_vouchers limit_of_new limit_of_vouchers put_line get_line hello_line bundle_line give_line restart_line update_line voucher_line proof_line judge_line raw_line cut_line flip_line join_line stop_line verb_named text_of_schedule read_line schedule_of value_behind named_by text_of_check text_of_limit text_of_report served effect_of restart_by insert_by order_by latest_in run_of world_by host_in made_in referred seen_with put_host with_host all_of updated vouched_text proof_text flip_at standing_after event_result suite_of seed_of setup_of done_at_node pending_at done lines_of run_after printed world_of transcript_of sha256 first_words schedule rounds compress hash_after digest_bytes encode_with decode_pairs digits seen_under id_referred each_once receipt_of is_checkpoint_key
a_stop_at_call_2_with_image_1 = refl

-- a stop at call 3, with image 0
a_stop_at_call_3_with_image_0 : played (codes "depot schedule 1\nscheme plain 4\nnode 1\nstop 1 3 0\nput 1 6b 61\nget 1 6b\nput 1 6b 62\n") ≡ codes "stop 1 -> armed\nput 1 6b -> stopped records 1\nget 1 6b ->\nput 1 6b -> 0/1\n"
unfolding rest_of numeral number bytes_of inner list_of dep roster_entry signed_with is_covered candidates records_where values_behind candidate_parcels parcels fitting sent_for sent_foreign unvouched bundle_frames bundle_of bundle_answer sight content_checks opponent forked refused_as_convicted statement_checks proof_checks first_failed_check is_known answer_to due named_opponent added growth is_of_kind contradicts kind_of proof_of given_by take_frame fed_frame fed_byte fed ending_of report_of frame_at hello_leaf hello convicted_nodes lacking record_place hello_of leaves_of put_by_id by_id history_text history_hash places_where first_values has_id named prev_of is_convicted is_vouched holds_hash holds is_wanted points spent_by tips_of collides_by limit_of_own limit_of_put text_of_log firsts_behind orphan_behind past IsCausal precedes_named next_entries next_own leaf_count plain_root plain_signature plain_verifies birth own_put tagged record_text foreign_leaves full_with key_of is_signed given_as answer_to_text growth_of_text update_fields voucher_fields update_body voucher_body statement signed proof roster id_of_update id_of_statement hash_of_roster put_rising rising groups_behind groups_of new_vouchers limit_of_new limit_of_vouchers put_line get_line hello_line bundle_line give_line restart_line update_line voucher_line proof_line judge_line raw_line cut_line flip_line join_line stop_line verb_named text_of_schedule read_line schedule_of value_behind named_by text_of_check text_of_limit text_of_report served effect_of restart_by insert_by order_by latest_in run_of world_by host_in made_in referred seen_with put_host with_host all_of updated vouched_text proof_text flip_at standing_after event_result suite_of seed_of setup_of done_at_node pending_at done lines_of run_after printed world_of transcript_of sha256 first_words schedule rounds compress hash_after digest_bytes encode_with decode_pairs digits seen_under id_referred each_once receipt_of is_checkpoint_key
a_stop_at_call_3_with_image_0 = refl

-- a stop at call 3, with image 1
a_stop_at_call_3_with_image_1 : played (codes "depot schedule 1\nscheme plain 4\nnode 1\nstop 1 3 1\nput 1 6b 61\nget 1 6b\nput 1 6b 62\n") ≡ codes "stop 1 -> armed\nput 1 6b -> stopped records 2\nget 1 6b -> 1/0/1=61\nput 1 6b -> 1/2\n"
unfolding rest_of numeral number bytes_of inner list_of dep roster_entry signed_with is_covered candidates records_where values_behind candidate_parcels parcels fitting sent_for sent_foreign unvouched bundle_frames bundle_of bundle_answer sight content_checks opponent forked refused_as_convicted statement_checks proof_checks first_failed_check is_known answer_to due named_opponent added growth is_of_kind contradicts kind_of proof_of given_by take_frame fed_frame fed_byte fed ending_of report_of frame_at hello_leaf hello convicted_nodes lacking record_place hello_of leaves_of put_by_id by_id history_text history_hash places_where first_values has_id named prev_of is_convicted is_vouched holds_hash holds is_wanted points spent_by tips_of collides_by limit_of_own limit_of_put text_of_log firsts_behind orphan_behind past IsCausal precedes_named next_entries next_own leaf_count plain_root plain_signature plain_verifies birth own_put tagged record_text foreign_leaves full_with key_of is_signed given_as answer_to_text growth_of_text update_fields voucher_fields update_body voucher_body statement signed proof roster id_of_update id_of_statement hash_of_roster put_rising rising groups_behind groups_of new_vouchers limit_of_new limit_of_vouchers put_line get_line hello_line bundle_line give_line restart_line update_line voucher_line proof_line judge_line raw_line cut_line flip_line join_line stop_line verb_named text_of_schedule read_line schedule_of value_behind named_by text_of_check text_of_limit text_of_report served effect_of restart_by insert_by order_by latest_in run_of world_by host_in made_in referred seen_with put_host with_host all_of updated vouched_text proof_text flip_at standing_after event_result suite_of seed_of setup_of done_at_node pending_at done lines_of run_after printed world_of transcript_of sha256 first_words schedule rounds compress hash_after digest_bytes encode_with decode_pairs digits seen_under id_referred each_once receipt_of is_checkpoint_key
a_stop_at_call_3_with_image_1 = refl

-- a stop at call 4, with image 1
a_stop_at_call_4_with_image_1 : played (codes "depot schedule 1\nscheme plain 4\nnode 1\nstop 1 4 1\nput 1 6b 61\nget 1 6b\nput 1 6b 62\n") ≡ codes "stop 1 -> armed\nput 1 6b -> stopped records 2\nget 1 6b -> 1/0/1=61\nput 1 6b -> 1/2\n"
unfolding rest_of numeral number bytes_of inner list_of dep roster_entry signed_with is_covered candidates records_where values_behind candidate_parcels parcels fitting sent_for sent_foreign unvouched bundle_frames bundle_of bundle_answer sight content_checks opponent forked refused_as_convicted statement_checks proof_checks first_failed_check is_known answer_to due named_opponent added growth is_of_kind contradicts kind_of proof_of given_by take_frame fed_frame fed_byte fed ending_of report_of frame_at hello_leaf hello convicted_nodes lacking record_place hello_of leaves_of put_by_id by_id history_text history_hash places_where first_values has_id named prev_of is_convicted is_vouched holds_hash holds is_wanted points spent_by tips_of collides_by limit_of_own limit_of_put text_of_log firsts_behind orphan_behind past IsCausal precedes_named next_entries next_own leaf_count plain_root plain_signature plain_verifies birth own_put tagged record_text foreign_leaves full_with key_of is_signed given_as answer_to_text growth_of_text update_fields voucher_fields update_body voucher_body statement signed proof roster id_of_update id_of_statement hash_of_roster put_rising rising groups_behind groups_of new_vouchers limit_of_new limit_of_vouchers put_line get_line hello_line bundle_line give_line restart_line update_line voucher_line proof_line judge_line raw_line cut_line flip_line join_line stop_line verb_named text_of_schedule read_line schedule_of value_behind named_by text_of_check text_of_limit text_of_report served effect_of restart_by insert_by order_by latest_in run_of world_by host_in made_in referred seen_with put_host with_host all_of updated vouched_text proof_text flip_at standing_after event_result suite_of seed_of setup_of done_at_node pending_at done lines_of run_after printed world_of transcript_of sha256 first_words schedule rounds compress hash_after digest_bytes encode_with decode_pairs digits seen_under id_referred each_once receipt_of is_checkpoint_key
a_stop_at_call_4_with_image_1 = refl

-- a stop at call 4, with image 2
a_stop_at_call_4_with_image_2 : played (codes "depot schedule 1\nscheme plain 4\nnode 1\nstop 1 4 2\nput 1 6b 61\nget 1 6b\nput 1 6b 62\n") ≡ codes "stop 1 -> armed\nput 1 6b -> stopped records 1\nget 1 6b ->\nput 1 6b -> 0/1\n"
unfolding rest_of numeral number bytes_of inner list_of dep roster_entry signed_with is_covered candidates records_where values_behind candidate_parcels parcels fitting sent_for sent_foreign unvouched bundle_frames bundle_of bundle_answer sight content_checks opponent forked refused_as_convicted statement_checks proof_checks first_failed_check is_known answer_to due named_opponent added growth is_of_kind contradicts kind_of proof_of given_by take_frame fed_frame fed_byte fed ending_of report_of frame_at hello_leaf hello convicted_nodes lacking record_place hello_of leaves_of put_by_id by_id history_text history_hash places_where first_values has_id named prev_of is_convicted is_vouched holds_hash holds is_wanted points spent_by tips_of collides_by limit_of_own limit_of_put text_of_log firsts_behind orphan_behind past IsCausal precedes_named next_entries next_own leaf_count plain_root plain_signature plain_verifies birth own_put tagged record_text foreign_leaves full_with key_of is_signed given_as answer_to_text growth_of_text update_fields voucher_fields update_body voucher_body statement signed proof roster id_of_update id_of_statement hash_of_roster put_rising rising groups_behind groups_of new_vouchers limit_of_new limit_of_vouchers put_line get_line hello_line bundle_line give_line restart_line update_line voucher_line proof_line judge_line raw_line cut_line flip_line join_line stop_line verb_named text_of_schedule read_line schedule_of value_behind named_by text_of_check text_of_limit text_of_report served effect_of restart_by insert_by order_by latest_in run_of world_by host_in made_in referred seen_with put_host with_host all_of updated vouched_text proof_text flip_at standing_after event_result suite_of seed_of setup_of done_at_node pending_at done lines_of run_after printed world_of transcript_of sha256 first_words schedule rounds compress hash_after digest_bytes encode_with decode_pairs digits seen_under id_referred each_once receipt_of is_checkpoint_key
a_stop_at_call_4_with_image_2 = refl

-- a stop between an update and its value
a_stop_between_an_update_and_its_value : played (codes "depot schedule 1\nscheme plain 4\nnode 1\nfaulty 9\nupdate x 9 0 1 - 6b 61 - right\nstop 1 7 0\ngive 1 x\nget 1 6b\ngive 1 x\n") ≡ codes "update x -> 9/0/1\nstop 1 -> armed\ngive 1 x -> stopped records 2\nget 1 6b -> 9/0/1=?\ngive 1 x -> accepted 1 known 1 refused 0 bare\n"
unfolding rest_of numeral number bytes_of inner list_of dep roster_entry signed_with is_covered candidates records_where values_behind candidate_parcels parcels fitting sent_for sent_foreign unvouched bundle_frames bundle_of bundle_answer sight content_checks opponent forked refused_as_convicted statement_checks proof_checks first_failed_check is_known answer_to due named_opponent added growth is_of_kind contradicts kind_of proof_of given_by take_frame fed_frame fed_byte fed ending_of report_of frame_at hello_leaf hello convicted_nodes lacking record_place hello_of leaves_of put_by_id by_id history_text history_hash places_where first_values has_id named prev_of is_convicted is_vouched holds_hash holds is_wanted points spent_by tips_of collides_by limit_of_own limit_of_put text_of_log firsts_behind orphan_behind past IsCausal precedes_named next_entries next_own leaf_count plain_root plain_signature plain_verifies birth own_put tagged record_text foreign_leaves full_with key_of is_signed given_as answer_to_text growth_of_text update_fields voucher_fields update_body voucher_body statement signed proof roster id_of_update id_of_statement hash_of_roster put_rising rising groups_behind groups_of new_vouchers limit_of_new limit_of_vouchers put_line get_line hello_line bundle_line give_line restart_line update_line voucher_line proof_line judge_line raw_line cut_line flip_line join_line stop_line verb_named text_of_schedule read_line schedule_of value_behind named_by text_of_check text_of_limit text_of_report served effect_of restart_by insert_by order_by latest_in run_of world_by host_in made_in referred seen_with put_host with_host all_of updated vouched_text proof_text flip_at standing_after event_result suite_of seed_of setup_of done_at_node pending_at done lines_of run_after printed world_of transcript_of sha256 first_words schedule rounds compress hash_after digest_bytes encode_with decode_pairs digits seen_under id_referred each_once receipt_of is_checkpoint_key
a_stop_between_an_update_and_its_value = refl

-- a stop in a restart
a_stop_in_a_restart : played (codes "depot schedule 1\nscheme plain 4\nnode 1\nput 1 6b 61\nstop 1 1 2\nrestart 1\n") ≡ codes "put 1 6b -> 0/1\nstop 1 -> armed\nrestart 1 -> stopped records 2\n"
unfolding rest_of numeral number bytes_of inner list_of dep roster_entry signed_with is_covered candidates records_where values_behind candidate_parcels parcels fitting sent_for sent_foreign unvouched bundle_frames bundle_of bundle_answer sight content_checks opponent forked refused_as_convicted statement_checks proof_checks first_failed_check is_known answer_to due named_opponent added growth is_of_kind contradicts kind_of proof_of given_by take_frame fed_frame fed_byte fed ending_of report_of frame_at hello_leaf hello convicted_nodes lacking record_place hello_of leaves_of put_by_id by_id history_text history_hash places_where first_values has_id named prev_of is_convicted is_vouched holds_hash holds is_wanted points spent_by tips_of collides_by limit_of_own limit_of_put text_of_log firsts_behind orphan_behind past IsCausal precedes_named next_entries next_own leaf_count plain_root plain_signature plain_verifies birth own_put tagged record_text foreign_leaves full_with key_of is_signed given_as answer_to_text growth_of_text update_fields voucher_fields update_body voucher_body statement signed proof roster id_of_update id_of_statement hash_of_roster put_rising rising groups_behind groups_of new_vouchers limit_of_new limit_of_vouchers put_line get_line hello_line bundle_line give_line restart_line update_line voucher_line proof_line judge_line raw_line cut_line flip_line join_line stop_line verb_named text_of_schedule read_line schedule_of value_behind named_by text_of_check text_of_limit text_of_report served effect_of restart_by insert_by order_by latest_in run_of world_by host_in made_in referred seen_with put_host with_host all_of updated vouched_text proof_text flip_at standing_after event_result suite_of seed_of setup_of done_at_node pending_at done lines_of run_after printed world_of transcript_of sha256 first_words schedule rounds compress hash_after digest_bytes encode_with decode_pairs digits seen_under id_referred each_once receipt_of is_checkpoint_key
a_stop_in_a_restart = refl

-- several keys at once, and a deletion, which goes on to another node
keys_are_put_and_deleted : played (codes "depot schedule 1\nscheme plain 4\nnode 1\nnode 2\nputs 1 6b=61,6c=62\nputs 1 6b!\nget 1 6b\nget 1 6c\nhello 2 a\nbundle 1 a b\ngive 2 b\nput 2 6b 63\nget 2 6b\n") ≡ codes "puts 1 -> 0/1\nputs 1 -> 1/2\nget 1 6b -> 1/1/2!\nget 1 6c -> 1/0/1=62\nhello 2 a -> convicted 0 leaves 0 wanted 0\nbundle 1 a b -> proofs 0 vouchers 0 updates 2 values 2 whole\ngive 2 b -> accepted 4 known 0 refused 0 whole\nput 2 6b -> 0/3\nget 2 6b -> 2/0/3=63\n"
unfolding rest_of numeral number bytes_of inner list_of dep roster_entry signed_with is_covered candidates records_where values_behind candidate_parcels parcels fitting sent_for sent_foreign unvouched bundle_frames bundle_of bundle_answer sight content_checks opponent forked refused_as_convicted statement_checks proof_checks first_failed_check is_known answer_to due named_opponent added growth is_of_kind contradicts kind_of proof_of given_by take_frame fed_frame fed_byte fed ending_of report_of frame_at hello_leaf hello convicted_nodes lacking record_place hello_of leaves_of put_by_id by_id history_text history_hash places_where first_values has_id named prev_of is_convicted is_vouched holds_hash holds is_wanted points spent_by tips_of collides_by limit_of_own limit_of_put text_of_log firsts_behind orphan_behind past IsCausal precedes_named next_entries next_own leaf_count plain_root plain_signature plain_verifies birth own_put tagged record_text foreign_leaves full_with key_of is_signed given_as answer_to_text growth_of_text update_fields voucher_fields update_body voucher_body statement signed proof roster id_of_update id_of_statement hash_of_roster put_rising rising groups_behind groups_of new_vouchers limit_of_new limit_of_vouchers put_line get_line hello_line bundle_line give_line restart_line update_line voucher_line proof_line judge_line raw_line cut_line flip_line join_line stop_line verb_named text_of_schedule read_line schedule_of value_behind named_by text_of_check text_of_limit text_of_report served effect_of restart_by insert_by order_by latest_in run_of world_by host_in made_in referred seen_with put_host with_host all_of updated vouched_text proof_text flip_at standing_after event_result suite_of seed_of setup_of done_at_node pending_at done lines_of run_after printed world_of transcript_of sha256 first_words schedule rounds compress hash_after digest_bytes encode_with decode_pairs digits seen_under id_referred each_once write marked is_update_text is_hollow hollow_text puts_line updates_line hollow_line receipt_of is_checkpoint_key
keys_are_put_and_deleted = refl

-- a faulty update of two equal values and a deletion: the value occurs once in its bytes
a_value_goes_once : played (codes "depot schedule 1\nscheme plain 4\nnode 1\nfaulty 9\nupdates x 9 0 1 - 6b=61,6c=61,6d! - right\ngive 1 x\nget 1 6b\nget 1 6c\nget 1 6d\n") ≡ codes "updates x -> 9/0/1\ngive 1 x -> accepted 2 known 0 refused 0 bare\nget 1 6b -> 9/0/1=61\nget 1 6c -> 9/0/1=61\nget 1 6d -> 9/0/1!\n"
unfolding rest_of numeral number bytes_of inner list_of dep roster_entry signed_with is_covered candidates records_where values_behind candidate_parcels parcels fitting sent_for sent_foreign unvouched bundle_frames bundle_of bundle_answer sight content_checks opponent forked refused_as_convicted statement_checks proof_checks first_failed_check is_known answer_to due named_opponent added growth is_of_kind contradicts kind_of proof_of given_by take_frame fed_frame fed_byte fed ending_of report_of frame_at hello_leaf hello convicted_nodes lacking record_place hello_of leaves_of put_by_id by_id history_text history_hash places_where first_values has_id named prev_of is_convicted is_vouched holds_hash holds is_wanted points spent_by tips_of collides_by limit_of_own limit_of_put text_of_log firsts_behind orphan_behind past IsCausal precedes_named next_entries next_own leaf_count plain_root plain_signature plain_verifies birth own_put tagged record_text foreign_leaves full_with key_of is_signed given_as answer_to_text growth_of_text update_fields voucher_fields update_body voucher_body statement signed proof roster id_of_update id_of_statement hash_of_roster put_rising rising groups_behind groups_of new_vouchers limit_of_new limit_of_vouchers put_line get_line hello_line bundle_line give_line restart_line update_line voucher_line proof_line judge_line raw_line cut_line flip_line join_line stop_line verb_named text_of_schedule read_line schedule_of value_behind named_by text_of_check text_of_limit text_of_report served effect_of restart_by insert_by order_by latest_in run_of world_by host_in made_in referred seen_with put_host with_host all_of updated vouched_text proof_text flip_at standing_after event_result suite_of seed_of setup_of done_at_node pending_at done lines_of run_after printed world_of transcript_of sha256 first_words schedule rounds compress hash_after digest_bytes encode_with decode_pairs digits seen_under id_referred each_once write marked is_update_text is_hollow hollow_text puts_line updates_line hollow_line receipt_of is_checkpoint_key
a_value_goes_once = refl

-- a voucher for a text that is no update convicts its node, and one for an update doesn't
a_hollow_voucher_convicts : played (codes "depot schedule 1\nscheme plain 4\nnode 1\nfaulty 9\nraw t 00\nvoucher v 9 0 t\nhollow p v t\njudge p\ngive 1 p\nupdate x 9 1 1 - 6b 61 - right\ngive 1 x\ncut b x 9 120\nvoucher w 9 2 x\nhollow q w b\njudge q\n") ≡ codes "raw t -> 1 bytes\nvoucher v -> 9/0 ids 1\nhollow p -> NotUpdate\njudge p -> 9 NotUpdate\ngive 1 p -> accepted 1 known 0 refused 0 bare\nupdate x -> 9/1/1\ngive 1 x -> accepted 0 known 0 refused 2 bare\n refused 0 12 Convicted 9\n refused 1 14 Unwanted\ncut b -> 120 bytes\nvoucher w -> 9/2 ids 1\nhollow q -> NotUpdate\njudge q -> NotContradictory NotUpdate\n"
unfolding rest_of numeral number bytes_of inner list_of dep roster_entry signed_with is_covered candidates records_where values_behind candidate_parcels parcels fitting sent_for sent_foreign unvouched bundle_frames bundle_of bundle_answer sight content_checks opponent forked refused_as_convicted statement_checks proof_checks first_failed_check is_known answer_to due named_opponent added growth is_of_kind contradicts kind_of proof_of given_by take_frame fed_frame fed_byte fed ending_of report_of frame_at hello_leaf hello convicted_nodes lacking record_place hello_of leaves_of put_by_id by_id history_text history_hash places_where first_values has_id named prev_of is_convicted is_vouched holds_hash holds is_wanted points spent_by tips_of collides_by limit_of_own limit_of_put text_of_log firsts_behind orphan_behind past IsCausal precedes_named next_entries next_own leaf_count plain_root plain_signature plain_verifies birth own_put tagged record_text foreign_leaves full_with key_of is_signed given_as answer_to_text growth_of_text update_fields voucher_fields update_body voucher_body statement signed proof roster id_of_update id_of_statement hash_of_roster put_rising rising groups_behind groups_of new_vouchers limit_of_new limit_of_vouchers put_line get_line hello_line bundle_line give_line restart_line update_line voucher_line proof_line judge_line raw_line cut_line flip_line join_line stop_line verb_named text_of_schedule read_line schedule_of value_behind named_by text_of_check text_of_limit text_of_report served effect_of restart_by insert_by order_by latest_in run_of world_by host_in made_in referred seen_with put_host with_host all_of updated vouched_text proof_text flip_at standing_after event_result suite_of seed_of setup_of done_at_node pending_at done lines_of run_after printed world_of transcript_of sha256 first_words schedule rounds compress hash_after digest_bytes encode_with decode_pairs digits seen_under id_referred each_once write marked is_update_text is_hollow hollow_text puts_line updates_line hollow_line receipt_of is_checkpoint_key
a_hollow_voucher_convicts = refl

-- a plain label of no bytes can be vouched for, and a voucher that named nothing makes no proof
a_text_of_no_bytes_is_no_update : played (codes "depot schedule 1\nscheme plain 4\nnode 1\nfaulty 9\nraw t -\nvoucher v 9 0 t,t\nvoucher u 9 1 1.0\nhollow p u t\nhollow q v t\njudge q\n") ≡ codes "raw t -> 0 bytes\nvoucher v -> 9/0 ids 1\nvoucher u -> NoRef\nhollow p -> NoRef\nhollow q -> NotUpdate\njudge q -> 9 NotUpdate\n"
unfolding rest_of numeral number bytes_of inner list_of dep roster_entry signed_with is_covered candidates records_where values_behind candidate_parcels parcels fitting sent_for sent_foreign unvouched bundle_frames bundle_of bundle_answer sight content_checks opponent forked refused_as_convicted statement_checks proof_checks first_failed_check is_known answer_to due named_opponent added growth is_of_kind contradicts kind_of proof_of given_by take_frame fed_frame fed_byte fed ending_of report_of frame_at hello_leaf hello convicted_nodes lacking record_place hello_of leaves_of put_by_id by_id history_text history_hash places_where first_values has_id named prev_of is_convicted is_vouched holds_hash holds is_wanted points spent_by tips_of collides_by limit_of_own limit_of_put text_of_log firsts_behind orphan_behind past IsCausal precedes_named next_entries next_own leaf_count plain_root plain_signature plain_verifies birth own_put tagged record_text foreign_leaves full_with key_of is_signed given_as answer_to_text growth_of_text update_fields voucher_fields update_body voucher_body statement signed proof roster id_of_update id_of_statement hash_of_roster put_rising rising groups_behind groups_of new_vouchers limit_of_new limit_of_vouchers put_line get_line hello_line bundle_line give_line restart_line update_line voucher_line proof_line judge_line raw_line cut_line flip_line join_line stop_line verb_named text_of_schedule read_line schedule_of value_behind named_by text_of_check text_of_limit text_of_report served effect_of restart_by insert_by order_by latest_in run_of world_by host_in made_in referred seen_with put_host with_host all_of updated vouched_text proof_text flip_at standing_after event_result suite_of seed_of setup_of done_at_node pending_at done lines_of run_after printed world_of transcript_of sha256 first_words schedule rounds compress hash_after digest_bytes encode_with decode_pairs digits seen_under id_referred each_once write marked is_update_text is_hollow hollow_text puts_line updates_line hollow_line receipt_of is_checkpoint_key
a_text_of_no_bytes_is_no_update = refl

-- a put is settled at two of three nodes
a_put_is_settled : played (codes "depot schedule 1\nscheme plain 4\nnode 1\nnode 2\nnode 3\nput 1 6b 61\nhello 2 a\nbundle 1 a b\ngive 2 b\nreceipt 2 1.0\nreceipt 3 1.0\nsettled 1 1.0 1\nhello 1 c\nbundle 2 c d\ngive 1 d\nsettled 1 1.0 1\nreceipt 1 1.0\nsettled 1 1.0 2\n") ≡ codes "put 1 6b -> 0/1\nhello 2 a -> convicted 0 leaves 0 wanted 0\nbundle 1 a b -> proofs 0 vouchers 0 updates 1 values 1 whole\ngive 2 b -> accepted 2 known 0 refused 0 whole\nreceipt 2 -> 0/2\nreceipt 3 -> Unknown\nsettled 1 1.0 1 -> no\nhello 1 c -> convicted 0 leaves 1 wanted 0\nbundle 2 c d -> proofs 0 vouchers 0 updates 1 values 1 whole\ngive 1 d -> accepted 2 known 0 refused 0 whole\nsettled 1 1.0 1 -> yes\nreceipt 1 -> 1/3\nsettled 1 1.0 2 -> yes\n"
unfolding rest_of numeral number bytes_of inner list_of dep roster_entry signed_with is_covered candidates records_where values_behind candidate_parcels parcels fitting sent_for sent_foreign unvouched bundle_frames bundle_of bundle_answer sight content_checks opponent forked refused_as_convicted statement_checks proof_checks first_failed_check is_known answer_to due named_opponent added growth is_of_kind contradicts kind_of proof_of given_by take_frame fed_frame fed_byte fed ending_of report_of frame_at hello_leaf hello convicted_nodes lacking record_place hello_of leaves_of put_by_id by_id history_text history_hash places_where first_values has_id named prev_of is_convicted is_vouched holds_hash holds is_wanted points spent_by tips_of collides_by limit_of_own limit_of_put text_of_log firsts_behind orphan_behind past IsCausal precedes_named next_entries next_own leaf_count plain_root plain_signature plain_verifies birth own_put tagged record_text foreign_leaves full_with key_of is_signed given_as answer_to_text growth_of_text update_fields voucher_fields update_body voucher_body statement signed proof roster id_of_update id_of_statement hash_of_roster put_rising rising groups_behind groups_of new_vouchers limit_of_new limit_of_vouchers put_line get_line hello_line bundle_line give_line restart_line update_line voucher_line proof_line judge_line raw_line cut_line flip_line join_line stop_line verb_named text_of_schedule read_line schedule_of value_behind named_by text_of_check text_of_limit text_of_report served effect_of restart_by insert_by order_by latest_in run_of world_by host_in made_in referred seen_with put_host with_host all_of updated vouched_text proof_text flip_at standing_after event_result suite_of seed_of setup_of done_at_node pending_at done lines_of run_after printed world_of transcript_of sha256 first_words schedule rounds compress hash_after digest_bytes encode_with decode_pairs digits seen_under id_referred each_once receipt_of is_checkpoint_key receipt_key put_number numbers_rising no_receipt receipt_line settled_line
a_put_is_settled = refl
