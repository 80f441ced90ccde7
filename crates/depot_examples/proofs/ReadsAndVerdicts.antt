-- Worlds of schedules, computed: where each of a node's reads was made, over what it takes, a restart and a stop; and which proofs
-- were judged.
use Rattle.std.proofs.Common.{◌≡◌, ℕ, List, [], ◌∷◌, length, map, Ok, Err, codes, refl}
use Rattle.depot_base.specs.Closed.{rest_of}
use Rattle.depot_base.specs.Cursor.{numeral}
use Rattle.depot_base.specs.Format.{number, bytes_of, inner, list_of}
use Rattle.depot_base.specs.Parts.{dep, roster_entry, write, marked}
use Rattle.depot_model.specs.exchange.Bundle.{signed_with, is_covered, candidates, records_where, values_behind, candidate_parcels, parcels, fitting, sent_for, sent_foreign, unvouched, bundle_frames, bundle_of, bundle_answer}
use Rattle.depot_model.specs.readers.Checkpoints.{is_checkpoint_key}
use Rattle.depot_model.specs.checks.Checks.{sight, content_checks, opponent, forked, refused_as_convicted, statement_checks, proof_checks, first_failed_check, is_known, answer_to, due, named_opponent, added, growth}
use Rattle.depot_model.specs.updates.Contradictions.{is_of_kind, contradicts, kind_of, is_update_text, is_hollow}
use Rattle.depot_model.specs.updates.Conviction.{proof_of}
use Rattle.depot_model.specs.exchange.Feeding.{given_by, take_frame, fed_frame, fed_byte, fed, ending_of, report_of}
use Rattle.depot_model.specs.texts.Frames.{frame_at}
use Rattle.depot_model.specs.exchange.Hello.{hello_leaf, hello, convicted_nodes, lacking, record_place, hello_of}
use Rattle.depot_model.specs.updates.History.{leaves_of, put_by_id, by_id, history_text, history_hash}
use Rattle.depot_model.specs.lists.Items.{places_where}
use Rattle.depot_model.specs.journals.Journal.{first_values, has_id, named, prev_of, is_convicted, is_vouched, holds_hash, holds, seen_under, is_wanted}
use Rattle.depot_model.specs.updates.Judgement.{points}
use Rattle.depot_model.specs.checks.Limits.{spent_by, tips_of, collides_by, limit_of_own, limit_of_put}
use Rattle.depot_model.specs.texts.Log.{text_of_log, firsts_behind, orphan_behind}
use Rattle.depot_model.specs.updates.Order.{past, IsCausal}
use Rattle.depot_model.specs.checks.Own.{precedes_named, next_entries, next_own, leaf_count}
use Rattle.depot_model.specs.texts.Plain.{plain_root, plain_signature, plain_verifies}
use Rattle.depot_model.specs.texts.Records.{birth, own_put, tagged, record_text}
use Rattle.depot_model.specs.checks.Room.{foreign_leaves, full_with}
use Rattle.depot_model.specs.worlds.Receipts.{receipt_of}
use Rattle.depot_model.specs.texts.Roster.{key_of, is_signed}
use Rattle.depot_model.specs.checks.Taking.{given_as, answer_to_text, growth_of_text}
use Rattle.depot_model.specs.texts.Texts.{update_fields, voucher_fields, update_body, voucher_body, statement, signed, proof, roster, id_of_update, id_of_statement, hash_of_roster}
use Rattle.depot_model.specs.checks.Vouching.{put_rising, rising, groups_behind, groups_of, new_vouchers, limit_of_new, limit_of_vouchers}
use Rattle.depot_schedule.specs.EventLines.{put_line, puts_line, get_line, hello_line, bundle_line, give_line, restart_line, update_line, updates_line, voucher_line, proof_line, hollow_line, judge_line, raw_line, cut_line, flip_line, join_line, stop_line, verb_named}
use Rattle.depot_schedule.specs.Schedules.{text_of_schedule, read_line, schedule_of}
use Rattle.depot_lines.specs.Spelling.{value_behind}
use Rattle.depot_schedule.specs.EventWords.{named_by}
use Rattle.depot_answers.specs.AnswerTexts.{text_of_check, text_of_limit, text_of_report}
use Rattle.depot_requests.specs.Requests.{effect_of, served}
use Rattle.depot_world.specs.ScheduleStops.{restart_by}
use Rattle.depot_model.specs.updates.LatestList.{latest_in}
use Rattle.depot_model.specs.lists.Insertion.{insert_by, order_by}
use Rattle.depot_world.specs.Run.{run_of, world_by, host_in, made_in, referred, id_referred, seen_with, put_host, with_host}
use Rattle.depot_world.specs.FaultySigning.{all_of, each_once, updated, vouched_text, proof_text, hollow_text, flip_at}
use Rattle.depot_world.specs.ScheduleStops.{standing_after, event_result}
use Rattle.depot_world.specs.Setups.{suite_of, seed_of, setup_of}
use Rattle.depot_world.specs.Transcript.{done_at_node, pending_at, done, lines_of, run_after, printed, world_of, transcript_of}
use Rattle.sha2.specs.Sha256.{sha256, first_words, schedule, rounds, compress, hash_after, digest_bytes}
use Rattle.hex.specs.Hex.{encode_with, decode_pairs}
use Rattle.std.specs.Fmt.{digits}
use Rattle.depot_model.specs.worlds.World.{Correct, Read}

-- for each node how many records its journal has, and then how many it had at each of its reads
abbrev reads_in : List ℕ → List (List ℕ)
reads_in text = elim (schedule_of text) [
  | Ok s ↦ map (λ (c : Correct). length c.journal ∷ map (λ (r : Read). r.at) c.reads) (world_of s).nodes
  | Err e ↦ []
]

-- how many writes each of these reads shows
abbrev shown_in : List ℕ → List (List ℕ)
shown_in text = elim (schedule_of text) [
  | Ok s ↦ map (λ (c : Correct). map (λ (r : Read). length r.answer) c.reads) (world_of s).nodes
  | Err e ↦ []
]

-- how many proofs were judged
abbrev judged_in : List ℕ → ℕ
judged_in text = elim (schedule_of text) [ Ok s ↦ length (world_of s).judged | Err e ↦ 0 ]

-- the first node reads, puts, reads, sends, is started again, reads, stops in a put, and reads; the second reads, takes, and reads
abbrev two_nodes : List ℕ
two_nodes = codes "depot schedule 1\nscheme plain 4\nnode 1\nnode 2\nget 1 6b\nput 1 6b 61\nget 1 6b\nhello 2 a\nbundle 1 a b\nget 2 6b\ngive 2 b\nget 2 6b\nrestart 1\nget 1 6b\nstop 1 3 0\nput 1 6b 62\nget 1 6b\n"

record Reads : Type 0 where
  pub made : reads_in two_nodes ≡ (2 ∷ 1 ∷ 2 ∷ 2 ∷ 2 ∷ []) ∷ (3 ∷ 1 ∷ 3 ∷ []) ∷ []
  pub shown : shown_in two_nodes ≡ (0 ∷ 1 ∷ 1 ∷ 1 ∷ []) ∷ (0 ∷ 1 ∷ []) ∷ []

reads : Reads
unfolding receipt_of is_checkpoint_key rest_of numeral number bytes_of inner list_of dep roster_entry signed_with is_covered candidates records_where values_behind candidate_parcels parcels fitting sent_for sent_foreign unvouched bundle_frames bundle_of bundle_answer sight content_checks opponent forked refused_as_convicted statement_checks proof_checks first_failed_check is_known answer_to due named_opponent added growth is_of_kind contradicts kind_of proof_of given_by take_frame fed_frame fed_byte fed ending_of report_of frame_at hello_leaf hello convicted_nodes lacking record_place hello_of leaves_of put_by_id by_id history_text history_hash places_where first_values has_id named prev_of is_convicted is_vouched holds_hash holds is_wanted points spent_by tips_of collides_by limit_of_own limit_of_put text_of_log firsts_behind orphan_behind past IsCausal precedes_named next_entries next_own leaf_count plain_root plain_signature plain_verifies birth own_put tagged record_text foreign_leaves full_with key_of is_signed given_as answer_to_text growth_of_text update_fields voucher_fields update_body voucher_body statement signed proof roster id_of_update id_of_statement hash_of_roster put_rising rising groups_behind groups_of new_vouchers limit_of_new limit_of_vouchers put_line get_line hello_line bundle_line give_line restart_line update_line voucher_line proof_line judge_line raw_line cut_line flip_line join_line stop_line verb_named text_of_schedule read_line schedule_of value_behind named_by text_of_check text_of_limit text_of_report served effect_of restart_by insert_by order_by latest_in run_of world_by host_in made_in referred seen_with put_host with_host all_of updated vouched_text proof_text flip_at standing_after event_result suite_of seed_of setup_of done_at_node pending_at done lines_of run_after printed world_of transcript_of sha256 first_words schedule rounds compress hash_after digest_bytes encode_with decode_pairs digits seen_under id_referred each_once write marked is_update_text is_hollow hollow_text puts_line updates_line hollow_line
reads = record { made = refl; shown = refl }

-- of three events of a judge one has a verdict
one_verdict : judged_in (codes "depot schedule 1\nscheme plain 4\nnode 1\nfaulty 9\nupdate x 9 0 1 - 6b 61 - right\nupdate y 9 1 2 - 6b 62 - right\nproof p SamePrev x y\njudge p\nflip q p 326\njudge q\ncut a p 0 7\ncut f p 7 160\ncut s p 167 160\njoin t a s\njoin u t f\njudge u\n") ≡ 1
unfolding rest_of numeral number bytes_of inner list_of dep roster_entry signed_with is_covered candidates records_where values_behind candidate_parcels parcels fitting sent_for sent_foreign unvouched bundle_frames bundle_of bundle_answer sight content_checks opponent forked refused_as_convicted statement_checks proof_checks first_failed_check is_known answer_to due named_opponent added growth is_of_kind contradicts kind_of proof_of given_by take_frame fed_frame fed_byte fed ending_of report_of frame_at hello_leaf hello convicted_nodes lacking record_place hello_of leaves_of put_by_id by_id history_text history_hash places_where first_values has_id named prev_of is_convicted is_vouched holds_hash holds is_wanted points spent_by tips_of collides_by limit_of_own limit_of_put text_of_log firsts_behind orphan_behind past IsCausal precedes_named next_entries next_own leaf_count plain_root plain_signature plain_verifies birth own_put tagged record_text foreign_leaves full_with key_of is_signed given_as answer_to_text growth_of_text update_fields voucher_fields update_body voucher_body statement signed proof roster id_of_update id_of_statement hash_of_roster put_rising rising groups_behind groups_of new_vouchers limit_of_new limit_of_vouchers put_line get_line hello_line bundle_line give_line restart_line update_line voucher_line proof_line judge_line raw_line cut_line flip_line join_line stop_line verb_named text_of_schedule read_line schedule_of value_behind named_by text_of_check text_of_limit text_of_report served effect_of restart_by insert_by order_by latest_in run_of world_by host_in made_in referred seen_with put_host with_host all_of updated vouched_text proof_text flip_at standing_after event_result suite_of seed_of setup_of done_at_node pending_at done lines_of run_after printed world_of transcript_of sha256 first_words schedule rounds compress hash_after digest_bytes encode_with decode_pairs digits seen_under id_referred each_once write marked is_update_text is_hollow hollow_text puts_line updates_line hollow_line
one_verdict = refl

-- without one none is judged
no_verdict : judged_in (codes "depot schedule 1\nscheme plain 4\nnode 1\nraw a 00\njudge a\n") ≡ 0
unfolding rest_of numeral number bytes_of inner list_of dep roster_entry signed_with is_covered candidates records_where values_behind candidate_parcels parcels fitting sent_for sent_foreign unvouched bundle_frames bundle_of bundle_answer sight content_checks opponent forked refused_as_convicted statement_checks proof_checks first_failed_check is_known answer_to due named_opponent added growth is_of_kind contradicts kind_of proof_of given_by take_frame fed_frame fed_byte fed ending_of report_of frame_at hello_leaf hello convicted_nodes lacking record_place hello_of leaves_of put_by_id by_id history_text history_hash places_where first_values has_id named prev_of is_convicted is_vouched holds_hash holds is_wanted points spent_by tips_of collides_by limit_of_own limit_of_put text_of_log firsts_behind orphan_behind past IsCausal precedes_named next_entries next_own leaf_count plain_root plain_signature plain_verifies birth own_put tagged record_text foreign_leaves full_with key_of is_signed given_as answer_to_text growth_of_text update_fields voucher_fields update_body voucher_body statement signed proof roster id_of_update id_of_statement hash_of_roster put_rising rising groups_behind groups_of new_vouchers limit_of_new limit_of_vouchers put_line get_line hello_line bundle_line give_line restart_line update_line voucher_line proof_line judge_line raw_line cut_line flip_line join_line stop_line verb_named text_of_schedule read_line schedule_of value_behind named_by text_of_check text_of_limit text_of_report served effect_of restart_by insert_by order_by latest_in run_of world_by host_in made_in referred seen_with put_host with_host all_of updated vouched_text proof_text flip_at standing_after event_result suite_of seed_of setup_of done_at_node pending_at done lines_of run_after printed world_of transcript_of sha256 first_words schedule rounds compress hash_after digest_bytes encode_with decode_pairs digits seen_under id_referred each_once write marked is_update_text is_hollow hollow_text puts_line updates_line hollow_line
no_verdict = refl
