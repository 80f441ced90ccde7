-- Meetings of nodes that went on meanwhile, computed: one that put since its hello, and one that put since its bundle.
-- The law of histories that rejoin covers them too.
use Rattle.std.proofs.Common.{◌≡◌, List, [], ◌∷◌, ◌++◌, false, None, refl, sym, ap, subst, ◌∙◌, inl, inr, arith}
use Rattle.std.proofs.lemmas.List.{append-nil}
use Rattle.sha2.specs.Sha256.{sha256, first_words, schedule, rounds, compress, hash_after, digest_bytes}
use Rattle.depot_base.specs.Closed.{rest_of}
use Rattle.depot_base.specs.Cursor.{numeral}
use Rattle.depot_base.specs.Format.{number, bytes_of, inner, list_of}
use Rattle.depot_base.specs.Parts.{dep, roster_entry}
use Rattle.depot_base.specs.declared.voucher.Voucher.{Voucher}
use Rattle.depot_base.specs.declared.record.Record.TheVariants.{OwnPut}
use Rattle.depot_model.specs.exchange.Bundle.{Bundle, signed_with, is_covered, candidates, values_behind, candidate_parcels, parcels, fitting, sent_for, sent_foreign, unvouched, bundle_frames, bundle_of, bundle_answer, bytes_of_bundle, with_vouchers}
use Rattle.depot_model.specs.updates.Judgement.{points}
use Rattle.depot_model.specs.checks.Checks.{sight, content_checks, opponent, forked, refused_as_convicted, statement_checks, proof_checks, first_failed_check, is_known, answer_to, due, named_opponent, added, growth}
use Rattle.depot_model.specs.updates.Contradictions.{is_of_kind, contradicts, kind_of}
use Rattle.depot_model.specs.updates.Conviction.{proof_of}
use Rattle.depot_model.specs.exchange.Feeding.{given_by, take_frame, fed_frame, fed_byte, fed, ending_of, report_of, feeding_from, out_of_room}
use Rattle.depot_model.specs.texts.Frames.{frame_at}
use Rattle.depot_model.specs.exchange.Hello.{hello_leaf, hello, convicted_nodes, lacking, hello_of}
use Rattle.depot_model.specs.updates.History.{leaves_of, put_by_id, by_id, history_text, history_hash}
use Rattle.depot_model.specs.journals.Journal.{own, first_values, has_id, named, prev_of, is_convicted, is_vouched, holds_hash, holds, is_wanted}
use Rattle.depot_model.specs.checks.Limits.{spent_by, tips_of, collides_by, limit_of_own, limit_of_put}
use Rattle.depot_model.specs.lists.Lists.{IsIn}
use Rattle.depot_model.specs.updates.Order.{past}
use Rattle.depot_model.specs.checks.Own.{precedes_named, next_entries, next_own, leaf_count}
use Rattle.depot_model.specs.texts.Plain.{plain_root, plain_signature, plain_verifies}
use Rattle.depot_model.specs.texts.Records.{birth, own_put, tagged, record_text}
use Rattle.depot_model.specs.checks.Room.{foreign_leaves, full_with}
use Rattle.depot_model.specs.texts.Roster.{key_of, is_signed}
use Rattle.depot_model.specs.texts.Texts.{update_fields, voucher_fields, update_body, voucher_body, statement, signed, proof, roster, id_of_update, id_of_statement, hash_of_roster}
use Rattle.depot_model.specs.checks.Taking.{given_as}
use Rattle.depot_model.specs.checks.Vouching.{put_rising, rising, groups_behind, groups_of, new_vouchers, limit_of_new, limit_of_vouchers}
use Rattle.depot_model.specs.worlds.World.{setting_of}
use Rattle.depot_laws.specs.Streams.{fed_pieces}
use Rattle.depot_laws.specs.Rejoin.{bundle_at, Meet, HasRejoined}
use Rattle.depot_laws.proofs.exchanges.RejoinLaw.{rejoins}
use Rattle.depot_laws.proofs.of_worlds.TwoNodes.{all_verify, newborn, u, value, first_journal, first_node}
use Rattle.depot_laws.specs.Rejoin.{Hears}
use Rattle.depot_laws.proofs.exchanges.Newcomer.{newcomer, two_meet, sign, is_world, is_authentic, is_collision_free, not_some}

-- ---- a reader that put since its hello

-- the first node made its hello at its birth; the newcomer has nothing for it
abbrev for_the_first : Bundle
for_the_first = bundle_at two_meet first_node newcomer sign (newborn 1) (newborn 2)

record IsEmptyForTheFirst : Type 0 where
  pub vouchers : for_the_first.vouchers ≡ []
  pub more : for_the_first.more ≡ false
  pub closed : (fed_pieces (setting_of two_meet first_node) (feeding_from first_journal) (bytes_of_bundle for_the_first ∷ [])).closed ≡ None

is_empty_for_the_first : IsEmptyForTheFirst
unfolding rest_of given_as numeral number bytes_of inner list_of dep roster_entry signed_with is_covered candidates values_behind candidate_parcels parcels fitting sent_for sent_foreign unvouched bundle_frames bundle_of bundle_answer sight content_checks opponent forked refused_as_convicted statement_checks proof_checks points first_failed_check is_known answer_to due named_opponent added growth is_of_kind contradicts kind_of proof_of given_by take_frame fed_frame fed_byte fed ending_of report_of frame_at hello_leaf hello convicted_nodes lacking hello_of leaves_of put_by_id by_id history_text history_hash first_values has_id named prev_of is_convicted is_vouched holds_hash holds is_wanted spent_by tips_of collides_by limit_of_own limit_of_put past precedes_named next_entries next_own leaf_count plain_root plain_signature plain_verifies birth own_put tagged record_text foreign_leaves full_with key_of is_signed update_fields voucher_fields update_body voucher_body statement signed proof roster id_of_update id_of_statement hash_of_roster put_rising rising groups_behind groups_of new_vouchers limit_of_new limit_of_vouchers sha256 first_words schedule rounds compress hash_after digest_bytes u all_verify
is_empty_for_the_first = record { vouchers = refl; more = refl; closed = refl }

first_hears : Hears two_meet first_node newcomer (newborn 1) (newborn 2)
first_hears = record { reader = inl refl; sender = inr (inl refl); distinct = λ e. omega arith; later = OwnPut u (value ∷ []) ∷ []; hello_was = refl; since = []; had = refl }

first_meets : Meet two_meet first_node newcomer sign (newborn 1) (newborn 2)
first_meets = record {
  reader = inl refl;
  sender = inr (inl refl);
  distinct = λ e. omega arith;
  later = OwnPut u (value ∷ []) ∷ [];
  hello_was = refl;
  since = [];
  bundle_was = ap (λ (vs : List Voucher). with_vouchers (newborn 2) vs ++ []) (sym is_empty_for_the_first.vouchers);
  signs = λ s on framed. absurd (subst (λ (vs : List Voucher). IsIn s (own (with_vouchers (newborn 2) vs))) is_empty_for_the_first.vouchers on);
}

first_has_rejoined : HasRejoined two_meet first_node newcomer sign (newborn 1) (newborn 2) (fed_pieces (setting_of two_meet first_node) (feeding_from first_journal) (bytes_of_bundle for_the_first ∷ []))
first_has_rejoined = rejoins two_meet is_world is_authentic is_collision_free first_node newcomer sign (newborn 1) (newborn 2) first_meets is_empty_for_the_first.more (bytes_of_bundle for_the_first ∷ []) (append-nil _) (λ what e. not_some (out_of_room what) (sym is_empty_for_the_first.closed ∙ e))

-- ---- a sender that put since its bundle

-- the first node made its bundle at its birth, and then put
abbrev for_the_newcomer : Bundle
for_the_newcomer = bundle_at two_meet newcomer first_node sign (newborn 2) (newborn 1)

record IsEmptyForTheNewcomer : Type 0 where
  pub vouchers : for_the_newcomer.vouchers ≡ []
  pub more : for_the_newcomer.more ≡ false
  pub closed : (fed_pieces (setting_of two_meet newcomer) (feeding_from (newborn 2)) (bytes_of_bundle for_the_newcomer ∷ [])).closed ≡ None

is_empty_for_the_newcomer : IsEmptyForTheNewcomer
unfolding rest_of given_as numeral number bytes_of inner list_of dep roster_entry signed_with is_covered candidates values_behind candidate_parcels parcels fitting sent_for sent_foreign unvouched bundle_frames bundle_of bundle_answer sight content_checks opponent forked refused_as_convicted statement_checks proof_checks points first_failed_check is_known answer_to due named_opponent added growth is_of_kind contradicts kind_of proof_of given_by take_frame fed_frame fed_byte fed ending_of report_of frame_at hello_leaf hello convicted_nodes lacking hello_of leaves_of put_by_id by_id history_text history_hash first_values has_id named prev_of is_convicted is_vouched holds_hash holds is_wanted spent_by tips_of collides_by limit_of_own limit_of_put past precedes_named next_entries next_own leaf_count plain_root plain_signature plain_verifies birth own_put tagged record_text foreign_leaves full_with key_of is_signed update_fields voucher_fields update_body voucher_body statement signed proof roster id_of_update id_of_statement hash_of_roster put_rising rising groups_behind groups_of new_vouchers limit_of_new limit_of_vouchers sha256 first_words schedule rounds compress hash_after digest_bytes u all_verify
is_empty_for_the_newcomer = record { vouchers = refl; more = refl; closed = refl }

newcomer_hears : Hears two_meet newcomer first_node (newborn 2) (newborn 1)
newcomer_hears = record { reader = inr (inl refl); sender = inl refl; distinct = λ e. omega arith; later = []; hello_was = refl; since = OwnPut u (value ∷ []) ∷ []; had = refl }

newcomer_meets : Meet two_meet newcomer first_node sign (newborn 2) (newborn 1)
newcomer_meets = record {
  reader = inr (inl refl);
  sender = inl refl;
  distinct = λ e. omega arith;
  later = [];
  hello_was = refl;
  since = OwnPut u (value ∷ []) ∷ [];
  bundle_was = ap (λ (vs : List Voucher). with_vouchers (newborn 1) vs ++ OwnPut u (value ∷ []) ∷ []) (sym is_empty_for_the_newcomer.vouchers);
  signs = λ s on framed. absurd (subst (λ (vs : List Voucher). IsIn s (own (with_vouchers (newborn 1) vs))) is_empty_for_the_newcomer.vouchers on);
}

newcomer_has_rejoined : HasRejoined two_meet newcomer first_node sign (newborn 2) (newborn 1) (fed_pieces (setting_of two_meet newcomer) (feeding_from (newborn 2)) (bytes_of_bundle for_the_newcomer ∷ []))
newcomer_has_rejoined = rejoins two_meet is_world is_authentic is_collision_free newcomer first_node sign (newborn 2) (newborn 1) newcomer_meets is_empty_for_the_newcomer.more (bytes_of_bundle for_the_newcomer ∷ []) (append-nil _) (λ what e. not_some (out_of_room what) (sym is_empty_for_the_newcomer.closed ∙ e))
