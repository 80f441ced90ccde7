-- Worked examples of what a journal grows by.
use Rattle.std.proofs.Common.{◌≡◌, List, [], ◌∷◌, ◌++◌, refl}
use Rattle.sha2.specs.Sha256.{sha256, first_words, schedule, rounds, compress, hash_after, digest_bytes}
use Rattle.depot_base.specs.Writes.{put_one}
use Rattle.depot_base.specs.Cursor.{numeral}
use Rattle.depot_base.specs.Format.{number, bytes_of, inner, list_of}
use Rattle.depot_base.specs.Parts.{dep}
use Rattle.depot_base.specs.Zeros.{zeros}
use Rattle.depot_base.specs.declared.proof.Kind.TheVariants.{SameNumber, SamePrev, Backward}
use Rattle.depot_base.specs.declared.record.Record.TheVariants.{Conviction, Held}
use Rattle.depot_base.specs.declared.record.Record.{Record}
use Rattle.depot_base.specs.declared.update.Update.{Update}
use Rattle.depot_model.specs.checks.Checks.{sight, content_checks, opponent, forked, refused_as_convicted, statement_checks, proof_checks, first_failed_check, is_known, answer_to, due, named_opponent, added, growth, given_statement, given_proof, given_value}
use Rattle.depot_model.specs.updates.Contradictions.{is_of_kind, contradicts, kind_of}
use Rattle.depot_model.specs.updates.Conviction.{proof_of}
use Rattle.depot_model.specs.updates.History.{leaves_of, put_by_id, by_id, history_text, history_hash}
use Rattle.depot_model.specs.updates.Judgement.{points}
use Rattle.depot_model.specs.journals.Journal.{first_values, has_id, named, is_convicted, is_vouched, holds_hash, is_wanted}
use Rattle.depot_model.specs.updates.Order.{past}
use Rattle.depot_model.specs.texts.Roster.{key_of, is_signed}
use Rattle.depot_model.specs.texts.Texts.{update_fields, voucher_fields, update_body, statement, id_of_update, id_of_statement}
use Rattle.depot_model.proofs.examples.Cast.{here, signed_update, signed_voucher, two, two_more, nine, nine_more, nine_other, vouch, pair, against_nine, born, took, took_voucher, from_two, from_nine, nine_convicted}

abbrev grows : List Record → Update → List Record
grows J u = growth here J (given_statement (signed_update u))

abbrev nine_twice : List Record
nine_twice = from_nine ++ took nine_more ∷ []

-- a third update of node 9 that steps back after the second
abbrev nine_back : Update
nine_back = record nine_more { seq = 0; clock = 3; prev = id_of_update nine_more }

-- one with the seq of the second and the prev of the first
abbrev nine_across : Update
nine_across = record nine_other { seq = 1 }

-- node 3 vouched for an update
abbrev vouched_by_three : Update → Record
vouched_by_three u = took_voucher (vouch 3 0 (id_of_update u ∷ []))

record WhatIsNew : Type 0 where
  pub an_update : grows born two ≡ took two ∷ []
  pub a_voucher : growth here born (given_statement (signed_voucher (vouch 3 0 (zeros ∷ [])))) ≡ took_voucher (vouch 3 0 (zeros ∷ [])) ∷ []
  pub a_proof : growth here born (given_proof against_nine) ≡ Conviction against_nine ∷ []
  pub a_value : growth here (born ++ took (record two { writes = put_one (107 ∷ []) (sha256 (50 ∷ [])) 1 }) ∷ []) (given_value (50 ∷ [])) ≡ Held (50 ∷ []) ∷ []

what_is_new : WhatIsNew
unfolding sha256 first_words schedule rounds compress hash_after digest_bytes numeral bytes_of inner list_of number dep added answer_to content_checks due first_failed_check forked growth is_known named_opponent opponent proof_checks points refused_as_convicted sight statement_checks contradicts is_of_kind kind_of proof_of by_id history_hash history_text leaves_of put_by_id first_values has_id holds_hash is_convicted is_vouched is_wanted named past is_signed key_of id_of_statement id_of_update statement update_body update_fields voucher_fields
what_is_new = record { an_update = refl; a_voucher = refl; a_proof = refl; a_value = refl }

record WhatLeavesNothing : Type 0 where
  -- what is known
  pub known_update : grows from_two two ≡ []
  pub known_proof : growth here nine_convicted (given_proof against_nine) ≡ []
  pub known_value : growth here (from_two ++ Held (50 ∷ []) ∷ []) (given_value (50 ∷ [])) ≡ []
  -- what is refused without a contradiction
  pub refused : grows born two_more ≡ []
  pub refused_value : growth here born (given_value (50 ∷ [])) ≡ []
  -- a fork and a step back of a writer that is convicted
  pub forked_again : grows nine_convicted nine_other ≡ []
  pub back_again : grows nine_convicted (record nine_more { seq = 0 }) ≡ []

what_leaves_nothing : WhatLeavesNothing
unfolding sha256 first_words schedule rounds compress hash_after digest_bytes numeral bytes_of inner list_of number dep added answer_to content_checks due first_failed_check forked growth is_known named_opponent opponent proof_checks points refused_as_convicted sight statement_checks contradicts is_of_kind kind_of proof_of by_id history_hash history_text leaves_of put_by_id first_values has_id holds_hash is_convicted is_vouched is_wanted named past is_signed key_of id_of_statement id_of_update statement update_body update_fields voucher_fields
what_leaves_nothing = record { known_update = refl; known_proof = refl; known_value = refl; refused = refl; refused_value = refl; forked_again = refl; back_again = refl }

record WhatAFaultLeaves : Type 0 where
  -- a fork: its writer is convicted, and the update isn't accepted
  pub a_fork : grows from_nine nine_other ≡ Conviction against_nine ∷ []
  -- whichever of the two came first, the smaller body comes first
  pub turned : grows (born ++ took nine_other ∷ []) nine ≡ Conviction against_nine ∷ []
  -- a voucher with the number of an update
  pub a_voucher_forks : growth here from_nine (given_statement (signed_voucher (vouch 9 0 (zeros ∷ [])))) ≡ Conviction (pair SameNumber (signed_update nine) (signed_voucher (vouch 9 0 (zeros ∷ [])))) ∷ []
  -- the first contradiction in the journal is reported, not the last
  pub the_first : grows nine_twice nine_across ≡ Conviction (pair SamePrev (signed_update nine) (signed_update nine_across)) ∷ []
  -- a step back: with its prev, though the update before contradicts it too
  pub a_step_back : grows nine_twice nine_back ≡ Conviction (pair Backward (signed_update nine_back) (signed_update nine_more)) ∷ []
  -- in the first kind in which the two contradict each other
  pub same_seq : grows from_nine (record nine_more { seq = 0 }) ≡ Conviction (pair SameNumber (signed_update nine) (signed_update (record nine_more { seq = 0 }))) ∷ []
  -- by the clock alone
  pub same_clock : grows from_nine (record nine_more { clock = 1 }) ≡ Conviction (pair Backward (signed_update nine) (signed_update (record nine_more { clock = 1 }))) ∷ []

what_a_fault_leaves : WhatAFaultLeaves
unfolding sha256 first_words schedule rounds compress hash_after digest_bytes numeral bytes_of inner list_of number dep added answer_to content_checks due first_failed_check forked growth is_known named_opponent opponent proof_checks points refused_as_convicted sight statement_checks contradicts is_of_kind kind_of proof_of by_id history_hash history_text leaves_of put_by_id first_values has_id holds_hash is_convicted is_vouched is_wanted named past is_signed key_of id_of_statement id_of_update statement update_body update_fields voucher_fields
what_a_fault_leaves = record { a_fork = refl; turned = refl; a_voucher_forks = refl; the_first = refl; a_step_back = refl; same_seq = refl; same_clock = refl }

record WhatIsVouchedFor : Type 0 where
  -- a contrary update that is vouched for: the conviction, and then the update
  pub both : grows (from_nine ++ vouched_by_three nine_other ∷ []) nine_other ≡ Conviction against_nine ∷ took nine_other ∷ []
  -- where its writer is convicted, the update alone
  pub alone : grows (nine_convicted ++ vouched_by_three nine_other ∷ []) nine_other ≡ took nine_other ∷ []
  -- nobody's contrary
  pub harmless : grows (born ++ vouched_by_three nine_other ∷ []) nine_other ≡ took nine_other ∷ []
  -- a step back is refused though it is vouched for
  pub still_refused : grows (from_nine ++ vouched_by_three (record nine_more { clock = 1 }) ∷ []) (record nine_more { clock = 1 }) ≡ Conviction (pair Backward (signed_update nine) (signed_update (record nine_more { clock = 1 }))) ∷ []

what_is_vouched_for : WhatIsVouchedFor
unfolding sha256 first_words schedule rounds compress hash_after digest_bytes numeral bytes_of inner list_of number dep added answer_to content_checks due first_failed_check forked growth is_known named_opponent opponent proof_checks points refused_as_convicted sight statement_checks contradicts is_of_kind kind_of proof_of by_id history_hash history_text leaves_of put_by_id first_values has_id holds_hash is_convicted is_vouched is_wanted named past is_signed key_of id_of_statement id_of_update statement update_body update_fields voucher_fields
what_is_vouched_for = record { both = refl; alone = refl; harmless = refl; still_refused = refl }
