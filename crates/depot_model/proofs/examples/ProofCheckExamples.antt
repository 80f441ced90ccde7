-- Worked examples of the checks of proofs: each fails once, with what it carries, and each pair in its order.
use Rattle.std.proofs.Common.{◌≡◌, Option, Some, None, Ok, Err, refl}
use Rattle.sha2.specs.Sha256.{sha256, first_words, schedule, rounds, compress, hash_after, digest_bytes}
use Rattle.depot_base.specs.Cursor.{numeral}
use Rattle.depot_base.specs.Format.{number, bytes_of, list_of}
use Rattle.depot_base.specs.Parts.{dep}
use Rattle.depot_base.specs.declared.check.Check.TheVariants as check
use Rattle.depot_base.specs.declared.check.Check.{Check}
use Rattle.depot_base.specs.declared.proof.Kind.TheVariants.{SameNumber, SamePrev, Backward}
use Rattle.depot_base.specs.declared.proof.Proof.{Proof}
use Rattle.depot_base.specs.declared.statement.Signed.{Signed}
use Rattle.depot_model.specs.checks.Checks.{sight, content_checks, opponent, forked, refused_as_convicted, statement_checks, proof_checks, first_failed_check, is_known, answer_to, given_proof}
use Rattle.depot_model.specs.updates.Contradictions.{is_of_kind, contradicts, kind_of}
use Rattle.depot_model.specs.updates.History.{leaves_of, put_by_id, by_id, history_text, history_hash}
use Rattle.depot_model.specs.updates.Judgement.{points}
use Rattle.depot_model.specs.journals.Journal.{first_values, has_id, named, is_convicted, is_vouched, holds_hash, is_wanted}
use Rattle.depot_model.specs.updates.Order.{past}
use Rattle.depot_model.specs.texts.Roster.{key_of, is_signed}
use Rattle.depot_model.specs.texts.Texts.{update_fields, voucher_fields, update_body, statement, id_of_update, id_of_statement}
use Rattle.depot_model.specs.declared.taken.Taken.TheVariants.{New, Known}
use Rattle.depot_model.proofs.examples.Cast.{here, signed_update, forged, first_of, one, two, nine, nine_other, pair, against_nine, born, from_nine, nine_convicted}

abbrev says : Proof → Option Check
says p = first_failed_check here born (given_proof p)

abbrev seven : Signed
seven = signed_update (first_of 7 55)

record EachCheckOfAProof : Type 0 where
  pub passes : says against_nine ≡ None
  -- the writer of the first half, of the second half
  pub first_unknown : says (pair SameNumber seven (signed_update nine)) ≡ Some (check.UnknownWriter 7)
  pub second_unknown : says (pair SameNumber (signed_update nine) seven) ≡ Some (check.UnknownWriter 7)
  -- its signature, and the writer of that half
  pub first_unsigned : says (pair SameNumber (forged nine) (signed_update nine_other)) ≡ Some (check.BadSignature 9)
  pub second_unsigned : says (pair SameNumber (signed_update nine) (forged nine_other)) ≡ Some (check.BadSignature 9)
  pub second_of_two : says (pair SameNumber (signed_update nine) (forged two)) ≡ Some (check.BadSignature 2)
  -- two writers
  pub two_writers : says (pair SameNumber (signed_update two) (signed_update nine)) ≡ Some check.NotContradictory
  -- one body twice
  pub one_body : says (pair SameNumber (signed_update nine) (signed_update nine)) ≡ Some check.NotContradictory
  -- the greater body first
  pub wrong_order : says (pair SameNumber (signed_update nine_other) (signed_update nine)) ≡ Some check.NotContradictory
  -- no contradiction of this kind; of another that isn't the first of the table there is one
  pub wrong_kind : says (pair Backward (signed_update nine) (signed_update nine_other)) ≡ Some check.NotContradictory
  pub later_kind : says (pair SamePrev (signed_update nine) (signed_update nine_other)) ≡ None
  -- two statements of this node
  pub against_me : says (pair SameNumber (signed_update one) (signed_update (first_of 1 50))) ≡ Some check.AgainstMe

each_check_of_a_proof : EachCheckOfAProof
unfolding sha256 first_words schedule rounds compress hash_after digest_bytes numeral bytes_of list_of number dep content_checks first_failed_check forked opponent proof_checks points refused_as_convicted sight statement_checks contradicts is_of_kind kind_of by_id history_hash history_text leaves_of put_by_id is_convicted is_vouched is_wanted named past is_signed key_of id_of_statement id_of_update statement update_body update_fields voucher_fields
each_check_of_a_proof = record { passes = refl; first_unknown = refl; second_unknown = refl; first_unsigned = refl; second_unsigned = refl; second_of_two = refl; two_writers = refl; one_body = refl; wrong_order = refl; wrong_kind = refl; later_kind = refl; against_me = refl }

record OrderOfProofChecks : Type 0 where
  -- both writers before the signatures
  pub second_writer_before_signature : says (pair SameNumber (forged nine) seven) ≡ Some (check.UnknownWriter 7)
  -- the first half before the second
  pub first_writer : says (pair SameNumber seven (signed_update (first_of 8 55))) ≡ Some (check.UnknownWriter 7)
  pub first_signature : says (pair SameNumber (forged two) (forged nine)) ≡ Some (check.BadSignature 2)
  -- signatures before a contradiction
  pub signature_before_kind : says (pair SameNumber (signed_update nine_other) (forged nine)) ≡ Some (check.BadSignature 9)
  -- a contradiction before this node
  pub kind_before_me : says (pair SameNumber (signed_update one) (signed_update one)) ≡ Some check.NotContradictory

order_of_proof_checks : OrderOfProofChecks
unfolding sha256 first_words schedule rounds compress hash_after digest_bytes numeral bytes_of list_of number dep content_checks first_failed_check forked opponent proof_checks points refused_as_convicted sight statement_checks contradicts is_of_kind kind_of by_id history_hash history_text leaves_of put_by_id is_convicted is_vouched is_wanted named past is_signed key_of id_of_statement id_of_update statement update_body update_fields voucher_fields
order_of_proof_checks = record { second_writer_before_signature = refl; first_writer = refl; first_signature = refl; signature_before_kind = refl; kind_before_me = refl }

record KnownProofs : Type 0 where
  -- a proof against a convicted node is known, where no check fails
  pub known : answer_to here nine_convicted (given_proof against_nine) ≡ Ok Known
  pub unchecked : answer_to here nine_convicted (given_proof (pair SameNumber (forged nine) (signed_update nine_other))) ≡ Err (check.BadSignature 9)
  pub not_shown : answer_to here nine_convicted (given_proof (pair Backward (signed_update nine) (signed_update nine_other))) ≡ Err check.NotContradictory
  -- against another it is new
  pub new : answer_to here from_nine (given_proof against_nine) ≡ Ok New

known_proofs : KnownProofs
unfolding sha256 first_words schedule rounds compress hash_after digest_bytes numeral bytes_of list_of number dep answer_to content_checks first_failed_check forked is_known opponent proof_checks points refused_as_convicted sight statement_checks contradicts is_of_kind kind_of by_id history_hash history_text leaves_of put_by_id first_values has_id holds_hash is_convicted is_vouched is_wanted named past is_signed key_of id_of_statement id_of_update statement update_body update_fields voucher_fields
known_proofs = record { known = refl; unchecked = refl; not_shown = refl; new = refl }
