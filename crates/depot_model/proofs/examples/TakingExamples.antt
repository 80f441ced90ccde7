-- Worked examples of what is answered to a text, and of the journal after it.
use Rattle.std.proofs.Common.{◌≡◌, ℕ, List, [], ◌∷◌, ◌++◌, length, Ok, Err, refl, arith, rules}
use Rattle.sha2.specs.Sha256.{sha256, first_words, schedule, rounds, compress, hash_after, digest_bytes}
use Rattle.depot_base.specs.Closed.{rest_of}
use Rattle.depot_base.specs.Cursor.{numeral}
use Rattle.depot_base.specs.Format.{number, bytes_of, inner, list_of}
use Rattle.depot_base.specs.Parts.{dep, roster_entry}
use Rattle.depot_base.specs.declared.check.Check.TheVariants as check
use Rattle.depot_base.specs.declared.proof.Kind.TheVariants.{SameNumber}
use Rattle.depot_model.specs.checks.Checks.{sight, content_checks, opponent, forked, refused_as_convicted, statement_checks, proof_checks, first_failed_check, is_known, answer_to, due, named_opponent, added, growth}
use Rattle.depot_model.specs.updates.Contradictions.{is_of_kind, contradicts, kind_of}
use Rattle.depot_model.specs.updates.Conviction.{proof_of}
use Rattle.depot_model.specs.updates.History.{leaves_of, put_by_id, by_id, history_text, history_hash}
use Rattle.depot_model.specs.updates.Judgement.{points}
use Rattle.depot_model.specs.journals.Journal.{first_values, has_id, named, is_convicted, is_vouched, holds_hash, is_wanted}
use Rattle.depot_model.specs.updates.Order.{past}
use Rattle.depot_model.specs.texts.Records.{birth, own_put, tagged, record_text}
use Rattle.depot_model.specs.checks.Room.{foreign_leaves, full_with}
use Rattle.depot_model.specs.texts.Roster.{key_of, is_signed}
use Rattle.depot_model.specs.checks.Taking.{TakesStatement, TakesValue}
use Rattle.depot_model.specs.texts.Texts.{update_fields, voucher_fields, update_body, voucher_body, statement, signed, proof, roster, text_of_signed, id_of_update, id_of_statement}
use Rattle.depot_model.specs.declared.taken.TakeError.TheVariants as refused
use Rattle.depot_model.specs.declared.taken.Taken.TheVariants.{New, Known}
use Rattle.depot_model.proofs.examples.Cast.{here, signed_update, two, nine_id, nine_other, born, took, from_two, from_nine, nine_convicted}

abbrev two_text : List ℕ
two_text = text_of_signed (signed_update two)

-- ---- a statement

takes : TakesStatement here born two_text (Ok New) (born ++ took two ∷ [])
unfolding sha256 first_words schedule rounds compress hash_after digest_bytes rest_of numeral bytes_of inner list_of number dep roster_entry added answer_to content_checks due first_failed_check forked growth is_known named_opponent opponent proof_checks points refused_as_convicted sight statement_checks contradicts is_of_kind kind_of proof_of by_id history_hash history_text leaves_of put_by_id first_values has_id holds_hash is_convicted is_vouched is_wanted named past birth own_put record_text tagged foreign_leaves full_with is_signed key_of id_of_statement id_of_update proof roster signed statement update_body update_fields voucher_body voucher_fields
takes = (signed_update two, (search rules, (refl, record { is = refl; room = refl; grown = refl })))

-- what is known leaves the journal
takes_again : TakesStatement here from_two two_text (Ok Known) from_two
unfolding sha256 first_words schedule rounds compress hash_after digest_bytes rest_of numeral bytes_of inner list_of number dep roster_entry added answer_to content_checks due first_failed_check forked growth is_known named_opponent opponent proof_checks points refused_as_convicted sight statement_checks contradicts is_of_kind kind_of proof_of by_id history_hash history_text leaves_of put_by_id first_values has_id holds_hash is_convicted is_vouched is_wanted named past birth own_put record_text tagged foreign_leaves full_with is_signed key_of id_of_statement id_of_update proof roster signed statement update_body update_fields voucher_body voucher_fields
takes_again = (signed_update two, (search rules, (refl, record { is = refl; room = refl; grown = refl })))

-- what is refused with a contradiction leaves a conviction
takes_a_fork : TakesStatement here from_nine (text_of_signed (signed_update nine_other)) (Err (refused.Refused (check.Forked nine_id (id_of_update nine_other) SameNumber))) nine_convicted
unfolding sha256 first_words schedule rounds compress hash_after digest_bytes rest_of numeral bytes_of inner list_of number dep roster_entry added answer_to content_checks due first_failed_check forked growth is_known named_opponent opponent proof_checks points refused_as_convicted sight statement_checks contradicts is_of_kind kind_of proof_of by_id history_hash history_text leaves_of put_by_id first_values has_id holds_hash is_convicted is_vouched is_wanted named past birth own_put record_text tagged foreign_leaves full_with is_signed key_of id_of_statement id_of_update proof roster signed statement update_body update_fields voucher_body voucher_fields
takes_a_fork = (signed_update nine_other, (search rules, (refl, record { is = refl; room = refl; grown = refl })))

-- memory may always be short, and then nothing is appended
no_memory : TakesStatement here born two_text (Err refused.Memory) born
no_memory = refl

-- ---- a value

-- a value of 65,537 bytes is no text of one: the fault is at 65,536
too_long : (v : List ℕ) → length v ≡ 65537 → TakesValue here born v (Err (refused.Refused (check.IllFormed 65536))) born
unfolding rest_of
too_long v e = ((omega (arith, e), refl), refl)

-- a shorter one has no fault
long_enough : (v : List ℕ) → length v ≡ 65536 → TakesValue here born v (Err (refused.Refused (check.IllFormed 65536))) born → ⊥
unfolding rest_of
long_enough v e t = omega (arith, e, t.0.0)

-- ---- a disk that fails

-- the record isn't there
cut : TakesStatement here born two_text (Err refused.Disk) born
unfolding sha256 first_words schedule rounds compress hash_after digest_bytes rest_of numeral bytes_of inner list_of number dep roster_entry added answer_to content_checks due first_failed_check forked growth is_known named_opponent opponent proof_checks points refused_as_convicted sight statement_checks contradicts is_of_kind kind_of proof_of by_id history_hash history_text leaves_of put_by_id first_values has_id holds_hash is_convicted is_vouched is_wanted named past birth own_put record_text tagged foreign_leaves full_with is_signed key_of id_of_statement id_of_update proof roster signed statement update_body update_fields voucher_body voucher_fields
cut = (signed_update two, (search rules, (refl, record { room = refl; cut = record { count = 0; fewer = omega arith; grown = refl } })))
