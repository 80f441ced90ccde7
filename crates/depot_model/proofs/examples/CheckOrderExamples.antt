-- Worked examples of the order of the checks: each input fails two of them, and the earlier is reported.
use Rattle.std.proofs.Common.{◌≡◌, List, [], ◌∷◌, ◌++◌, Some, Result, Ok, Err, refl}
use Rattle.sha2.specs.Sha256.{sha256, first_words, schedule, rounds, compress, hash_after, digest_bytes}
use Rattle.depot_base.specs.Writes.{put_one}
use Rattle.depot_base.specs.Cursor.{numeral}
use Rattle.depot_base.specs.Format.{number, bytes_of, list_of}
use Rattle.depot_base.specs.Parts.{dep}
use Rattle.depot_base.specs.Zeros.{zeros}
use Rattle.depot_base.specs.declared.check.Check.TheVariants as check
use Rattle.depot_base.specs.declared.check.Check.{Check}
use Rattle.depot_base.specs.declared.record.Record.TheVariants.{OwnPut, OwnVoucher, Held}
use Rattle.depot_base.specs.declared.record.Record.{Record}
use Rattle.depot_base.specs.declared.statement.Signed.{Signed}
use Rattle.depot_base.specs.declared.statement.Statement.TheVariants as statement
use Rattle.depot_base.specs.declared.update.Dep.{Dep}
use Rattle.depot_base.specs.declared.update.Update.{Update}
use Rattle.depot_model.specs.checks.Checks.{sight, clock_low, content_checks, opponent, forked, refused_as_convicted, statement_checks, proof_checks, first_failed_check, is_known, answer_to, given_statement, given_value}
use Rattle.depot_model.specs.updates.Contradictions.{is_of_kind, contradicts, kind_of}
use Rattle.depot_model.specs.updates.History.{leaves_of, put_by_id, by_id, history_text, history_hash}
use Rattle.depot_model.specs.journals.Journal.{first_values, has_id, named, is_convicted, is_vouched, holds_hash, is_wanted}
use Rattle.depot_model.specs.updates.Order.{past}
use Rattle.depot_model.specs.texts.Roster.{key_of, is_signed}
use Rattle.depot_model.specs.texts.Texts.{update_fields, voucher_fields, update_body, statement, id_of_update, id_of_statement}
use Rattle.depot_model.specs.declared.taken.Taken.TheVariants.{New, Known}
use Rattle.depot_model.specs.declared.taken.Taken.{Taken}
use Rattle.depot_model.proofs.examples.Cast.{here, sign_as, signed_update, signed_voucher, forged, empty_history, first_of, one, two, two_id, two_entry, two_more, three, nine, nine_id, nine_entry, nine_seen, nine_more, nine_other, vouch, born, took, took_voucher, from_two, from_nine, nine_convicted}

abbrev answer : List Record → Signed → Result Taken Check
answer J s = answer_to here J (given_statement s)

abbrev answer_of : List Record → Update → Result Taken Check
answer_of J u = answer J (signed_update u)

-- the node that is looked at has its own first update
abbrev put_once : List Record
put_once = born ++ OwnPut one ((49 ∷ []) ∷ []) ∷ []

abbrev seven : Update
seven = first_of 7 55

-- an update of node 3 whose prev is that of node 2, as its entries may be
abbrev strange : List Dep → Update
strange deps = record (first_of 3 51) { seq = 1; clock = 2; prev = two_id; deps = deps }

abbrev misnamed : Dep
misnamed = record { writer = 2; clock = 0; id = two_id }

record WriterToSignature : Type 0 where
  -- an unknown writer is reported before what is here already, and before a signature
  pub unknown_first : answer_of (born ++ took seven ∷ []) seven ≡ Err (check.UnknownWriter 7)
  pub unknown_before_signature : answer born (forged seven) ≡ Err (check.UnknownWriter 7)
  -- what is here already before what is this node's own, and before a signature
  pub known_before_own : answer_of put_once one ≡ Ok Known
  pub known_before_signature : answer from_two (forged two) ≡ Ok Known
  -- a voucher too
  pub known_voucher : answer (born ++ took_voucher (vouch 3 0 (zeros ∷ [])) ∷ []) (sign_as 2 0 (statement.Voucher (vouch 3 0 (zeros ∷ [])))) ≡ Ok Known
  pub known_own_voucher : answer (born ++ OwnVoucher (vouch 1 0 (zeros ∷ [])) ∷ []) (signed_voucher (vouch 1 0 (zeros ∷ []))) ≡ Ok Known
  -- not another voucher of the same node
  pub other_voucher : answer (born ++ took_voucher (vouch 3 0 (zeros ∷ [])) ∷ []) (signed_voucher (vouch 3 1 (zeros ∷ []))) ≡ Ok New
  -- this node's own before a signature
  pub own_before_signature : answer born (forged one) ≡ Err (check.NotMine (id_of_update one))
  -- a signature before a parent
  pub signature_before_parent : answer born (forged two_more) ≡ Err (check.BadSignature 2)

writer_to_signature : WriterToSignature
unfolding sha256 first_words schedule rounds compress hash_after digest_bytes numeral bytes_of list_of number dep answer_to content_checks first_failed_check forked is_known opponent proof_checks refused_as_convicted sight statement_checks contradicts is_of_kind kind_of by_id history_hash history_text leaves_of put_by_id first_values has_id holds_hash is_convicted is_vouched is_wanted named past is_signed key_of id_of_statement id_of_update statement update_body update_fields voucher_fields
writer_to_signature = record { unknown_first = refl; unknown_before_signature = refl; known_before_own = refl; known_before_signature = refl; known_voucher = refl; known_own_voucher = refl; other_voucher = refl; own_before_signature = refl; signature_before_parent = refl }

record Parents : Type 0 where
  -- the prev is looked for before the entries
  pub prev_first : answer_of born (record three { prev = nine_id }) ≡ Err (check.Missing nine_id)
  -- the entries from the first on
  pub first_entry : answer_of born (record three { deps = two_entry ∷ nine_entry ∷ [] }) ≡ Err (check.Missing two_id)
  -- a parent that is missing before a wrong prev, and before a wrong entry
  pub missing_before_wrong_prev : answer_of from_two (strange (nine_entry ∷ [])) ≡ Err (check.Missing nine_id)
  pub missing_before_wrong_entry : answer_of from_two (record three { deps = misnamed ∷ nine_entry ∷ [] }) ≡ Err (check.Missing nine_id)
  -- the prev of another writer before a wrong entry
  pub prev_before_entry : answer_of from_two (strange (misnamed ∷ [])) ≡ Err (check.WrongDep 0)
  -- of wrong entries the first
  pub first_wrong : answer_of (from_two ++ took nine ∷ []) (record three { deps = misnamed ∷ record { writer = 9; clock = 0; id = nine_id } ∷ [] }) ≡ Err (check.WrongDep 1)
  -- a wrong prev, and a wrong entry, before a step back
  pub prev_before_step : answer_of from_two (record (strange []) { seq = 0 }) ≡ Err (check.WrongDep 0)
  pub entry_before_step : answer_of (from_two ++ took nine ∷ []) (record two_more { seq = 0; deps = record { writer = 9; clock = 0; id = nine_id } ∷ [] }) ≡ Err (check.WrongDep 1)

parents : Parents
unfolding sha256 first_words schedule rounds compress hash_after digest_bytes numeral bytes_of list_of number dep answer_to content_checks first_failed_check forked is_known opponent proof_checks refused_as_convicted sight statement_checks contradicts is_of_kind kind_of by_id history_hash history_text leaves_of put_by_id first_values has_id holds_hash is_convicted is_vouched is_wanted named past is_signed key_of id_of_statement id_of_update statement update_body update_fields voucher_fields
parents = record { prev_first = refl; first_entry = refl; missing_before_wrong_prev = refl; missing_before_wrong_entry = refl; prev_before_entry = refl; first_wrong = refl; prev_before_step = refl; entry_before_step = refl }

record ClocksToForks : Type 0 where
  -- a step back before a low clock, which it is too, and before a far one
  pub step_before_low : answer_of from_two (record two_more { clock = 1 }) ≡ Err (check.Backward two_id)
  pub step_before_far : answer_of from_two (record two_more { seq = 0; clock = 65538 }) ≡ Err (check.Backward two_id)
  -- the prev of which the clock isn't above is reported before an entry
  pub low_prev : clock_low (record two_more { clock = 1; deps = nine_entry ∷ [] }) (sight (two ∷ nine ∷ []) (record two_more { clock = 1; deps = nine_entry ∷ [] })) ≡ Some (check.ClockLow two_id)
  -- of entries the first
  pub low_entry : answer_of (from_two ++ took nine ∷ []) (record three { clock = 1; deps = two_entry ∷ nine_entry ∷ [] }) ≡ Err (check.ClockLow two_id)
  -- a low clock, and a far one, before a wrong history; neither can be low and far
  pub low_before_history : answer_of from_two (record three { clock = 1; history = zeros }) ≡ Err (check.ClockLow two_id)
  pub far_before_history : answer_of from_two (record three { clock = 65538; history = zeros }) ≡ Err (check.ClockFar 1)
  -- a wrong history before a fork, and before a conviction
  pub history_before_fork : answer_of from_nine (record nine_other { history = zeros }) ≡ Err (check.BadHistory zeros empty_history)
  pub history_before_conviction : answer_of nine_convicted (record nine_more { history = zeros }) ≡ Err (check.BadHistory zeros nine_seen)

clocks_to_forks : ClocksToForks
unfolding sha256 first_words schedule rounds compress hash_after digest_bytes numeral bytes_of list_of number dep answer_to content_checks first_failed_check forked is_known opponent proof_checks refused_as_convicted sight statement_checks contradicts is_of_kind kind_of by_id history_hash history_text leaves_of put_by_id first_values has_id holds_hash is_convicted is_vouched is_wanted named past is_signed key_of id_of_statement id_of_update statement update_body update_fields voucher_fields
clocks_to_forks = record { step_before_low = refl; step_before_far = refl; low_prev = refl; low_entry = refl; low_before_history = refl; far_before_history = refl; history_before_fork = refl; history_before_conviction = refl }

record ValuesAndAnswers : Type 0 where
  -- a value that is held before one that nothing names
  pub held_first : answer_to here (born ++ Held (50 ∷ []) ∷ []) (given_value (50 ∷ [])) ≡ Ok Known
  pub not_held : answer_to here born (given_value (50 ∷ [])) ≡ Err (check.Unwanted (sha256 (50 ∷ [])))
  pub new_value : answer_to here (born ++ took (record two { writes = put_one (107 ∷ []) (sha256 (50 ∷ [])) 1 }) ∷ []) (given_value (50 ∷ [])) ≡ Ok New
  -- statements that are new
  pub new_update : answer_of born two ≡ Ok New
  pub new_voucher : answer from_two (signed_voucher (vouch 3 0 (two_id ∷ []))) ≡ Ok New

values_and_answers : ValuesAndAnswers
unfolding sha256 first_words schedule rounds compress hash_after digest_bytes numeral bytes_of list_of number dep answer_to content_checks first_failed_check forked is_known opponent proof_checks refused_as_convicted sight statement_checks contradicts is_of_kind kind_of by_id history_hash history_text leaves_of put_by_id first_values has_id holds_hash is_convicted is_vouched is_wanted named past is_signed key_of id_of_statement id_of_update statement update_body update_fields voucher_fields
values_and_answers = record { held_first = refl; not_held = refl; new_value = refl; new_update = refl; new_voucher = refl }
