-- Worked examples of the checks of statements and values: each fails once, with what it carries written out, and its
-- nearest neighbour passes.
use Rattle.std.proofs.Common.{◌≡◌, ℕ, List, [], ◌∷◌, ◌++◌, Option, Some, None, refl}
use Rattle.sha2.specs.Sha256.{sha256, first_words, schedule, rounds, compress, hash_after, digest_bytes}
use Rattle.depot_base.specs.Writes.{put_one}
use Rattle.depot_base.specs.Cursor.{numeral}
use Rattle.depot_base.specs.Format.{number, bytes_of, list_of}
use Rattle.depot_base.specs.Parts.{dep}
use Rattle.depot_base.specs.Zeros.{zeros}
use Rattle.depot_base.specs.declared.check.Check.TheVariants as check
use Rattle.depot_base.specs.declared.check.Check.{Check}
use Rattle.depot_base.specs.declared.record.Record.{Record}
use Rattle.depot_base.specs.declared.statement.Statement.TheVariants as statement
use Rattle.depot_base.specs.declared.update.Dep.{Dep}
use Rattle.depot_base.specs.declared.update.Update.{Update}
use Rattle.depot_base.specs.declared.voucher.Voucher.{Voucher}
use Rattle.depot_model.specs.checks.Checks.{sight, content_checks, opponent, forked, refused_as_convicted, statement_checks, proof_checks, first_failed_check, given_statement, given_value}
use Rattle.depot_model.specs.updates.Contradictions.{is_of_kind, contradicts, kind_of}
use Rattle.depot_model.specs.updates.History.{leaves_of, put_by_id, by_id, history_text, history_hash}
use Rattle.depot_model.specs.journals.Journal.{named, is_convicted, is_vouched, is_wanted}
use Rattle.depot_model.specs.updates.Order.{past}
use Rattle.depot_model.specs.checks.Own.{entry_of}
use Rattle.depot_model.specs.texts.Roster.{key_of, is_signed}
use Rattle.depot_model.specs.texts.Texts.{update_fields, voucher_fields, update_body, statement, text_of_statement, id_of_update, id_of_statement}
use Rattle.depot_model.proofs.examples.Cast.{here, sign_as, signed_update, signed_voucher, forged, first_of, one, two, two_id, two_entry, two_seen, two_more, three, nine, nine_id, nine_entry, nine_more, vouch, born, took, from_two}

-- the first check that an update fails which its writer signed
abbrev says : List Record → Update → Option Check
says J u = first_failed_check here J (given_statement (signed_update u))

abbrev says_of_voucher : List Record → Voucher → Option Check
says_of_voucher J v = first_failed_check here J (given_statement (signed_voucher v))

-- ---- who signed what

record WritersAndSignatures : Type 0 where
  -- a first update of another node passes
  pub passes : says born two ≡ None
  -- the roster has no node 7; its number is reported
  pub unknown : says born (first_of 7 55) ≡ Some (check.UnknownWriter 7)
  -- what names this node isn't taken from others; its id is reported
  pub not_mine : says born one ≡ Some (check.NotMine (id_of_update one))
  -- nor is a voucher
  pub not_my_voucher : says_of_voucher born (vouch 1 0 (zeros ∷ [])) ≡ Some (check.NotMine (sha256 (text_of_statement (statement.Voucher (vouch 1 0 (zeros ∷ []))))))
  -- no signature; the writer is reported
  pub bad_signature : first_failed_check here born (given_statement (forged two)) ≡ Some (check.BadSignature 2)
  -- that of another node
  pub others_signature : first_failed_check here born (given_statement (sign_as 3 0 (statement.Update two))) ≡ Some (check.BadSignature 2)
  -- that of another leaf
  pub other_leaf : first_failed_check here born (given_statement (sign_as 2 1 (statement.Update two))) ≡ Some (check.BadSignature 2)
  -- the last leaf of the tree, and the one after it
  pub last_leaf : says born (record two { seq = 3 }) ≡ None
  pub no_leaf : says born (record two { seq = 4 }) ≡ Some (check.BadSignature 2)

writers_and_signatures : WritersAndSignatures
unfolding sha256 first_words schedule rounds compress hash_after digest_bytes numeral bytes_of list_of number dep content_checks first_failed_check forked opponent proof_checks refused_as_convicted sight statement_checks contradicts is_of_kind kind_of by_id history_hash history_text leaves_of put_by_id is_convicted is_vouched is_wanted named past is_signed key_of id_of_statement id_of_update statement update_body update_fields voucher_fields
writers_and_signatures = record { passes = refl; unknown = refl; not_mine = refl; not_my_voucher = refl; bad_signature = refl; others_signature = refl; other_leaf = refl; last_leaf = refl; no_leaf = refl }

-- ---- what is named

abbrev from_two_and_nine : List Record
from_two_and_nine = from_two ++ took nine ∷ []

-- an update of node 3 with these entries, at this clock
abbrev named_by_three : ℕ → List Dep → Update
named_by_three clock deps = record (first_of 3 51) { clock = clock; deps = deps }

record NamedUpdates : Type 0 where
  -- the prev is accepted, and here it isn't: its id is reported
  pub prev_is_here : says from_two two_more ≡ None
  pub prev_is_missing : says born two_more ≡ Some (check.Missing two_id)
  -- the same for an entry
  pub entry_is_here : says from_two three ≡ None
  pub entry_is_missing : says born three ≡ Some (check.Missing two_id)
  -- 32 zero bytes name nothing as a prev, and as an entry an update that isn't here
  pub zeros_as_entry : says born (named_by_three 2 (record { writer = 2; clock = 1; id = zeros } ∷ [])) ≡ Some (check.Missing zeros)
  -- the prev is another writer's: place 0
  pub prev_of_another : says from_two (record two_more { writer = 3 }) ≡ Some (check.WrongDep 0)
  -- an entry has another writer than the update that it names, or another clock: its place, from 1
  pub wrong_writer : says from_two (named_by_three 2 (record { writer = 9; clock = 1; id = two_id } ∷ [])) ≡ Some (check.WrongDep 1)
  pub wrong_clock : says from_two (named_by_three 2 (record { writer = 2; clock = 0; id = two_id } ∷ [])) ≡ Some (check.WrongDep 1)
  -- the second entry
  pub second_wrong : says from_two_and_nine (named_by_three 2 (two_entry ∷ record { writer = 9; clock = 7; id = nine_id } ∷ [])) ≡ Some (check.WrongDep 2)

named_updates : NamedUpdates
unfolding sha256 first_words schedule rounds compress hash_after digest_bytes numeral bytes_of list_of number dep content_checks first_failed_check forked opponent proof_checks refused_as_convicted sight statement_checks contradicts is_of_kind kind_of by_id history_hash history_text leaves_of put_by_id is_convicted is_vouched is_wanted named past is_signed key_of id_of_statement id_of_update statement update_body update_fields voucher_fields
named_updates = record { prev_is_here = refl; prev_is_missing = refl; entry_is_here = refl; entry_is_missing = refl; zeros_as_entry = refl; prev_of_another = refl; wrong_writer = refl; wrong_clock = refl; second_wrong = refl }

-- ---- seqs and clocks

abbrev with_nine_more : List Record
with_nine_more = from_two ++ took nine ∷ took nine_more ∷ []

record SeqsAndClocks : Type 0 where
  -- the seq is the prev's, the clock is: the prev's id is reported
  pub seq_stays : says from_two (record two_more { seq = 0 }) ≡ Some (check.Backward two_id)
  pub clock_stays : says from_two (record two_more { clock = 1 }) ≡ Some (check.Backward two_id)
  -- a seq may be left out
  pub seq_jumps : says from_two (record two_more { seq = 3 }) ≡ None
  -- the clock isn't above that of an entry, whose id is reported
  pub clock_low : says from_two (record three { clock = 1 }) ≡ Some (check.ClockLow two_id)
  -- nor above that of the second
  pub second_low : says with_nine_more (named_by_three 2 (two_entry ∷ entry_of nine_more ∷ [])) ≡ Some (check.ClockLow (id_of_update nine_more))
  -- the greatest clock that may follow no parent, and one more
  pub far_alone : says born (record two { clock = 65536 }) ≡ None
  pub too_far_alone : says born (record two { clock = 65537 }) ≡ Some (check.ClockFar 0)
  -- that may follow a parent of clock 1
  pub far : says from_two (record three { clock = 65537 }) ≡ None
  pub too_far : says from_two (record three { clock = 65538 }) ≡ Some (check.ClockFar 1)

seqs_and_clocks : SeqsAndClocks
unfolding sha256 first_words schedule rounds compress hash_after digest_bytes numeral bytes_of list_of number dep content_checks first_failed_check forked opponent proof_checks refused_as_convicted sight statement_checks contradicts is_of_kind kind_of by_id history_hash history_text leaves_of put_by_id is_convicted is_vouched is_wanted named past is_signed key_of id_of_statement id_of_update statement update_body update_fields voucher_fields
seqs_and_clocks = record { seq_stays = refl; clock_stays = refl; seq_jumps = refl; clock_low = refl; second_low = refl; far_alone = refl; too_far_alone = refl; far = refl; too_far = refl }

record GreatestOfSeveral : Type 0 where
  -- the greatest clock of the parents, where it is the last entry's, the first's, the prev's
  pub of_last : says with_nine_more (named_by_three 65539 (two_entry ∷ entry_of nine_more ∷ [])) ≡ Some (check.ClockFar 2)
  pub of_first : says (from_two ++ took two_more ∷ took nine ∷ []) (named_by_three 65539 (entry_of two_more ∷ nine_entry ∷ [])) ≡ Some (check.ClockFar 2)
  pub of_prev : says with_nine_more (record nine_more { seq = 2; clock = 65539; prev = id_of_update nine_more; deps = two_entry ∷ [] }) ≡ Some (check.ClockFar 2)

greatest_of_several : GreatestOfSeveral
unfolding sha256 first_words schedule rounds compress hash_after digest_bytes numeral bytes_of list_of number dep content_checks first_failed_check forked opponent proof_checks refused_as_convicted sight statement_checks contradicts is_of_kind kind_of by_id history_hash history_text leaves_of put_by_id is_convicted is_vouched is_wanted named past is_signed key_of id_of_statement id_of_update statement update_body update_fields voucher_fields
greatest_of_several = record { of_last = refl; of_first = refl; of_prev = refl }

-- ---- histories

record Histories : Type 0 where
  -- given and right: the right one is of the text writer, clock, id
  pub bad : says from_two (record three { history = zeros }) ≡ Some (check.BadHistory zeros (sha256 (0 ∷ 2 ∷ 0 ∷ 0 ∷ 0 ∷ 0 ∷ 0 ∷ 0 ∷ 0 ∷ 1 ∷ two_id)))
  -- it is that of the past, whatever else is accepted
  pub of_past : says from_two_and_nine three ≡ None
  pub of_all : says from_two_and_nine (record three { history = history_hash (two ∷ nine ∷ []) }) ≡ Some (check.BadHistory (history_hash (two ∷ nine ∷ [])) two_seen)

histories : Histories
unfolding sha256 first_words schedule rounds compress hash_after digest_bytes numeral bytes_of list_of number dep content_checks first_failed_check forked opponent proof_checks refused_as_convicted sight statement_checks contradicts is_of_kind kind_of by_id history_hash history_text leaves_of put_by_id is_convicted is_vouched is_wanted named past is_signed key_of id_of_statement id_of_update statement update_body update_fields voucher_fields
histories = record { bad = refl; of_past = refl; of_all = refl }

-- ---- values

-- an update of node 2 that names the value of the byte 50
abbrev two_valued : Update
two_valued = record two { writes = put_one (107 ∷ []) (sha256 (50 ∷ [])) 1 }

record Values : Type 0 where
  -- an update names the hash and the length
  pub wanted : first_failed_check here (born ++ took two_valued ∷ []) (given_value (50 ∷ [])) ≡ None
  -- none does; the hash is reported
  pub unwanted : first_failed_check here born (given_value (50 ∷ [])) ≡ Some (check.Unwanted (sha256 (50 ∷ [])))
  -- one names the hash, and another the length
  pub apart : first_failed_check here (born ++ took (record two_valued { writes = put_one (107 ∷ []) (sha256 (50 ∷ [])) 2 }) ∷ took nine ∷ []) (given_value (50 ∷ [])) ≡ Some (check.Unwanted (sha256 (50 ∷ [])))

values : Values
unfolding sha256 first_words schedule rounds compress hash_after digest_bytes numeral bytes_of list_of number dep content_checks first_failed_check forked opponent proof_checks refused_as_convicted sight statement_checks contradicts is_of_kind kind_of by_id history_hash history_text leaves_of put_by_id is_convicted is_vouched is_wanted named past is_signed key_of id_of_statement id_of_update statement update_body update_fields voucher_fields
values = record { wanted = refl; unwanted = refl; apart = refl }
