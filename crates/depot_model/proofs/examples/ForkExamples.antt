-- Worked examples of forks and convictions: which statements are refused for what is kept, with what is reported.
use Rattle.std.proofs.Common.{◌≡◌, List, [], ◌∷◌, ◌++◌, Option, Some, None, refl}
use Rattle.sha2.specs.Sha256.{sha256, first_words, schedule, rounds, compress, hash_after, digest_bytes}
use Rattle.depot_base.specs.Cursor.{numeral}
use Rattle.depot_base.specs.Format.{number, bytes_of, list_of}
use Rattle.depot_base.specs.Parts.{dep}
use Rattle.depot_base.specs.Zeros.{zeros}
use Rattle.depot_base.specs.declared.check.Check.TheVariants as check
use Rattle.depot_base.specs.declared.check.Check.{Check}
use Rattle.depot_base.specs.declared.proof.Kind.TheVariants.{SameNumber, SamePrev}
use Rattle.depot_base.specs.declared.record.Record.{Record}
use Rattle.depot_base.specs.declared.statement.Statement.TheVariants as statement
use Rattle.depot_base.specs.declared.update.Update.{Update}
use Rattle.depot_base.specs.declared.voucher.Voucher.{Voucher}
use Rattle.depot_model.specs.checks.Checks.{sight, content_checks, opponent, forked, refused_as_convicted, statement_checks, proof_checks, first_failed_check, given_statement}
use Rattle.depot_model.specs.updates.Contradictions.{is_of_kind, contradicts, kind_of}
use Rattle.depot_model.specs.updates.History.{leaves_of, put_by_id, by_id, history_text, history_hash}
use Rattle.depot_model.specs.journals.Journal.{named, is_convicted, is_vouched, is_wanted}
use Rattle.depot_model.specs.updates.Order.{past}
use Rattle.depot_model.specs.texts.Roster.{key_of, is_signed}
use Rattle.depot_model.specs.texts.Texts.{update_fields, voucher_fields, update_body, statement, id_of_update, id_of_statement}
use Rattle.depot_model.proofs.examples.Cast.{here, signed_update, signed_voucher, two, nine, nine_id, nine_more, nine_other, vouch, born, took, took_voucher, from_nine, nine_convicted}

abbrev says : List Record → Update → Option Check
says J u = first_failed_check here J (given_statement (signed_update u))

abbrev says_of_voucher : List Record → Voucher → Option Check
says_of_voucher J v = first_failed_check here J (given_statement (signed_voucher v))

-- ---- forks

abbrev nine_twice : List Record
nine_twice = from_nine ++ took nine_more ∷ []

-- beside the second update of node 9, one with another seq and the same prev
abbrev nine_aside : Update
nine_aside = record nine_more { seq = 2 }

-- one with the seq of the second and the prev of the first
abbrev nine_across : Update
nine_across = record nine_other { seq = 1 }

record Forks : Type 0 where
  -- the same number: the kept id, the id that came, and the kind, the first of the table though the prev is the same too
  pub same_number : says from_nine nine_other ≡ Some (check.Forked nine_id (id_of_update nine_other) SameNumber)
  -- the same prev, which is none
  pub same_prev : says from_nine nine_across ≡ Some (check.Forked nine_id (id_of_update nine_across) SamePrev)
  -- the same prev, which is an update
  pub same_prev_later : says nine_twice nine_aside ≡ Some (check.Forked (id_of_update nine_more) (id_of_update nine_aside) SamePrev)
  -- of two that are kept the first in the journal, though the second would be of an earlier kind
  pub first_kept : says nine_twice nine_across ≡ Some (check.Forked nine_id (id_of_update nine_across) SamePrev)
  -- updates of two writers never are
  pub two_writers : says from_nine two ≡ None

forks : Forks
unfolding sha256 first_words schedule rounds compress hash_after digest_bytes numeral bytes_of list_of number dep content_checks first_failed_check forked opponent proof_checks refused_as_convicted sight statement_checks contradicts is_of_kind kind_of by_id history_hash history_text leaves_of put_by_id is_convicted is_vouched is_wanted named past is_signed key_of id_of_statement id_of_update statement update_body update_fields voucher_fields
forks = record { same_number = refl; same_prev = refl; same_prev_later = refl; first_kept = refl; two_writers = refl }

record ForksOfVouchers : Type 0 where
  -- a voucher with the number of an update
  pub voucher_comes : says_of_voucher from_nine (vouch 9 0 (zeros ∷ [])) ≡ Some (check.Forked nine_id (id_of_statement (statement.Voucher (vouch 9 0 (zeros ∷ [])))) SameNumber)
  -- an update with the number of a voucher
  pub voucher_kept : says (born ++ took_voucher (vouch 9 0 (zeros ∷ [])) ∷ []) nine ≡ Some (check.Forked (id_of_statement (statement.Voucher (vouch 9 0 (zeros ∷ [])))) nine_id SameNumber)
  -- a voucher with a number of its own
  pub own_number : says_of_voucher from_nine (vouch 9 1 (zeros ∷ [])) ≡ None

forks_of_vouchers : ForksOfVouchers
unfolding sha256 first_words schedule rounds compress hash_after digest_bytes numeral bytes_of list_of number dep content_checks first_failed_check forked opponent proof_checks refused_as_convicted sight statement_checks contradicts is_of_kind kind_of by_id history_hash history_text leaves_of put_by_id is_convicted is_vouched is_wanted named past is_signed key_of id_of_statement id_of_update statement update_body update_fields voucher_fields
forks_of_vouchers = record { voucher_comes = refl; voucher_kept = refl; own_number = refl }

-- ---- vouched updates and convicted writers

record VouchedAndConvicted : Type 0 where
  -- node 3 vouched for the update that contradicts a kept one
  pub vouched : says (from_nine ++ took_voucher (vouch 3 0 (id_of_update nine_other ∷ [])) ∷ []) nine_other ≡ None
  -- it vouched for another
  pub other_vouched : says (from_nine ++ took_voucher (vouch 3 0 (nine_id ∷ [])) ∷ []) nine_other ≡ Some (check.Forked nine_id (id_of_update nine_other) SameNumber)
  -- an update of a convicted writer; the writer is reported
  pub convicted : says nine_convicted nine_more ≡ Some (check.Convicted 9)
  -- also where it contradicts a kept one
  pub not_forked : says nine_convicted nine_other ≡ Some (check.Convicted 9)
  -- not where it is vouched for
  pub convicted_vouched : says (nine_convicted ++ took_voucher (vouch 3 0 (id_of_update nine_more ∷ [])) ∷ []) nine_more ≡ None
  -- nor an update of another writer
  pub not_convicted : says nine_convicted two ≡ None
  -- a voucher of a convicted node, which is reported, also one with the number of an update; one of another node
  pub voucher_convicted : says_of_voucher nine_convicted (vouch 9 1 (zeros ∷ [])) ≡ Some (check.VoucherConvicted 9)
  pub voucher_not_forked : says_of_voucher nine_convicted (vouch 9 0 (zeros ∷ [])) ≡ Some (check.VoucherConvicted 9)
  pub voucher_passes : says_of_voucher nine_convicted (vouch 3 0 (zeros ∷ [])) ≡ None

vouched_and_convicted : VouchedAndConvicted
unfolding sha256 first_words schedule rounds compress hash_after digest_bytes numeral bytes_of list_of number dep content_checks first_failed_check forked opponent proof_checks refused_as_convicted sight statement_checks contradicts is_of_kind kind_of by_id history_hash history_text leaves_of put_by_id is_convicted is_vouched is_wanted named past is_signed key_of id_of_statement id_of_update statement update_body update_fields voucher_fields
vouched_and_convicted = record { vouched = refl; other_vouched = refl; convicted = refl; not_forked = refl; convicted_vouched = refl; not_convicted = refl; voucher_convicted = refl; voucher_not_forked = refl; voucher_passes = refl }
