-- A journal with what a request brings is lawful.
use Rattle.std.proofs.Common.{◌≡◌, ℕ, Bool, true, false, not, cond, List, ◌++◌, Option, Some, None, Result, Ok, Err, refl, arith}
use Rattle.std.specs.Str.{bytes_eq}
use Rattle.depot_base.specs.Format.{whole}
use Rattle.depot_base.specs.declared.record.Record.{Record}
use Rattle.depot_base.specs.declared.write.Change.{Change}
use Rattle.depot_laws.specs.Streams.{AreBytes}
use Rattle.depot_laws.proofs.exchanges.LawfulFeeds.{feed_keeps}
use Rattle.depot_laws.proofs.records.NewVouchers.{new_are_lawful}
use Rattle.depot_model.specs.exchange.Bundle.{Signs, answer_to_hello, bad_hello, bundle_answer, bundle_of, bundled_within, other_roster, sent_for, unvouched}
use Rattle.depot_model.specs.updates.Changes.{AreChanges}
use Rattle.depot_model.specs.checks.Checks.{Setting}
use Rattle.depot_model.specs.exchange.Feeding.{feeding_from}
use Rattle.depot_model.specs.exchange.Hello.{hello}
use Rattle.depot_model.specs.journals.Lawful.{IsLawful, is_empty}
use Rattle.depot_model.specs.checks.Limits.{Limit, limit_of_put}
use Rattle.depot_model.specs.readers.Opening.{MadeCheckpoint, Opened, ill_at, made_text, make_of, many_leaves, no_leaves, of_roster, opened, opened_text, with_unknown}
use Rattle.depot_model.specs.worlds.Receipts.{NoReceipt, lacks_value, no_receipt, receipt_changes, unknown}
use Rattle.depot_model.specs.texts.Roster.{has_node}
use Rattle.depot_model.specs.texts.Texts.{hash_of_roster}
use Rattle.depot_model.specs.checks.Vouching.{limit_of_vouchers, records_of}
use Rattle.depot_model.specs.declared.hello.Hello.{Hello}
use Rattle.depot_requests.proofs.CheckpointTexts.{checkpoint_is_change, made_is_short, opened_is_short}
use Rattle.depot_requests.proofs.ServedRequests.{put_lawful}
use Rattle.depot_requests.proofs.VouchedUpdates.{unvouched_are_foreign}
use Rattle.depot_requests.specs.Effects.{checkpoint_changes}
use Rattle.depot_requests.specs.Requests.{CarriesBytes, IsRequest, bundle_served, checkpoint_served, put_served, receipts_served, served, sign_served}
use Rattle.depot_requests.specs.declared.request.Request.{Request}
use Rattle.depot_requests.specs.declared.request.Request.TheVariants as request

module _ (here : Setting) (sign : Signs) (J : List Record) (lawful : IsLawful here J) (some : is_empty J ≡ false) where
  by_put : (changes : List Change) (o : Option Limit) → AreChanges changes → limit_of_put here J changes ≡ o → IsLawful here (put_served here J changes o).journal
  by_put changes (Some met) are is = lawful
  by_put changes None are is = put_lawful here J changes lawful some are is

  by_receipts : (ids : List (List ℕ)) (o : Option NoReceipt) → AreChanges (receipt_changes ids) → IsLawful here (receipts_served here J ids o).journal
  by_receipts ids (Some (unknown id)) are = lawful
  by_receipts ids (Some (lacks_value id)) are = lawful
  by_receipts ids None are = by_put (receipt_changes ids) (limit_of_put here J (receipt_changes ids)) are refl

  by_sign : (text : List ℕ) (o : Opened) → AreBytes text → opened_text here J text ≡ o → IsLawful here (sign_served here J text o).journal
  by_sign text (ill_at at) are is = lawful
  by_sign text (of_roster given) are is = lawful
  by_sign text (with_unknown id) are is = lawful
  by_sign text (opened ids) are is = by_put (checkpoint_changes text) (limit_of_put here J (checkpoint_changes text)) (checkpoint_is_change text (opened_is_short here J text ids are is)) refl

  by_checkpoint : (m : MadeCheckpoint) → make_of here J ≡ m → IsLawful here (checkpoint_served here J m).journal
  by_checkpoint no_leaves is = lawful
  by_checkpoint (many_leaves n) is = lawful
  by_checkpoint (made_text text) is = by_put (checkpoint_changes text) (limit_of_put here J (checkpoint_changes text)) (checkpoint_is_change text (made_is_short here J text is)) refl

  by_vouchers : (h : Hello) → limit_of_vouchers here J (unvouched here.me J (sent_for sign J h)) ≡ None → IsLawful here (J ++ records_of (bundle_of here.me sign J h).vouchers)
  unfolding bundle_of
  by_vouchers h none = new_are_lawful here J (unvouched here.me J (sent_for sign J h)) lawful some (unvouched_are_foreign here.me sign J h) none

  by_tests : (h : Hello) (other none : Bool) (o : Option Limit) → limit_of_vouchers here J (unvouched here.me J (sent_for sign J h)) ≡ o
      → IsLawful here (bundle_served J (cond other (other_roster h.roster) (cond none (bad_hello 2) (bundled_within o (bundle_of here.me sign J h))))).journal
  by_tests h true none o is = lawful
  by_tests h false true o is = lawful
  by_tests h false false (Some met) is = lawful
  by_tests h false false None is = by_vouchers h is

  by_hello : (r : Result Hello ℕ) → IsLawful here (bundle_served J (answer_to_hello here sign J r)).journal
  by_hello (Err at) = lawful
  by_hello (Ok h) = by_tests h (not (bytes_eq h.roster (hash_of_roster here.listed))) (not (has_node here.listed h.node)) (limit_of_vouchers here J (unvouched here.me J (sent_for sign J h))) refl

  pub served_is_lawful : (r : Request) → IsRequest r → CarriesBytes r → IsLawful here (served here sign J r).journal
  unfolding served bundle_answer
  served_is_lawful (request.Put changes) is bytes = by_put changes (limit_of_put here J changes) is.are refl
  served_is_lawful (request.Get key) is are = lawful
  served_is_lawful request.Hello is are = lawful
  served_is_lawful (request.Bundle text) is are = by_hello (whole hello (record { at = 0; rest = text }))
  served_is_lawful (request.Take stream piece) is are = (feed_keeps here (feeding_from J) stream are (record { lawful = lawful; some = some; bytes = λ i. omega arith })).lawful
  served_is_lawful (request.Receipt ids) is are = by_receipts ids (no_receipt J ids) is.changes
  served_is_lawful (request.Settled id k) is are = lawful
  served_is_lawful request.Checkpoint is are = by_checkpoint (make_of here J) refl
  served_is_lawful (request.Sign text) is are = by_sign text (opened_text here J text) are refl
