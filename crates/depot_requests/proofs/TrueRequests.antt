-- Whatever a node is asked, its receipts stay true.
use Rattle.std.proofs.Common.{◌≡◌, ℕ, List, ◌++◌, Option, Some, None, refl}
use Rattle.depot_base.specs.declared.record.Record.{Record}
use Rattle.depot_base.specs.declared.write.Change.{Change}
use Rattle.depot_laws.proofs.of_audits.TrueReceipts.{silent_is_true, vouchers_put_none}
use Rattle.depot_model.specs.exchange.Bundle.{BundleAnswer, Signs, bad_hello, bundle_answer, bundled, limited, other_roster}
use Rattle.depot_model.specs.checks.Checks.{Setting}
use Rattle.depot_model.specs.checks.Limits.{Limit, limit_of_put}
use Rattle.depot_model.specs.readers.Opening.{MadeCheckpoint, Opened, ill_at, made_text, make_of, many_leaves, no_leaves, of_roster, opened, opened_text, with_unknown}
use Rattle.depot_model.specs.checks.Putting.{put_records}
use Rattle.depot_model.specs.worlds.Receipts.{AreReceiptsTrue, NoReceipt, lacks_value, no_receipt, receipt_changes, unknown}
use Rattle.depot_model.specs.checks.Vouching.{records_of}
use Rattle.depot_requests.proofs.CheckpointTexts.{checkpoint_gives_none}
use Rattle.depot_requests.proofs.TrueReceipts.{feed_stays_true, put_stays_true, receipts_put_stays_true}
use Rattle.depot_requests.specs.Effects.{checkpoint_changes}
use Rattle.depot_requests.specs.Requests.{IsRequest, bundle_served, checkpoint_served, put_served, receipts_served, served, sign_served}
use Rattle.depot_requests.specs.declared.request.Request.{Request}
use Rattle.depot_requests.specs.declared.request.Request.TheVariants as request

module _ (here : Setting) (sign : Signs) (J : List Record) (are_true : AreReceiptsTrue J) where
  by_put : (changes : List Change) (o : Option Limit) → AreReceiptsTrue (J ++ put_records here J changes) → AreReceiptsTrue (put_served here J changes o).journal
  by_put changes (Some met) then = are_true
  by_put changes None then = then

  by_receipts : (ids : List (List ℕ)) (o : Option NoReceipt) → no_receipt J ids ≡ o → AreReceiptsTrue (receipts_served here J ids o).journal
  by_receipts ids (Some (unknown id)) is = are_true
  by_receipts ids (Some (lacks_value id)) is = are_true
  by_receipts ids None is = by_put (receipt_changes ids) (limit_of_put here J (receipt_changes ids)) (receipts_put_stays_true here.me J ids is are_true)

  by_text : (text : List ℕ) → AreReceiptsTrue (put_served here J (checkpoint_changes text) (limit_of_put here J (checkpoint_changes text))).journal
  by_text text = by_put (checkpoint_changes text) (limit_of_put here J (checkpoint_changes text)) (put_stays_true here.me J (checkpoint_changes text) (checkpoint_gives_none text) are_true)

  by_sign : (text : List ℕ) (o : Opened) → AreReceiptsTrue (sign_served here J text o).journal
  by_sign text (ill_at at) = are_true
  by_sign text (of_roster given) = are_true
  by_sign text (with_unknown id) = are_true
  by_sign text (opened ids) = by_text text

  by_checkpoint : (m : MadeCheckpoint) → AreReceiptsTrue (checkpoint_served here J m).journal
  by_checkpoint no_leaves = are_true
  by_checkpoint (many_leaves n) = are_true
  by_checkpoint (made_text text) = by_text text

  by_bundle : (a : BundleAnswer) → AreReceiptsTrue (bundle_served J a).journal
  by_bundle (bundled b) = silent_is_true J (records_of b.vouchers) (vouchers_put_none b.vouchers) are_true
  by_bundle (bad_hello at) = are_true
  by_bundle (other_roster given) = are_true
  by_bundle (limited met) = are_true

  pub served_stays_true : (r : Request) → IsRequest r → AreReceiptsTrue (served here sign J r).journal
  unfolding served
  served_stays_true (request.Put changes) is = by_put changes (limit_of_put here J changes) (put_stays_true here.me J changes is.plain are_true)
  served_stays_true (request.Get key) is = are_true
  served_stays_true request.Hello is = are_true
  served_stays_true (request.Bundle text) is = by_bundle (bundle_answer here sign J text)
  served_stays_true (request.Take stream piece) is = feed_stays_true here J stream are_true
  served_stays_true (request.Receipt ids) is = by_receipts ids (no_receipt J ids) refl
  served_stays_true (request.Settled id k) is = are_true
  served_stays_true request.Checkpoint is = by_checkpoint (make_of here J)
  served_stays_true (request.Sign text) is = by_sign text (opened_text here J text)
