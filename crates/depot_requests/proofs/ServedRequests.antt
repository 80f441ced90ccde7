-- The outcome of a request, by kind.
use Rattle.std.proofs.Common.{◌≡◌, ℕ, false, List, ◌++◌, Option, Some, None, refl, ap}
use Rattle.depot_answers.specs.Closings.{closing_of}
use Rattle.depot_answers.specs.declared.exchange_answers.Closing.{Closing}
use Rattle.depot_answers.specs.declared.exchange_answers.Closing.TheVariants as closing
use Rattle.depot_base.specs.declared.record.Record.{Record}
use Rattle.depot_base.specs.declared.write.Change.{Change}
use Rattle.depot_laws.proofs.own_updates.OwnTexts.{own_put_is_lawful}
use Rattle.depot_model.specs.exchange.Bundle.{BundleAnswer, Signs, bad_hello, bundle_answer, bundled, limited, other_roster}
use Rattle.depot_model.specs.updates.Changes.{AreChanges}
use Rattle.depot_model.specs.checks.Checks.{Setting}
use Rattle.depot_model.specs.exchange.Feeding.{feed_of, feeding_from}
use Rattle.depot_model.specs.journals.Lawful.{IsLawful, is_empty}
use Rattle.depot_model.specs.checks.Limits.{Limit, limit_of_put}
use Rattle.depot_model.specs.readers.Opening.{MadeCheckpoint, Opened, ill_at, made_text, make_of, many_leaves, no_leaves, of_roster, opened, opened_text, with_unknown}
use Rattle.depot_model.specs.checks.Own.{next_own}
use Rattle.depot_model.specs.checks.Putting.{put_records}
use Rattle.depot_model.specs.worlds.Receipts.{NoReceipt, lacks_value, no_receipt, receipt_changes, unknown}
use Rattle.depot_model.specs.checks.Vouching.{records_of}
use Rattle.depot_model.proofs.of_journals.FeedGrowth.{IsGrown, feed_grows, grown_none}
use Rattle.depot_model.proofs.of_updates.LimitLaws.{unlimited_from}
use Rattle.depot_requests.specs.Effects.{checkpoint_changes}
use Rattle.depot_requests.specs.Replies.{closing_told}
use Rattle.depot_requests.specs.Requests.{bundle_served, checkpoint_served, handing, put_served, receipts_served, served, sign_served, stream_served}
use Rattle.depot_requests.specs.declared.request.Request.{Request}
use Rattle.depot_requests.specs.declared.request.Request.TheVariants as request

-- ---- a put

-- the outcome of a put that meets this limit, or none
pub put_within : (here : Setting) (sign : Signs) (J : List Record) (changes : List Change) (o : Option Limit) → limit_of_put here J changes ≡ o → served here sign J (request.Put changes) ≡ put_served here J changes o
unfolding served
put_within here sign J changes o is = ap (put_served here J changes) is

-- with the update of a put that meets no limit a journal is lawful
pub put_lawful : (here : Setting) (J : List Record) (changes : List Change) → IsLawful here J → is_empty J ≡ false → AreChanges changes → limit_of_put here J changes ≡ None → IsLawful here (J ++ put_records here J changes)
unfolding limit_of_put
put_lawful here J changes l some are none =
    let free = unlimited_from here J (next_own here.me J changes) (put_records here J changes) none in
    own_put_is_lawful here J (next_own here.me J changes) changes l some are refl free.fresh free.tips free.leaf free.room

-- ---- a bundle

-- the outcome of a bundle with this answer
pub bundle_as : (here : Setting) (sign : Signs) (J : List Record) (hello : List ℕ) (a : BundleAnswer) → bundle_answer here sign J hello ≡ a → served here sign J (request.Bundle hello) ≡ bundle_served J a
unfolding served
bundle_as here sign J hello a is = ap (bundle_served J) is

-- ---- a stream

-- the outcome of a stream
pub stream_as : (here : Setting) (sign : Signs) (J : List Record) (stream : List ℕ) (piece : ℕ) → served here sign J (request.Take stream piece) ≡ stream_served (feed_of here J stream)
unfolding served
stream_as here sign J stream piece = refl

-- why a feed was closed is reported as it is
pub closing_is_told : (o : Option Closing) → closing_told (closing_of o) ≡ o
closing_is_told None = refl
closing_is_told (Some (closing.IllFormed at)) = refl
closing_is_told (Some (closing.Full what)) = refl

-- ---- the journal

put_grows : (here : Setting) (J : List Record) (changes : List Change) (o : Option Limit) → IsGrown J (put_served here J changes o).journal
put_grows here J changes (Some met) = grown_none J
put_grows here J changes None = record { more = put_records here J changes; is = refl }

bundle_grows : (J : List Record) (a : BundleAnswer) → IsGrown J (bundle_served J a).journal
bundle_grows J (bundled b) = record { more = records_of b.vouchers; is = refl }
bundle_grows J (bad_hello at) = grown_none J
bundle_grows J (other_roster given) = grown_none J
bundle_grows J (limited met) = grown_none J

receipts_grow : (here : Setting) (J : List Record) (ids : List (List ℕ)) (o : Option NoReceipt) → IsGrown J (receipts_served here J ids o).journal
receipts_grow here J ids (Some (unknown id)) = grown_none J
receipts_grow here J ids (Some (lacks_value id)) = grown_none J
receipts_grow here J ids None = put_grows here J (receipt_changes ids) (limit_of_put here J (receipt_changes ids))

sign_grows : (here : Setting) (J : List Record) (text : List ℕ) (o : Opened) → IsGrown J (sign_served here J text o).journal
sign_grows here J text (ill_at at) = grown_none J
sign_grows here J text (of_roster given) = grown_none J
sign_grows here J text (with_unknown id) = grown_none J
sign_grows here J text (opened ids) = put_grows here J (checkpoint_changes text) (limit_of_put here J (checkpoint_changes text))

checkpoint_grows : (here : Setting) (J : List Record) (m : MadeCheckpoint) → IsGrown J (checkpoint_served here J m).journal
checkpoint_grows here J no_leaves = grown_none J
checkpoint_grows here J (many_leaves n) = grown_none J
checkpoint_grows here J (made_text text) = put_grows here J (checkpoint_changes text) (limit_of_put here J (checkpoint_changes text))

-- whatever is asked, the journal keeps its records
pub served_grows : (here : Setting) (sign : Signs) (J : List Record) (r : Request) → IsGrown J (served here sign J r).journal
unfolding served
served_grows here sign J (request.Put changes) = put_grows here J changes (limit_of_put here J changes)
served_grows here sign J (request.Get key) = grown_none J
served_grows here sign J request.Hello = grown_none J
served_grows here sign J (request.Bundle hello) = bundle_grows J (bundle_answer here sign J hello)
served_grows here sign J (request.Take stream piece) = feed_grows here (feeding_from J) stream
served_grows here sign J (request.Receipt ids) = receipts_grow here J ids (no_receipt J ids)
served_grows here sign J (request.Settled id k) = grown_none J
served_grows here sign J request.Checkpoint = checkpoint_grows here J (make_of here J)
served_grows here sign J (request.Sign text) = sign_grows here J text (opened_text here J text)

-- ---- requests that lead to a put

pub receipts_put : (here : Setting) (sign : Signs) (J : List Record) (ids : List (List ℕ)) → no_receipt J ids ≡ None → served here sign J (request.Receipt ids) ≡ served here sign J (request.Put (receipt_changes ids))
unfolding served
receipts_put here sign J ids due = ap (receipts_served here J ids) due

pub sign_put : (here : Setting) (sign : Signs) (J : List Record) (text : List ℕ) (ids : List (List ℕ)) → opened_text here J text ≡ opened ids → served here sign J (request.Sign text) ≡ served here sign J (request.Put (checkpoint_changes text))
unfolding served
sign_put here sign J text ids due = ap (sign_served here J text) due

pub checkpoint_put : (here : Setting) (sign : Signs) (J : List Record) (text : List ℕ) → make_of here J ≡ made_text text → served here sign J request.Checkpoint ≡ handing text (served here sign J (request.Put (checkpoint_changes text)))
unfolding served
checkpoint_put here sign J text made = ap (checkpoint_served here J) made

-- and those that don't
pub receipts_refused : (here : Setting) (sign : Signs) (J : List Record) (ids : List (List ℕ)) (why : NoReceipt) → no_receipt J ids ≡ Some why → served here sign J (request.Receipt ids) ≡ receipts_served here J ids (Some why)
unfolding served
receipts_refused here sign J ids why is = ap (receipts_served here J ids) is

pub sign_refused : (here : Setting) (sign : Signs) (J : List Record) (text : List ℕ) (o : Opened) → opened_text here J text ≡ o → served here sign J (request.Sign text) ≡ sign_served here J text o
unfolding served
sign_refused here sign J text o is = ap (sign_served here J text) is

pub checkpoint_refused : (here : Setting) (sign : Signs) (J : List Record) (m : MadeCheckpoint) → make_of here J ≡ m → served here sign J request.Checkpoint ≡ checkpoint_served here J m
unfolding served
checkpoint_refused here sign J m is = ap (checkpoint_served here J) is
