-- The outcome of a request at a node.
use Rattle.std.specs.Prelude.{◌≡◌, ◌≤◌, ℕ, ◌-◌, List, [], ◌∷◌, ◌++◌, length, true, nat_le, Option, Some, None}
use Rattle.std.specs.List.{flat_map}
use Rattle.depot_base.specs.Pairs.{AllPairsByRecursion}
use Rattle.depot_base.specs.Parts.{is_below}
use Rattle.depot_base.specs.declared.limits.TheConstants.{MOST_WRITES}
use Rattle.depot_base.specs.declared.record.Record.{Record}
use Rattle.depot_base.specs.declared.write.Change.{Change}
use Rattle.depot_answers.specs.AnswerTexts.{spaced, text_of_write}
use Rattle.depot_laws.specs.Streams.{AreBytes}
use Rattle.depot_lines.specs.PutKeys.{WriteNoReceipts}
use Rattle.depot_model.specs.exchange.Bundle.{BundleAnswer, Signs, bad_hello, bundle_answer, bundled, bytes_of_bundle, limited, other_roster, with_vouchers}
use Rattle.depot_model.specs.updates.Changes.{AreChanges}
use Rattle.depot_model.specs.checks.Checks.{Setting}
use Rattle.depot_model.specs.exchange.Feeding.{Feeding, feed_of, report_of}
use Rattle.depot_model.specs.exchange.Hello.{hello_of, text_of_hello}
use Rattle.depot_model.specs.checks.Limits.{Limit, limit_of_put}
use Rattle.depot_model.specs.readers.Opening.{MadeCheckpoint, Opened, ill_at, made_text, make_of, many_leaves, no_leaves, of_roster, opened, opened_text, with_unknown}
use Rattle.depot_model.specs.checks.Own.{next_own}
use Rattle.depot_model.specs.checks.Putting.{put_done_of, put_records}
use Rattle.depot_model.specs.worlds.Receipts.{NoReceipt, lacks_value, no_receipt, receipt_changes, receipts, unknown}
use Rattle.depot_model.specs.journals.ShownWrites.{shown_of}
use Rattle.depot_model.specs.worlds.World.{Correct, Read}
use Rattle.depot_requests.specs.Effects.{Effect, calls_for_records, checkpoint_changes, read_at_end}
use Rattle.depot_requests.specs.Replies.{answer_of_reply, behind_of_reply, bytes_of_reply, closing_told, limit_told}
use Rattle.depot_requests.specs.declared.reply.Reason.{Reason}
use Rattle.depot_requests.specs.declared.reply.Reason.TheVariants as reason
use Rattle.depot_requests.specs.declared.reply.Reply.{Reply}
use Rattle.depot_requests.specs.declared.reply.Reply.TheVariants as reply
use Rattle.depot_requests.specs.declared.request.Request.{Request}
use Rattle.depot_requests.specs.declared.request.Request.TheVariants as request

-- 1 to 16 ids, rising strictly, for which receipts may be given
pub record AreIds (ids : List (List ℕ)) : Type 0 where
  pub some : 1 ≤ length ids
  pub few : length ids ≤ MOST_WRITES
  pub rising : AllPairsByRecursion (λ g h. is_below g h ≡ true) ids
  pub changes : AreChanges (receipt_changes ids)

-- changes that a node may be asked to put
pub record ArePlainChanges (changes : List Change) : Type 0 where
  pub are : AreChanges changes
  pub plain : WriteNoReceipts changes

-- a node may be asked for this
abbrev pub IsRequest : Request → Type 0
IsRequest (request.Put changes) = ArePlainChanges changes
IsRequest (request.Receipt ids) = AreIds ids
IsRequest (request.Take stream piece) = 1 ≤ piece
IsRequest other = Unit {0}

-- what it carries are bytes, where that matters
abbrev pub CarriesBytes : Request → Type 0
CarriesBytes (request.Take stream piece) = AreBytes stream
CarriesBytes (request.Sign text) = AreBytes text
CarriesBytes other = Unit {0}

-- ---- its outcome

-- the journal after a request, and the reply
pub record Served : Type 0 where
  pub journal : List Record
  pub reply : Reply

-- nothing is done
abbrev pub refused_by : List Record → Reason → Served
refused_by J why = record { journal = J; reply = reply.Refused why }

-- a put of changes: the next own update, unless it meets a limit
abbrev pub put_served : Setting → List Record → List Change → Option Limit → Served
put_served here J changes (Some met) = refused_by J (reason.Limit (limit_told met))
put_served here J changes None = record { journal = J ++ put_records here J changes; reply = reply.Put (put_done_of (next_own here.me J changes)) }

-- the words of the writes that a read shows, each preceded by a space
abbrev pub words_read : List Record → List ℕ → List ℕ
words_read J key = flat_map (λ w. spaced (text_of_write w)) (shown_of J key)

-- what a node answers to the bytes of a hello
abbrev pub bundle_served : List Record → BundleAnswer → Served
bundle_served J (bundled b) = record { journal = with_vouchers J b.vouchers; reply = reply.Bundle (bytes_of_bundle b) b.counts b.more }
bundle_served J (bad_hello at) = refused_by J (reason.IllFormed at)
bundle_served J (other_roster given) = refused_by J (reason.OtherRoster given)
bundle_served J (limited met) = refused_by J (reason.Limit (limit_told met))

-- a stream is taken; it doesn't matter in which pieces
abbrev pub stream_served : Feeding → Served
stream_served s = record { journal = s.journal; reply = reply.Stream (report_of s) (closing_told s.closed) }

-- receipts: one put of all, unless one of this speaks against them
abbrev pub receipts_served : Setting → List Record → List (List ℕ) → Option NoReceipt → Served
receipts_served here J ids (Some (unknown id)) = refused_by J (reason.Unknown id)
receipts_served here J ids (Some (lacks_value id)) = refused_by J (reason.NoValue id)
receipts_served here J ids None = put_served here J (receipt_changes ids) (limit_of_put here J (receipt_changes ids))

-- a checkpoint's text, which is opened so, is put under its key
abbrev pub sign_served : Setting → List Record → List ℕ → Opened → Served
sign_served here J text (ill_at at) = refused_by J (reason.IllFormed at)
sign_served here J text (of_roster given) = refused_by J (reason.OtherRoster given)
sign_served here J text (with_unknown id) = refused_by J (reason.Unknown id)
sign_served here J text (opened ids) = put_served here J (checkpoint_changes text) (limit_of_put here J (checkpoint_changes text))

-- the put of a checkpoint hands its text out, unless it met a limit
abbrev pub with_text : List ℕ → Reply → Reply
with_text text (reply.Put done) = reply.Checkpoint done text
with_text text other = other

abbrev pub handing : List ℕ → Served → Served
handing text d = record { journal = d.journal; reply = with_text text d.reply }

-- a checkpoint that is made so
abbrev pub checkpoint_served : Setting → List Record → MadeCheckpoint → Served
checkpoint_served here J no_leaves = refused_by J reason.Empty
checkpoint_served here J (many_leaves n) = refused_by J (reason.Many n)
checkpoint_served here J (made_text text) = handing text (put_served here J (checkpoint_changes text) (limit_of_put here J (checkpoint_changes text)))

-- The outcome of a request, by the node's setting, its signer and its journal.
unfoldable pub served : Setting → Signs → List Record → Request → Served
served here sign J (request.Put changes) = put_served here J changes (limit_of_put here J changes)
served here sign J (request.Get key) = record { journal = J; reply = reply.Read (words_read J key) }
served here sign J request.Hello = record { journal = J; reply = reply.Hello (hello_of here J) (text_of_hello (hello_of here J)) }
served here sign J (request.Bundle hello) = bundle_served J (bundle_answer here sign J hello)
served here sign J (request.Take stream piece) = stream_served (feed_of here J stream)
served here sign J (request.Receipt ids) = receipts_served here J ids (no_receipt J ids)
served here sign J (request.Settled id k) = record { journal = J; reply = reply.Settled (nat_le k (length (receipts J id))) }
served here sign J request.Checkpoint = checkpoint_served here J (make_of here J)
served here sign J (request.Sign text) = sign_served here J text (opened_text here J text)

-- ---- the same at a correct node of a world, which keeps its reads

-- its reads after a request
abbrev pub reads_after : Correct → Request → List Read
reads_after c (request.Get key) = c.reads ++ read_at_end c.journal key ∷ []
reads_after c other = c.reads

abbrev pub effect_by : Correct → List Read → Served → Effect
effect_by c reads s = record {
  journal = s.journal;
  reads = reads;
  calls = calls_for_records (length s.journal - length c.journal);
  answer = answer_of_reply s.reply;
  behind = behind_of_reply s.reply;
  bytes = bytes_of_reply s.reply;
}

-- The effect of a request: the journal and the reads after it, how many disk calls it makes, what is printed, and what
-- it hands out.
unfoldable pub effect_of : Setting → Signs → Correct → Request → Effect
effect_of here sign c r = effect_by c (reads_after c r) (served here sign c.journal r)
