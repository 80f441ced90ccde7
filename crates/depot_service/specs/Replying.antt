-- What a node replies, by what its calls answer.
use Rattle.std.specs.Prelude.{ℕ, List, Result, Ok, Err}
use Rattle.depot_streams.specs.declared.feed_error.FeedError.{FeedError}
use Rattle.depot_streams.specs.declared.feed_error.FeedError.TheVariants as feed_error
use Rattle.depot_gossip.specs.declared.bundle_error.BundleError.{BundleError}
use Rattle.depot_gossip.specs.declared.bundle_error.BundleError.TheVariants as bundle_error
use Rattle.depot_gossip.specs.declared.bundle_stream.Bundled.{Bundled}
use Rattle.depot_model.specs.declared.put_answers.PutDone.{PutDone}
use Rattle.depot_model.specs.declared.put_answers.PutError.{PutError}
use Rattle.depot_model.specs.declared.put_answers.PutError.TheVariants as put_error
use Rattle.depot_service.specs.declared.feeds.FeedResult.{FeedResult}
use Rattle.depot_queries.specs.declared.give_error.GiveError.{GiveError}
use Rattle.depot_queries.specs.declared.give_error.GiveError.TheVariants as give_error
use Rattle.depot_requests.specs.Requests.{with_text}
use Rattle.depot_requests.specs.declared.reply.Halt.{Halt}
use Rattle.depot_requests.specs.declared.reply.Halt.TheVariants as halt
use Rattle.depot_requests.specs.declared.reply.NodeLimit.TheVariants as limit
use Rattle.depot_requests.specs.declared.reply.Reason.{Reason}
use Rattle.depot_requests.specs.declared.reply.Reason.TheVariants as reason
use Rattle.depot_requests.specs.declared.reply.Reply.{Reply}
use Rattle.depot_requests.specs.declared.reply.Reply.TheVariants as reply
use Rattle.depot_trim.specs.declared.make_error.MakeError.{MakeError}
use Rattle.depot_trim.specs.declared.make_error.MakeError.TheVariants as make_error
use Rattle.depot_trim.specs.declared.sign_error.CheckpointError.{CheckpointError}
use Rattle.depot_trim.specs.declared.sign_error.CheckpointError.TheVariants as sign_error

-- something isn't done for this reason
abbrev pub reply_of_reason : Result Reason Halt → Result Reply Halt
reply_of_reason (Ok why) = Ok (reply.Refused why)
reply_of_reason (Err e) = Err e

-- ---- puts

-- why nothing is put
abbrev pub reason_of_put : PutError → Result Reason Halt
reason_of_put put_error.Memory = Err halt.Memory
reason_of_put put_error.Disk = Err halt.Disk
reason_of_put put_error.Stopped = Err halt.Stopped
reason_of_put (put_error.Spent n) = Ok (reason.Limit (limit.Spent n))
reason_of_put (put_error.Tips n) = Ok (reason.Limit (limit.Tips n))
reason_of_put (put_error.Collides h) = Ok (reason.Limit (limit.Collides h))
reason_of_put (put_error.Full what) = Ok (reason.Limit (limit.Full what))

abbrev pub reply_of_put : Result PutDone PutError → Result Reply Halt
reply_of_put (Ok done) = Ok (reply.Put done)
reply_of_put (Err e) = reply_of_reason (reason_of_put e)

-- ---- bundles

-- why no bundle is made
abbrev pub reason_of_bundle : BundleError → Result Reason Halt
reason_of_bundle bundle_error.Memory = Err halt.Memory
reason_of_bundle bundle_error.Disk = Err halt.Disk
reason_of_bundle bundle_error.Stopped = Err halt.Stopped
reason_of_bundle (bundle_error.IllFormed at) = Ok (reason.IllFormed at)
reason_of_bundle (bundle_error.OtherRoster given mine) = Ok (reason.OtherRoster given)
reason_of_bundle (bundle_error.Spent n) = Ok (reason.Limit (limit.Spent n))
reason_of_bundle (bundle_error.Full what) = Ok (reason.Limit (limit.Full what))

abbrev pub reply_of_bundle : Result Bundled BundleError → Result Reply Halt
reply_of_bundle (Ok b) = Ok (reply.Bundle b.bytes b.counts b.more)
reply_of_bundle (Err e) = reply_of_reason (reason_of_bundle e)

-- ---- streams

-- for a stream, whose feed answers no other error than Memory and Disk
abbrev pub reply_of_feed : Result FeedResult FeedError → Result Reply Halt
reply_of_feed (Ok fed) = Ok (reply.Stream fed.report fed.closing)
reply_of_feed (Err feed_error.Memory) = Err halt.Memory
reply_of_feed (Err feed_error.Disk) = Err halt.Disk
reply_of_feed (Err other) = Err halt.Stopped

-- ---- receipts and checkpoints

-- why no receipts are given
abbrev pub reason_of_give : GiveError → Result Reason Halt
reason_of_give give_error.Memory = Err halt.Memory
reason_of_give give_error.Disk = Err halt.Disk
reason_of_give give_error.Stopped = Err halt.Stopped
reason_of_give (give_error.Unknown h) = Ok (reason.Unknown h)
reason_of_give (give_error.NoValue h) = Ok (reason.NoValue h)
reason_of_give (give_error.Spent n) = Ok (reason.Limit (limit.Spent n))
reason_of_give (give_error.Tips n) = Ok (reason.Limit (limit.Tips n))
reason_of_give (give_error.Collides h) = Ok (reason.Limit (limit.Collides h))
reason_of_give (give_error.Full what) = Ok (reason.Limit (limit.Full what))

abbrev pub reply_of_give : Result PutDone GiveError → Result Reply Halt
reply_of_give (Ok done) = Ok (reply.Put done)
reply_of_give (Err e) = reply_of_reason (reason_of_give e)

-- why a checkpoint isn't signed
abbrev pub reason_of_signing : CheckpointError → Result Reason Halt
reason_of_signing sign_error.Memory = Err halt.Memory
reason_of_signing sign_error.Disk = Err halt.Disk
reason_of_signing sign_error.Stopped = Err halt.Stopped
reason_of_signing (sign_error.IllFormed at) = Ok (reason.IllFormed at)
reason_of_signing (sign_error.OtherRoster given mine) = Ok (reason.OtherRoster given)
reason_of_signing (sign_error.Unknown h) = Ok (reason.Unknown h)
reason_of_signing (sign_error.Spent n) = Ok (reason.Limit (limit.Spent n))
reason_of_signing (sign_error.Tips n) = Ok (reason.Limit (limit.Tips n))
reason_of_signing (sign_error.Collides h) = Ok (reason.Limit (limit.Collides h))
reason_of_signing (sign_error.Full what) = Ok (reason.Limit (limit.Full what))

abbrev pub reply_of_signing : Result PutDone CheckpointError → Result Reply Halt
reply_of_signing (Ok done) = Ok (reply.Put done)
reply_of_signing (Err e) = reply_of_reason (reason_of_signing e)

-- why no checkpoint is made
abbrev pub reply_of_unmade : MakeError → Result Reply Halt
reply_of_unmade make_error.Memory = Err halt.Memory
reply_of_unmade make_error.Empty = Ok (reply.Refused reason.Empty)
reply_of_unmade (make_error.Many n) = Ok (reply.Refused (reason.Many n))

-- the reply to a put hands the text of a checkpoint out
abbrev pub handing_over : List ℕ → Result Reply Halt → Result Reply Halt
handing_over text (Ok r) = Ok (with_text text r)
handing_over text (Err e) = Err e
