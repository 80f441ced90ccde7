-- A request to take a stream.
use Rattle.std.proofs.Common.{◌≡◌, ◌↔◌, ℕ, List, Result, Ok, Err, refl, sym, ap, ◌∙◌}
use Rattle.std.specs.Prelude.{IfErr, IfOk, IsErrOf}
use Rattle.depot_base.specs.declared.record.Record.{Record}
use Rattle.depot_streams.specs.NodeCalls.{IsFeedCall}
use Rattle.depot_streams.specs.declared.feed_error.FeedError.{FeedError}
use Rattle.depot_streams.specs.declared.feed_error.FeedError.TheVariants as error
use Rattle.depot_streams.proofs.LawfulCalls.{renamed_on}
use Rattle.depot_model.specs.exchange.Bundle.{Signs}
use Rattle.depot_model.specs.checks.Checks.{Setting}
use Rattle.depot_model.specs.exchange.Feeding.{feed_of, feeding_from}
use Rattle.depot_model.specs.declared.node_state.NodeState.{Ghosts}
use Rattle.depot_service.specs.Printing.{IsMemoryOrDisk, IsToldOf}
use Rattle.depot_service.specs.declared.feeds.FeedResult.{FeedResult}
use Rattle.depot_requests.proofs.ServedRequests.{closing_is_told, stream_as}
use Rattle.depot_requests.specs.Replies.{closing_told}
use Rattle.depot_requests.specs.Requests.{Served}
use Rattle.depot_requests.specs.declared.reply.Halt.TheVariants as halt
use Rattle.depot_requests.specs.declared.reply.Reply.TheVariants as reply
use Rattle.depot_requests.specs.declared.request.Request.TheVariants as request
use Rattle.depot_service.specs.Replying.{reply_of_feed}
use Rattle.depot_service.specs.RequestCalls.{IsRequestCall, Serves}

pub stream_serves : (here : Setting) (sign : Signs) (J : List Record) (stream : List ℕ) (piece : ℕ) (fed : Result FeedResult FeedError) (then : List Record) → IfErr fed (λ e. IsMemoryOrDisk e) → IfOk fed (λ told. IsToldOf (feed_of here J stream) told) → IfOk fed (λ _. then ≡ (feed_of here J stream).journal)
    → Serves here sign J (request.Take stream piece) (reply_of_feed fed) then
stream_serves here sign J stream piece (Ok f) then only told grown =
    stream_as here sign J stream piece ∙ (λ i. record { journal = sym grown i; reply = reply.Stream (told.report i) ((ap closing_told told.closing ∙ closing_is_told f.closing) i) })
stream_serves here sign J stream piece (Err error.Memory) then only told grown = tt
stream_serves here sign J stream piece (Err error.Disk) then only told grown = tt
stream_serves here sign J stream piece (Err error.Stopped) then only told grown = absurd only
stream_serves here sign J stream piece (Err (error.Full what)) then only told grown = absurd only
stream_serves here sign J stream piece (Err (error.IllFormed at)) then only told grown = absurd only

stopped_so : (fed : Result FeedResult FeedError) → IfErr fed (λ e. IsMemoryOrDisk e) → IsErrOf fed error.Stopped ↔ IsErrOf (reply_of_feed fed) halt.Stopped
stopped_so (Ok f) only = (λ e. absurd cc, λ e. absurd cc)
stopped_so (Err error.Memory) only = (λ e. absurd cc, λ e. absurd cc)
stopped_so (Err error.Disk) only = (λ e. absurd cc, λ e. absurd cc)
stopped_so (Err error.Stopped) only = absurd only
stopped_so (Err (error.Full what)) only = absurd only
stopped_so (Err (error.IllFormed at)) only = absurd only

failed_so : (fed : Result FeedResult FeedError) → IfErr fed (λ e. IsMemoryOrDisk e) → IsErrOf fed error.Disk ↔ IsErrOf (reply_of_feed fed) halt.Disk
failed_so (Ok f) only = (λ e. absurd cc, λ e. absurd cc)
failed_so (Err error.Memory) only = (λ e. absurd cc, λ e. absurd cc)
failed_so (Err error.Disk) only = (λ e. refl, λ e. refl)
failed_so (Err error.Stopped) only = absurd only
failed_so (Err (error.Full what)) only = absurd only
failed_so (Err (error.IllFormed at)) only = absurd only

pub stream_call : {N : Type 0} (g : Ghosts N) (old new : N) (stream : List ℕ) (piece : ℕ) (fed : Result FeedResult FeedError) → IfErr fed (λ e. IsMemoryOrDisk e) → IsFeedCall g (feeding_from (g.records old)) stream old new fed → IsRequestCall g old new (request.Take stream piece) (reply_of_feed fed)
stream_call g old new stream piece fed only call =
    let named = renamed_on g old new call.appends (stopped_so fed only) (failed_so fed only) call.left in
    record {
      appends = call.appends;
      brings = ap (λ (s : Served). s.journal) (stream_as (g.stands old) (g.signature_of old) (g.records old) stream piece) ∙ call.brings;
      node = named.node;
      lasts = named.lasts;
    }
