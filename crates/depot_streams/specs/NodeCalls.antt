-- What the node calls within a piece answer, and what they make of the node.
use Rattle.std.specs.Prelude.{◌≡◌, ℕ, ◌+◌, ◌*◌, ◌≤◌, List, [], ◌++◌, Bool, true, false, Result, Ok, Err, IsErrOf}
use Rattle.depot_base.specs.Tags.{frame_byte}
use Rattle.depot_base.specs.declared.limits.TheConstants.{MOST_FRAMES}
use Rattle.depot_base.specs.declared.tags.FrameTag.{FrameTag}
use Rattle.depot_base.specs.declared.record.Record.{Record}
use Rattle.depot_base.specs.declared.check.Check.{Check}
use Rattle.depot_model.specs.declared.taken.Taken.{Taken}
use Rattle.depot_model.specs.declared.taken.TakeError.{TakeError}
use Rattle.depot_model.specs.declared.taken.TakeError.TheVariants as refused
use Rattle.depot_model.specs.checks.Checks.{Setting}
use Rattle.depot_model.specs.checks.Taking.{Outcome, no_room}
use Rattle.depot_model.proofs.of_journals.TakeLaws.{IsTold, IsBrokenOff}
use Rattle.depot_streams.specs.declared.feed_error.FeedError.{FeedError}
use Rattle.depot_streams.specs.declared.feed_error.FeedError.TheVariants as error
use Rattle.depot_streams.specs.declared.tally.Tally.{Tally}
use Rattle.depot_model.specs.texts.Frames.{Frame}
use Rattle.depot_model.specs.exchange.Feeding.{Feeding, take_frame, fed, fed_frame, closed_by, out_of_room}
use Rattle.depot_model.specs.declared.node_state.NodeState.{Ghosts}
use Rattle.depot_streams.specs.FrameHeads.{most_frame}
use Rattle.depot_streams.specs.Lasting.{IsLawfulCall}
use Rattle.depot_streams.specs.Pieces.{Stream, at_work, brought_by}

-- ---- a tally as a stream

-- what a feed keeps, from its tally and the bytes that are open
abbrev pub stream_by : Tally → List ℕ → Bool → Stream
stream_by t begun closed = record { frames = t.frames; begun = begun; start = t.start; ended = t.ended; accepted = t.accepted; known = t.known; refused = t.refused.items; closed = closed }

-- the feed at work, with the journal of the node
abbrev pub feeding_by : Tally → List ℕ → List Record → Feeding
feeding_by t begun J = at_work (stream_by t begun false) J

-- what is kept after a call: an error closes the feed
abbrev pub stream_after : {X : Type 0} → Result X FeedError → Tally → List ℕ → Stream
stream_after (Ok x) t begun = stream_by t begun false
stream_after (Err e) t begun = stream_by t [] true

-- its numbers are those of frames that were taken
pub record IsTally (t : Tally) : Type 0 where
  pub few : t.frames ≤ MOST_FRAMES
  pub counted : t.accepted + t.known ≤ t.frames
  pub behind : t.start ≤ t.frames * most_frame

-- ---- an answer

-- what a feed makes of an answer: a counted one, or an error that closes it
abbrev pub as_feed_answer : Result Taken TakeError → Result (Result Taken Check) FeedError
as_feed_answer (Ok taken) = Ok (Ok taken)
as_feed_answer (Err (refused.Refused c)) = Ok (Err c)
as_feed_answer (Err refused.Memory) = Err error.Memory
as_feed_answer (Err refused.Disk) = Err error.Disk
as_feed_answer (Err refused.Stopped) = Err error.Stopped
as_feed_answer (Err (refused.Full what)) = Err (error.Full what)

-- what a call answers where this is the outcome
abbrev pub AnswersForOutcome : Outcome → List Record → Result (Result Taken Check) FeedError → List Record → Type 0
AnswersForOutcome o J (Ok answer) then = IsTold o J answer then
AnswersForOutcome o J (Err error.Memory) then = then ≡ J
AnswersForOutcome o J (Err error.Disk) then = IsBrokenOff o J then
AnswersForOutcome o J (Err error.Stopped) then = then ≡ J
AnswersForOutcome o J (Err (error.Full what)) then = (o ≡ no_room what) × (then ≡ J)
AnswersForOutcome o J (Err (error.IllFormed at)) then = ⊥

-- ---- a frame

-- what a whole frame of so many bytes makes of a tally and the journal
abbrev pub TakesFrame : Setting → ℕ → Frame → Tally → List Record → Result (Unit {0}) FeedError → Tally → List Record → Type 0
TakesFrame here n f t J (Ok done) after then = at_work (stream_by after [] false) then ≡ fed_frame here n f (at_work (stream_by t [] false) J)
TakesFrame here n f t J (Err error.Memory) after then = (stream_by after [] true ≡ stream_by t [] true) × (then ≡ J)
TakesFrame here n f t J (Err error.Disk) after then = (stream_by after [] true ≡ stream_by t [] true) × IsBrokenOff (take_frame here J f) J then
TakesFrame here n f t J (Err error.Stopped) after then = (stream_by after [] true ≡ stream_by t [] true) × (then ≡ J)
TakesFrame here n f t J (Err (error.Full what)) after then = (stream_by after [] true ≡ stream_by t [] true) × ((then ≡ J) × (fed_frame here n f (at_work (stream_by t [] false) J) ≡ closed_by (out_of_room what) (at_work (stream_by t [] false) J)))
TakesFrame here n f t J (Err (error.IllFormed at)) after then = ⊥

-- the frame of a tag and a payload
abbrev pub frame_of : FrameTag → List ℕ → Frame
frame_of tag payload = record { tag = frame_byte tag; payload = payload }

-- ---- the node

-- the call gave the node a frame, was to append what it brings, and answered this
abbrev pub IsFrameCall : {N X : Type 0} → Ghosts N → Frame → N → N → Result X FeedError → Type 0
IsFrameCall g f old new result =
    IsLawfulCall g old new (brought_by (g.stands old) (g.records old) f)
    (IsErrOf result error.Stopped) (IsErrOf result error.Disk)

-- What a call that feeds bytes to an open feed makes of a node: it was to append all the records that the bytes bring
-- where nothing fails.
pub record IsFeedCall {N X : Type 0} (g : Ghosts N) (s : Feeding) (bytes : List ℕ) (old new : N) (result : Result X FeedError) : Type 0 where
  pub appends : List Record
  pub brings : (fed (g.stands old) s bytes).journal ≡ g.records old ++ appends
  pub left : IsLawfulCall g old new appends (IsErrOf result error.Stopped) (IsErrOf result error.Disk)
