-- What a feed keeps of a stream, and what a piece makes of it.
use Rattle.std.specs.Prelude.{◌≡◌, ℕ, ◌==◌, List, [], ◌∷◌, ◌++◌, Bool, true, false, is_some, Option, Some, None, Result, Ok, Err, IsErrOf, if◌then◌else◌}
use Rattle.depot_base.specs.declared.record.Record.{Record}
use Rattle.depot_base.specs.declared.check.Check.{Check}
use Rattle.depot_model.specs.declared.taken.Taken.{Taken}
use Rattle.depot_model.specs.declared.bundle.Refusal.{Refusal}
use Rattle.depot_model.specs.declared.bundle.Report.{Report}
use Rattle.depot_model.specs.declared.bundle.Ending.TheVariants as ending
use Rattle.depot_model.specs.checks.Checks.{Setting}
use Rattle.depot_model.specs.texts.Frames.{Frame, frame_at, whole_frame}
use Rattle.depot_model.specs.checks.Taking.{answered, appended_by}
use Rattle.depot_model.specs.checks.Limits.{IsCutShort}
use Rattle.depot_model.specs.exchange.Feeding.{Feeding, ill_formed, out_of_room, is_over, fed, take_frame, ending_by}
use Rattle.depot_streams.specs.declared.feed_error.FeedError.{FeedError}
use Rattle.depot_streams.specs.declared.feed_error.FeedError.TheVariants as error

-- What a feed keeps: all of a feed at work, except the journal, which the node has, and why it is closed, which the
-- call reported.
pub record Stream : Type 0 where
  -- how many frames were taken, End among them
  pub frames : ℕ
  -- the bytes of the open frame so far, and the offset of its first in the stream
  pub begun : List ℕ
  pub start : ℕ
  -- what the End frame said, once it came: whether there is more
  pub ended : Option Bool
  -- how many frames were New and Known, and which were refused
  pub accepted : ℕ
  pub known : ℕ
  pub refused : List Refusal
  -- whether it is closed
  pub closed : Bool

-- a stream of which nothing came yet
abbrev pub no_stream : Stream
no_stream = record { frames = 0; begun = []; start = 0; ended = None; accepted = 0; known = 0; refused = []; closed = false }

-- what is kept of a feed at work
abbrev pub stream_of : Feeding → Stream
stream_of s = record { frames = s.frames; begun = s.begun; start = s.start; ended = s.ended; accepted = s.accepted; known = s.known; refused = s.refused; closed = is_some s.closed }

-- the feed at work, with the journal of the node, as long as it isn't closed
abbrev pub at_work : Stream → List Record → Feeding
at_work s J = record { journal = J; frames = s.frames; begun = s.begun; start = s.start; ended = s.ended; accepted = s.accepted; known = s.known; refused = s.refused; closed = None }

-- closed, and without the bytes of the current frame
abbrev pub shut : Stream → Stream
shut s = record s { begun = []; closed = true }

-- what became of the frames of a stream
abbrev pub report_of_stream : Stream → Report
report_of_stream s = record { accepted = s.accepted; known = s.known; refused = s.refused; ending = if s.closed then ending.Closed else ending_by s.ended s.begun }

-- ---- a piece

-- what a frame brings a journal where nothing fails: End nothing, any other the records that are appended for it
abbrev pub brought_by : Setting → List Record → Frame → List Record
brought_by here J f = if f.tag == 4 then [] else appended_by (take_frame here J f)

-- the stream and the journal are those of this feed at work
pub record AreOf (s : Feeding) (S : Stream) (J : List Record) : Type 0 where
  pub stream : S ≡ stream_of s
  pub journal : J ≡ s.journal

-- A prefix of the bytes was fed, and nothing after it: the current frame is dropped, and the feed is closed.
pub record IsDropped (here : Setting) (s : Feeding) (bytes : List ℕ) (S : Stream) (J : List Record) : Type 0 where
  pub front : List ℕ
  pub rest : List ℕ
  pub parts : bytes ≡ front ++ rest
  pub going : (fed here s front).closed ≡ None
  pub stream : S ≡ shut (stream_of (fed here s front))
  pub journal : J ≡ (fed here s front).journal

-- A prefix of the bytes was fed, and the next byte completes a frame. The disk failed while the journal grew for this
-- frame; the feed is closed without it.
pub record IsBrokenOff (here : Setting) (s : Feeding) (bytes : List ℕ) (S : Stream) (J : List Record) : Type 0 where
  pub front : List ℕ
  pub byte : ℕ
  pub rest : List ℕ
  pub parts : bytes ≡ front ++ byte ∷ rest
  pub going : (fed here s front).closed ≡ None
  pub may_come : is_over (fed here s front) ≡ false
  pub frame : Frame
  pub whole : frame_at ((fed here s front).begun ++ byte ∷ []) ≡ whole_frame frame
  pub answer : Result Taken Check
  pub new : List Record
  pub outcome : take_frame here (fed here s front).journal frame ≡ answered answer new
  pub cut : IsCutShort (fed here s front).journal new J
  pub stream : S ≡ shut (stream_of (fed here s front))

-- What a piece makes of an open feed, and the stream and the journal after it. Every error closes the feed. `Memory`
-- and `Disk` may replace each answer but `Stopped`; then a prefix of the bytes was fed.
abbrev pub Feeds : Setting → Feeding → List ℕ → Result (Unit {0}) FeedError → Stream → List Record → Type 0
Feeds here s bytes (Ok done) S J = ((fed here s bytes).closed ≡ None) × AreOf (fed here s bytes) S J
Feeds here s bytes (Err (error.IllFormed at)) S J = ((fed here s bytes).closed ≡ Some (ill_formed at)) × AreOf (fed here s bytes) S J
Feeds here s bytes (Err (error.Full what)) S J = ((fed here s bytes).closed ≡ Some (out_of_room what)) × AreOf (fed here s bytes) S J
Feeds here s bytes (Err error.Memory) S J = IsDropped here s bytes S J
Feeds here s bytes (Err error.Disk) S J = IsBrokenOff here s bytes S J
Feeds here s bytes (Err error.Stopped) S J = (S ≡ shut (stream_of s)) × (J ≡ s.journal)

-- Two pieces were fed, one right after the other. The first was taken; the second answered this, but not `Stopped`.
pub record FeedsBoth (here : Setting) (s : Feeding) (first second : List ℕ) (result : Result (Unit {0}) FeedError) (S : Stream) (J : List Record) : Type 0 where
  pub stream : Stream
  pub journal : List Record
  pub taken : Feeds here s first (Ok tt) stream journal
  pub runs : IsErrOf result error.Stopped → ⊥
  pub fed : Feeds here (at_work stream journal) second result S J
