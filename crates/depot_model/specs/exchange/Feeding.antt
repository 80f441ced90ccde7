-- A feed: the frames of a stream are taken one by one, each when its last byte comes.
use Rattle.std.specs.Prelude.{ℕ, ◌+◌, List, [], ◌∷◌, ◌++◌, length, Bool, true, false, ◌||◌, ◌==◌, is_some, Option, Some, None, Result, Ok, Err, if◌then◌else◌}
use Rattle.depot_base.specs.declared.limits.TheConstants.{MOST_FRAMES}
use Rattle.depot_base.specs.declared.record.Record.{Record}
use Rattle.depot_base.specs.declared.check.Check.{Check}
use Rattle.depot_base.specs.declared.check.Full.{Full}
use Rattle.depot_model.specs.declared.taken.Taken.{Taken}
use Rattle.depot_model.specs.declared.taken.Taken.TheVariants.{New, Known}
use Rattle.depot_model.specs.declared.bundle.Refusal.{Refusal}
use Rattle.depot_model.specs.declared.bundle.Report.{Report}
use Rattle.depot_model.specs.declared.bundle.Ending.{Ending}
use Rattle.depot_model.specs.declared.bundle.Ending.TheVariants as ending
use Rattle.depot_model.specs.checks.Checks.{Setting, Given}
use Rattle.depot_model.specs.checks.Taking.{Form, as_statement, as_proof, as_value, given_as, Outcome, no_room, answered, outcome_of}
use Rattle.depot_model.specs.texts.Frames.{Frame, FrameAt, whole_frame, open_frame, no_frame, frame_at}

-- ---- what a frame gives

-- what the payload of a frame with this tag is given as
abbrev pub form_of : ℕ → Form
form_of tag = if tag == 1 then as_proof else (if tag == 2 then as_statement else as_value)

-- what the payload of a frame gives a node, or where it goes wrong: a proof, a signed statement, or else a value
unfoldable pub given_by : Frame → Result Given ℕ
given_by f = given_as (form_of f.tag) f.payload

-- what becomes of a frame that isn't End
unfoldable pub take_frame : Setting → List Record → Frame → Outcome
take_frame here J f = outcome_of here J (given_by f)

-- ---- the feed

-- why a feed is closed: the stream has no frame at this offset, or there is no room for what a frame would add
pub data Closing : Type 0 where
  ill_formed : ℕ → Closing
  out_of_room : Full → Closing

-- a feed at work
pub record Feeding : Type 0 where
  -- the journal now
  pub journal : List Record
  -- how many frames were taken, End among them
  pub frames : ℕ
  -- the bytes of the open frame so far, and the offset of its first in the stream
  pub begun : List ℕ
  pub start : ℕ
  -- what the End frame said, once it came: whether there is more
  pub ended : Option Bool
  -- how many frames were New and Known, and which were refused
  pub accepted : ℕ
  pub known : ℕ
  pub refused : List Refusal
  -- why it is closed, once it is
  pub closed : Option Closing

-- a feed of which nothing came yet
abbrev pub feeding_from : List Record → Feeding
feeding_from J = record { journal = J; frames = 0; begun = []; start = 0; ended = None; accepted = 0; known = 0; refused = []; closed = None }

-- it is closed, and keeps no bytes of the frame at hand
abbrev pub closed_by : Closing → Feeding → Feeding
closed_by why s = record s { begun = []; closed = Some why }

-- a frame of this many bytes is after
abbrev pub passed : ℕ → Feeding → Feeding
passed n s = record s { frames = s.frames + 1; begun = []; start = s.start + n }

-- an answer is counted, or the refusal listed, and the journal grows
abbrev pub counted : Result Taken Check → List Record → Feeding → Feeding
counted (Ok New) new s = record s { accepted = s.accepted + 1; journal = s.journal ++ new }
counted (Ok Known) new s = record s { known = s.known + 1; journal = s.journal ++ new }
counted (Err c) new s = record s { refused = s.refused ++ record { frame = s.frames; check = c } ∷ []; journal = s.journal ++ new }

-- where there is no room the frame isn't taken, and the feed is closed
abbrev pub after_outcome : ℕ → Feeding → Outcome → Feeding
after_outcome n s (no_room what) = closed_by (out_of_room what) s
after_outcome n s (answered answer new) = passed n (counted answer new s)

-- the payload of End says more
abbrev pub says_more : List ℕ → Bool
says_more [] = false
says_more (b ∷ bytes) = b == 1

-- a whole frame of this many bytes is taken
unfoldable pub fed_frame : Setting → ℕ → Frame → Feeding → Feeding
fed_frame here n f s = if f.tag == 4 then passed n (record s { ended = Some (says_more f.payload) }) else after_outcome n s (take_frame here s.journal f)

-- the bytes since the start of a frame, its last one just having come
abbrev pub fed_at : Setting → Feeding → List ℕ → FrameAt → Feeding
fed_at here s bytes open_frame = record s { begun = bytes }
fed_at here s bytes no_frame = closed_by (ill_formed s.start) s
fed_at here s bytes (whole_frame f) = fed_frame here (length bytes) f s

-- no frame may begin any more: an End frame came, or as many frames as a stream may have
abbrev pub is_over : Feeding → Bool
is_over s = is_some s.ended || (s.frames == MOST_FRAMES)

-- One more byte. A closed feed takes nothing; a byte after the last frame that may be there closes it, whatever it is.
unfoldable pub fed_byte : Setting → Feeding → ℕ → Feeding
fed_byte here s b =
    if is_some s.closed then s
    else (if is_over s then closed_by (ill_formed s.start) s
    else fed_at here s (s.begun ++ b ∷ []) (frame_at (s.begun ++ b ∷ [])))

-- the bytes of a piece, one by one
unfoldable pub fed : Setting → Feeding → List ℕ → Feeding
fed here s [] = s
fed here s (b ∷ bytes) = fed here (fed_byte here s b) bytes

-- the feed of a whole stream to a node with this journal
abbrev pub feed_of : Setting → List Record → List ℕ → Feeding
feed_of here J stream = fed here (feeding_from J) stream

-- ---- the report

-- no End frame came: this many bytes of a frame are open, or none
abbrev pub ending_open : List ℕ → Ending
ending_open [] = ending.Bare
ending_open (b ∷ bytes) = ending.Cut (length (b ∷ bytes))

-- what the End frame said, or that none came
abbrev pub ending_by : Option Bool → List ℕ → Ending
ending_by (Some true) begun = ending.More
ending_by (Some false) begun = ending.Whole
ending_by None begun = ending_open begun

-- how a feed ends: closed, as the End frame said, or with no End frame and maybe a frame open
unfoldable pub ending_of : Feeding → Ending
ending_of s = if is_some s.closed then ending.Closed else ending_by s.ended s.begun

-- what became of the frames
unfoldable pub report_of : Feeding → Report
report_of s = record { accepted = s.accepted; known = s.known; refused = s.refused; ending = ending_of s }
