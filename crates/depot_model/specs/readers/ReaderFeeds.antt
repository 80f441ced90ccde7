-- A reader takes the frames of a stream.
use Rattle.std.specs.Prelude.{ℕ, zero, suc, ◌+◌, List, [], ◌∷◌, length, drop, ◌==◌, Option, Some, None, Result, Ok, Err, if◌then◌else◌}
use Rattle.depot_base.specs.declared.limits.TheConstants.{MOST_FRAMES}
use Rattle.depot_base.specs.declared.check.Check.{Check}
use Rattle.depot_base.specs.declared.check.Full.{Full}
use Rattle.depot_model.specs.declared.taken.Taken.{Taken}
use Rattle.depot_model.specs.declared.taken.Taken.TheVariants.{New, Known}
use Rattle.depot_model.specs.exchange.Feeding.{form_of}
use Rattle.depot_model.specs.texts.Frames.{Frame, whole_frame, open_frame, no_frame, frame_at}
use Rattle.depot_model.specs.readers.Readers.{Reader, stands_below, too_full, told, reader_takes}

-- The frames before a stream, as long as they are whole: at most this many, and up to an End frame, which isn't one of
-- them.
unfoldable pub frames_from : ℕ → List ℕ → List Frame
frames_from zero bytes = []
frames_from (suc n) bytes = elim (frame_at bytes) [
  | whole_frame f ↦ if f.tag == 4 then [] else f ∷ frames_from n (drop (5 + length f.payload) bytes)
  | open_frame ↦ []
  | no_frame ↦ []
]

-- what a reader made of frames: itself after them, how many were New, Known, refused, and was below, and the limit that
-- was met
pub record ReaderFeed : Type 0 where
  pub reader : Reader
  pub accepted : ℕ
  pub known : ℕ
  pub refused : ℕ
  pub below : ℕ
  pub full : Option Full

-- a reader that was given no frame yet
abbrev pub reader_feed_from : Reader → ReaderFeed
reader_feed_from R = record { reader = R; accepted = 0; known = 0; refused = 0; below = 0; full = None }

-- one frame more was answered so, and this is the reader after it
abbrev pub told_more : Result Taken Check → Reader → ReaderFeed → ReaderFeed
told_more (Ok New) R s = record s { reader = R; accepted = s.accepted + 1 }
told_more (Ok Known) R s = record s { reader = R; known = s.known + 1 }
told_more (Err c) R s = record s { reader = R; refused = s.refused + 1 }

-- The frames are taken one by one, up to the first for which there is no room. A refusal may convict, so the reader
-- continues from it too.
unfoldable pub reader_fed : ReaderFeed → List Frame → ReaderFeed
reader_fed s [] = s
reader_fed s (f ∷ fs) = elim (reader_takes s.reader (form_of f.tag) f.payload) [
  | stands_below id ↦ reader_fed (record s { below = s.below + 1 }) fs
  | too_full what ↦ record s { full = Some what }
  | told answer R ↦ reader_fed (told_more answer R s) fs
]

-- a whole stream
unfoldable pub reader_feed_of : Reader → List ℕ → ReaderFeed
reader_feed_of R stream = reader_fed (reader_feed_from R) (frames_from MOST_FRAMES stream)
