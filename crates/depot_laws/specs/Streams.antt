-- Feeds of whole frames, what a feed keeps, and what is at a place of a stream.
use Rattle.std.specs.Prelude.{◌≡◌, ℕ, ◌<◌, List, [], ◌∷◌, ◌++◌, length, false, is_some, slice_index}
use Rattle.depot_model.specs.checks.Checks.{Setting}
use Rattle.depot_model.specs.texts.Frames.{Frame, text_of_frame, IsFrame}
use Rattle.depot_model.specs.exchange.Feeding.{Feeding, fed, fed_frame, is_over}
use Rattle.depot_model.specs.journals.Lawful.{IsLawful, is_empty}

-- the pieces of a stream, one after another
abbrev pub fed_pieces : Setting → Feeding → List (List ℕ) → Feeding
fed_pieces here s [] = s
fed_pieces here s (p ∷ ps) = fed_pieces here (fed here s p) ps

-- these frames are taken in order
abbrev pub fed_frames : Setting → Feeding → List Frame → Feeding
fed_frames here s [] = s
fed_frames here s (f ∷ fs) = fed_frames here (fed_frame here (length (text_of_frame f)) f s) fs

-- before each of them the feed is neither closed nor over
abbrev pub StaysOpen : Setting → Feeding → List Frame → Type 0
StaysOpen here s [] = Unit {0}
StaysOpen here s (f ∷ fs) = (is_some s.closed ≡ false) × ((is_over s ≡ false) × StaysOpen here (fed_frame here (length (text_of_frame f)) f s) fs)

-- each is a byte
abbrev pub AreBytes : List ℕ → Type 0
AreBytes bytes = (i : ℕ) → slice_index bytes i < 256

-- The journal is lawful and has begun, and what is open are bytes.
pub record IsInOrder (here : Setting) (s : Feeding) : Type 0 where
  pub lawful : IsLawful here s.journal
  pub some : is_empty s.journal ≡ false
  pub bytes : AreBytes s.begun

-- the text of this frame is before the bytes
pub record BeginsWith (bytes : List ℕ) (f : Frame) : Type 0 where
  pub good : IsFrame f
  pub rest : List ℕ
  pub is : bytes ≡ text_of_frame f ++ rest

-- the text of a frame begins with these bytes, and some of it is still to come
pub record IsBegun (bytes : List ℕ) : Type 0 where
  pub frame : Frame
  pub good : IsFrame frame
  pub more : List ℕ
  pub some : 0 < length more
  pub is : bytes ++ more ≡ text_of_frame frame
