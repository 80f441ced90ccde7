-- A stream of frames: each is a tag, the length of its payload as four bytes, and the payload.
use Rattle.std.specs.Prelude.{◌≡◌, ℕ, ◌-◌, ◌≤◌, ◌⊎◌, List, [], ◌∷◌, ◌++◌, length, take, drop, replicate, Bool, false, not, ◌&&◌, ◌||◌, ◌==◌, nat_le, nat_lt, if◌then◌else◌}
use Rattle.std.specs.Int.{w32, from_be_bytes}
use Rattle.depot_base.specs.declared.limits.TheConstants.{MOST_PAYLOAD}
use Rattle.depot_base.specs.Cursor.{numeral}

-- a tag, 1 for a proof, 2 for a signed statement, 3 for a value, 4 for End, and a payload
pub record Frame : Type 0 where
  pub tag : ℕ
  pub payload : List ℕ

-- the text of a frame: tag, length, payload
abbrev pub text_of_frame : Frame → List ℕ
text_of_frame f = f.tag ∷ (numeral w32 (length f.payload) ++ f.payload)

-- ---- which frames there are

-- the four tags
abbrev pub is_tag : ℕ → Bool
is_tag tag = nat_le 1 tag && nat_le tag 4

-- the least length of a payload: 1 for End
abbrev pub least_length : ℕ → ℕ
least_length tag = if tag == 4 then 1 else 0

-- the greatest length of a payload: 1 for End, else 131,072
abbrev pub most_length : ℕ → ℕ
most_length tag = if tag == 4 then 1 else MOST_PAYLOAD

-- the payload of End: 0 where nothing was left, 1 where there is more
abbrev pub IsEnd : List ℕ → Type 0
IsEnd payload = (payload ≡ 0 ∷ []) ⊎ (payload ≡ 1 ∷ [])

-- a frame: a tag, a payload that isn't too long, and that of End is one byte
pub record IsFrame (f : Frame) : Type 0 where
  pub least : 1 ≤ f.tag
  pub most : f.tag ≤ 4
  pub short : length f.payload ≤ MOST_PAYLOAD
  pub end : f.tag ≡ 4 → IsEnd f.payload

-- ---- what is at a place of a stream

-- what the bytes from a frame's start on are: a whole frame, the beginning of one, or of none, whatever may come
pub data FrameAt : Type 0 where
  whole_frame : Frame → FrameAt
  open_frame : FrameAt
  no_frame : FrameAt

-- bytes of a length field, up to four, can be extended to a number from low to high: the least and the greatest that
-- they can become say so
abbrev pub may_be_within : ℕ → ℕ → List ℕ → Bool
may_be_within low high bytes =
    nat_le (from_be_bytes w32 (bytes ++ replicate (4 - length bytes) 0)) high && nat_le low (from_be_bytes w32 (bytes ++ replicate (4 - length bytes) 255))

-- the byte at the front is neither 0 nor 1
abbrev pub is_no_flag : List ℕ → Bool
is_no_flag [] = false
is_no_flag (b ∷ bytes) = nat_lt 1 b

-- no frame with this tag continues so: its length is out of range, or the byte of End is neither 0 nor 1
abbrev pub goes_astray : ℕ → List ℕ → List ℕ → Bool
goes_astray tag length_bytes payload = not (may_be_within (least_length tag) (most_length tag) length_bytes) || ((tag == 4) && is_no_flag payload)

-- the payload before these bytes, where they have this many
abbrev pub payload_in : ℕ → ℕ → List ℕ → FrameAt
payload_in tag n bytes = if nat_lt (length bytes) n then open_frame else whole_frame (record { tag = tag; payload = take n bytes })

-- What the bytes from a frame's start on are. That there is no frame is seen at the first byte that decides it.
unfoldable pub frame_at : List ℕ → FrameAt
frame_at [] = open_frame
frame_at (tag ∷ bytes) =
    if not (is_tag tag) || goes_astray tag (take 4 bytes) (drop 4 bytes) then no_frame
    else (if nat_lt (length bytes) 4 then open_frame else payload_in tag (from_be_bytes w32 (take 4 bytes)) (drop 4 bytes))
