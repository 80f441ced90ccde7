-- How far an open frame is from its end.
use Rattle.std.specs.Prelude.{◌≡◌, ℕ, ◌+◌, ◌-◌, List, length, take, drop, nat_lt, if◌then◌else◌}
use Rattle.std.specs.Int.{w32, from_be_bytes}
use Rattle.depot_base.specs.declared.limits.TheConstants.{MOST_PAYLOAD}
use Rattle.depot_base.specs.Tags.{frame_byte}
use Rattle.depot_model.specs.texts.Frames.{FrameAt, whole_frame, open_frame, no_frame}
use Rattle.depot_streams.specs.declared.frame.FrameStart.{FrameStart}
use Rattle.depot_streams.specs.declared.frame.FrameStart.TheVariants as starts
use Rattle.depot_streams.specs.declared.frame.FrameAt.{FrameAt as Place}
use Rattle.depot_streams.specs.declared.frame.FrameAt.TheVariants as place

-- the most bytes of a frame: its tag, its length and its payload
abbrev pub most_frame : ℕ
most_frame = 5 + MOST_PAYLOAD

-- The most bytes that may be read at once: after the five bytes of its head those of the payload that are missing, else
-- one.
unfoldable pub bytes_missing : List ℕ → ℕ
bytes_missing bytes = if nat_lt (length bytes) 5 then 1 else (5 + from_be_bytes w32 (take 4 (drop 1 bytes))) - length bytes

-- this is what is there, from a frame's start on
abbrev pub IsFrameStart : FrameAt → FrameStart → Type 0
IsFrameStart at starts.Open = at ≡ open_frame
IsFrameStart at (starts.Whole tag payload) = at ≡ whole_frame (record { tag = frame_byte tag; payload = payload.now })
IsFrameStart at starts.Nothing = at ≡ no_frame

-- this is what is at a place of a stream: a frame by its tag, and by the place after its five bytes and its payload
abbrev pub StandsAt : FrameAt → ℕ → Place → Type 0
StandsAt found at place.Open = found ≡ open_frame
StandsAt found at (place.Frame tag end) = (payload : List ℕ) × ((found ≡ whole_frame (record { tag = frame_byte tag; payload = payload })) × (end ≡ at + (5 + length payload)))
StandsAt found at place.Ill = found ≡ no_frame
