-- Worked examples of frames: what the bytes from a frame's start on are, and at which byte it is seen that there is none.
use Rattle.std.proofs.Common.{◌≡◌, [], ◌∷◌, refl}
use Rattle.depot_model.specs.texts.Frames.{Frame, whole_frame, open_frame, no_frame, frame_at}

-- a value of one byte
abbrev one_value : Frame
one_value = record { tag = 3; payload = 97 ∷ [] }

-- a frame is whole with its last byte, and open before it
whole_value : frame_at (3 ∷ 0 ∷ 0 ∷ 0 ∷ 1 ∷ 97 ∷ []) ≡ whole_frame one_value
unfolding frame_at
whole_value = refl

open_value : frame_at (3 ∷ 0 ∷ 0 ∷ 0 ∷ 1 ∷ []) ≡ open_frame
unfolding frame_at
open_value = refl

nothing_yet : frame_at [] ≡ open_frame
unfolding frame_at
nothing_yet = refl

-- a payload may be empty: then the length's last byte is the frame's last
empty_value : frame_at (3 ∷ 0 ∷ 0 ∷ 0 ∷ 0 ∷ []) ≡ whole_frame (record { tag = 3; payload = [] })
unfolding frame_at
empty_value = refl

-- no tag
tag_zero : frame_at (0 ∷ []) ≡ no_frame
unfolding frame_at
tag_zero = refl

tag_nine : frame_at (9 ∷ []) ≡ no_frame
unfolding frame_at
tag_nine = refl

-- a length over 131,072 is seen at the first byte that leaves no length in range
length_at_first : frame_at (3 ∷ 1 ∷ []) ≡ no_frame
unfolding frame_at
length_at_first = refl

length_at_second : frame_at (3 ∷ 0 ∷ 3 ∷ []) ≡ no_frame
unfolding frame_at
length_at_second = refl

length_still_open : frame_at (3 ∷ 0 ∷ 2 ∷ 0 ∷ []) ≡ open_frame
unfolding frame_at
length_still_open = refl

longest : frame_at (3 ∷ 0 ∷ 2 ∷ 0 ∷ 0 ∷ []) ≡ open_frame
unfolding frame_at
longest = refl

one_too_long : frame_at (3 ∷ 0 ∷ 2 ∷ 0 ∷ 1 ∷ []) ≡ no_frame
unfolding frame_at
one_too_long = refl

-- End has one byte, 0 or 1
end_first : frame_at (4 ∷ 1 ∷ []) ≡ no_frame
unfolding frame_at
end_first = refl

end_open : frame_at (4 ∷ 0 ∷ 0 ∷ []) ≡ open_frame
unfolding frame_at
end_open = refl

end_empty : frame_at (4 ∷ 0 ∷ 0 ∷ 0 ∷ 0 ∷ []) ≡ no_frame
unfolding frame_at
end_empty = refl

end_two_bytes : frame_at (4 ∷ 0 ∷ 0 ∷ 0 ∷ 2 ∷ []) ≡ no_frame
unfolding frame_at
end_two_bytes = refl

end_of_all : frame_at (4 ∷ 0 ∷ 0 ∷ 0 ∷ 1 ∷ 0 ∷ []) ≡ whole_frame (record { tag = 4; payload = 0 ∷ [] })
unfolding frame_at
end_of_all = refl

end_other_byte : frame_at (4 ∷ 0 ∷ 0 ∷ 0 ∷ 1 ∷ 2 ∷ []) ≡ no_frame
unfolding frame_at
end_other_byte = refl
