-- A whole frame is whole among the bytes that begin with it.
use Rattle.std.proofs.Common.{◌≡◌, ℕ, suc, ◌+◌, ◌≤◌, List, [], ◌∷◌, length, take, drop, Bool, true, false, not, cond, ◌||◌, ◌-◌, refl, sym, ap, ◌∙◌, arith}
use Rattle.std.specs.Prelude.{nat_lt}
use Rattle.std.specs.Int.{w32, from_be_bytes}
use Rattle.std.proofs.lemmas.Bool.Decides.{nat_tests}
use Rattle.std.proofs.lemmas.List.{length-drop, length-take, take_all}
use Rattle.depot_model.specs.texts.Frames.{Frame, whole_frame, open_frame, no_frame, is_tag, goes_astray, frame_at}

enough : (n m : ℕ) → nat_lt m n ≡ false → n ≤ m
enough n m e = grind (arith, nat_tests)

front_long : (n : ℕ) (xs : List ℕ) → nat_lt (length xs) n ≡ false → length (take n xs) ≡ n
front_long n xs e = let low = enough n (length xs) e in omega (arith, length-take n xs, low)

by_tests : (astray few short : Bool) (tag n : ℕ) (bytes : List ℕ) (f : Frame) → nat_lt (length bytes) 4 ≡ few → nat_lt (length (drop 4 bytes)) n ≡ short
    → cond astray no_frame (cond few open_frame (cond short open_frame (whole_frame (record { tag = tag; payload = take n (drop 4 bytes) })))) ≡ whole_frame f → 5 + length f.payload ≤ suc (length bytes)
by_tests true few short tag n bytes f few_is short_is e = absurd cc
by_tests false true short tag n bytes f few_is short_is e = absurd cc
by_tests false false true tag n bytes f few_is short_is e = absurd cc
by_tests false false false tag n bytes f few_is short_is e =
    let same : record { tag = tag; payload = take n (drop 4 bytes) } ≡ f = cc in
    let long : length (take n (drop 4 bytes)) ≡ length f.payload = ap (λ (g : Frame). length g.payload) same in
    let front = front_long n (drop 4 bytes) short_is in
    let head = enough 4 (length bytes) few_is in
    let all = enough n (length (drop 4 bytes)) short_is in
    omega (arith, long, front, head, all, length-drop 4 bytes)

-- its five bytes and its payload are among them
pub whole_within : (bytes : List ℕ) (f : Frame) → frame_at bytes ≡ whole_frame f → 5 + length f.payload ≤ length bytes
unfolding frame_at
whole_within [] f e = absurd cc
whole_within (tag ∷ bytes) f e = by_tests (not (is_tag tag) || goes_astray tag (take 4 bytes) (drop 4 bytes)) (nat_lt (length bytes) 4) (nat_lt (length (drop 4 bytes)) (from_be_bytes w32 (take 4 bytes))) tag (from_be_bytes w32 (take 4 bytes)) bytes f refl refl e

-- ---- at a place

-- what is at a place is a whole frame, and this is the place after it
pub record IsWholeAt (stream : List ℕ) (at tag : ℕ) (payload : List ℕ) : Type 0 where
  pub is : frame_at (drop at stream) ≡ whole_frame (record { tag = tag; payload = payload })
  pub within : 5 + length payload ≤ length (take (length stream - at) (drop at stream))
  pub end : length stream - (length (take (length stream - at) (drop at stream)) - 5 - length payload) ≡ at + (5 + length payload)

pub whole_at : (stream : List ℕ) (at tag : ℕ) (payload : List ℕ) → at ≤ length stream → frame_at (take (length stream - at) (drop at stream)) ≡ whole_frame (record { tag = tag; payload = payload }) → IsWholeAt stream at tag payload
whole_at stream at tag payload low e =
    let rest : length (drop at stream) ≡ length stream - at = length-drop at stream in
    let all : take (length stream - at) (drop at stream) ≡ drop at stream = take_all (length stream - at) (drop at stream) (omega (arith, rest)) in
    let is = sym (ap frame_at all) ∙ e in
    let within = whole_within (drop at stream) (record { tag = tag; payload = payload }) is in
    let long : length (take (length stream - at) (drop at stream)) ≡ length stream - at = ap length all ∙ rest in
    record { is = is; within = omega (arith, within, long, rest); end = omega (arith, within, long, rest, low) }
