-- Bytes that are reported as open can be extended to a frame. So that there is no frame is reported at the first byte
-- that decides it.
use Rattle.std.proofs.Common.{◌≡◌, ℕ, zero, suc, ◌-◌, ◌<◌, ◌≤◌, List, [], ◌∷◌, ◌++◌, append_assoc, length, take, drop, replicate, Bool, true, false, not, cond, ltb, leb, ◌&&◌, ◌||◌, ◌==◌, get_or, refl, sym, ap, subst, ◌∙◌, arith, inl}
use Rattle.std.specs.Int.{w32, from_be_bytes}
use Rattle.std.proofs.lemmas.Bool.{ltb-true, le-ltb, leb-true, and_parts}
use Rattle.std.proofs.lemmas.Bool.Decides.{nat_tests}
use Rattle.std.proofs.lemmas.List.{length-append, length-replicate}
use Rattle.std.proofs.lemmas.Nat.{be_bytes_4}
use Rattle.depot_base.specs.Cursor.{numeral}
use Rattle.depot_base.proofs.FormatLaws.{IsBytes}
use Rattle.depot_model.specs.texts.Frames.{Frame, text_of_frame, IsFrame, FrameAt, whole_frame, open_frame, no_frame, is_tag, least_length, most_length, may_be_within, is_no_flag, goes_astray, payload_in, frame_at}
use Rattle.depot_model.proofs.of_texts.FrameLaws.{worth}

-- with more bytes after them these are the text of a frame
pub record CanGoOn (bytes : List ℕ) : Type 0 where
  pub frame : Frame
  pub good : IsFrame frame
  pub more : List ℕ
  pub parts : bytes ++ more ≡ text_of_frame frame

-- bytes below 256
record AreSmall (x y z w : ℕ) : Type 0 where
  pub first : x < 256
  pub second : y < 256
  pub third : z < 256
  pub fourth : w < 256

spelled_back : (x y z w : ℕ) → AreSmall x y z w → numeral w32 (from_be_bytes w32 (x ∷ y ∷ z ∷ w ∷ [])) ≡ x ∷ y ∷ z ∷ w ∷ []
unfolding numeral
spelled_back x y z w s = be_bytes_4 (x ∷ y ∷ z ∷ w ∷ []) _ refl small refl where
  small : (i : ℕ) → get_or (x ∷ y ∷ z ∷ w ∷ []) i 0 < 256
  small zero = s.first
  small (suc zero) = s.second
  small (suc (suc zero)) = s.third
  small (suc (suc (suc zero))) = s.fourth
  small (suc (suc (suc (suc i)))) = omega arith

-- a payload that isn't whole is filled with zeros
filled : ℕ → List ℕ → List ℕ
filled n r = r ++ replicate (n - length r) 0

filled_length : (n : ℕ) (r : List ℕ) → length r ≤ n → length (filled n r) ≡ n
unfolding filled
filled_length n r le = length-append r (replicate (n - length r) 0) ∙ omega (arith, length-replicate {A = ℕ} (n - length r) 0, le)

-- a frame that isn't End
filled_frame : (tag x y z w : ℕ) (r : List ℕ) → AreSmall x y z w → 1 ≤ tag → tag ≤ 4 → (tag ≡ 4 → ⊥) → from_be_bytes w32 (x ∷ y ∷ z ∷ w ∷ []) ≤ 131072 → length r ≤ from_be_bytes w32 (x ∷ y ∷ z ∷ w ∷ []) → CanGoOn (tag ∷ x ∷ y ∷ z ∷ w ∷ r)
unfolding filled
filled_frame tag x y z w r small least most not_end short le =
    let n = from_be_bytes w32 (x ∷ y ∷ z ∷ w ∷ []) in
    let len = filled_length n r le in
    record {
      frame = record { tag = tag; payload = filled n r };
      good = record { least = least; most = most; short = omega (arith, len, short); end = λ is. absurd (not_end is) };
      more = replicate (n - length r) 0;
      parts = rw (len, spelled_back x y z w small) refl;
    }

-- with fewer bytes at the front
fewer : (bytes more : List ℕ) → CanGoOn (bytes ++ more) → CanGoOn bytes
fewer bytes more c = record { frame = c.frame; good = c.good; more = more ++ c.more; parts = sym (append_assoc bytes more c.more) ∙ c.parts }

end_frame_good : IsFrame (record { tag = 4; payload = 0 ∷ [] })
end_frame_good = record { least = omega arith; most = omega arith; short = omega arith; end = λ is. inl refl }

end_goes_on : CanGoOn (4 ∷ 0 ∷ 0 ∷ 0 ∷ 1 ∷ [])
unfolding numeral
end_goes_on = record { frame = record { tag = 4; payload = 0 ∷ [] }; good = end_frame_good; more = 0 ∷ []; parts = refl }

-- ---- what the tests say

pub cleared : (a b : Bool) → (not a || b) ≡ false → (a ≡ true) × (b ≡ false)
cleared true b e = (refl, e)
cleared false b e = absurd cc

abbrev code : FrameAt → ℕ
code (whole_frame f) = 0
code open_frame = 1
code no_frame = 2

pub not_astray : (t : Bool) (x : FrameAt) → cond t no_frame x ≡ open_frame → (t ≡ false) × (x ≡ open_frame)
not_astray true x e = let two_is_one : 2 ≡ 1 = ap code e in absurd (omega (arith, two_is_one))
not_astray false x e = (refl, e)

pub still_short : (t : Bool) (f : Frame) → cond t open_frame (whole_frame f) ≡ open_frame → t ≡ true
still_short true f e = refl
still_short false f e = let none_is_one : 0 ≡ 1 = ap code e in absurd (omega (arith, none_is_one))

pub behind_four : (t : Bool) (x : FrameAt) → t ≡ false → cond t open_frame x ≡ open_frame → x ≡ open_frame
behind_four true x p e = absurd cc
behind_four false x p e = e

-- ---- the two sorts of frames

IsWithin : ℕ → ℕ → List ℕ → Type 0
IsWithin low high l = may_be_within low high (take 4 l) ≡ true

pub bounds : (a b c d : ℕ) → (leb a b && leb c d) ≡ true → (a ≤ b) × (c ≤ d)
bounds a b c d e = let p = and_parts (leb a b) (leb c d) e in (leb-true _ _ p.0, leb-true _ _ p.1)

zeros_small : AreSmall 0 0 0 0
zeros_small = record { first = omega arith; second = omega arith; third = omega arith; fourth = omega arith }

plain : (tag : ℕ) (l : List ℕ) → 1 ≤ tag → tag ≤ 4 → (tag ≡ 4 → ⊥) → IsBytes l → IsWithin 0 131072 l → cond (ltb (length l) 4) open_frame (payload_in tag (from_be_bytes w32 (take 4 l)) (drop 4 l)) ≡ open_frame → CanGoOn (tag ∷ l)
unfolding IsWithin
plain tag [] least most not_end small may told = fewer (tag ∷ []) (0 ∷ 0 ∷ 0 ∷ 0 ∷ []) (filled_frame tag 0 0 0 0 [] zeros_small least most not_end (omega arith) (omega arith))
plain tag (x ∷ []) least most not_end small may told =
    let b = bounds (from_be_bytes w32 (x ∷ 0 ∷ 0 ∷ 0 ∷ [])) 131072 0 (from_be_bytes w32 (x ∷ 255 ∷ 255 ∷ 255 ∷ [])) may in
    fewer (tag ∷ x ∷ []) (0 ∷ 0 ∷ 0 ∷ []) (filled_frame tag x 0 0 0 [] (record { first = small 0; second = omega arith; third = omega arith; fourth = omega arith }) least most not_end b.0 (omega arith))
plain tag (x ∷ y ∷ []) least most not_end small may told =
    let b = bounds (from_be_bytes w32 (x ∷ y ∷ 0 ∷ 0 ∷ [])) 131072 0 (from_be_bytes w32 (x ∷ y ∷ 255 ∷ 255 ∷ [])) may in
    fewer (tag ∷ x ∷ y ∷ []) (0 ∷ 0 ∷ []) (filled_frame tag x y 0 0 [] (record { first = small 0; second = small 1; third = omega arith; fourth = omega arith }) least most not_end b.0 (omega arith))
plain tag (x ∷ y ∷ z ∷ []) least most not_end small may told =
    let b = bounds (from_be_bytes w32 (x ∷ y ∷ z ∷ 0 ∷ [])) 131072 0 (from_be_bytes w32 (x ∷ y ∷ z ∷ 255 ∷ [])) may in
    fewer (tag ∷ x ∷ y ∷ z ∷ []) (0 ∷ []) (filled_frame tag x y z 0 [] (record { first = small 0; second = small 1; third = small 2; fourth = omega arith }) least most not_end b.0 (omega arith))
plain tag (x ∷ y ∷ z ∷ w ∷ r) least most not_end small may told =
    let b = bounds (from_be_bytes w32 (x ∷ y ∷ z ∷ w ∷ [])) 131072 0 (from_be_bytes w32 (x ∷ y ∷ z ∷ w ∷ [])) may in
    let enough : ltb (length (x ∷ y ∷ z ∷ w ∷ r)) 4 ≡ false = le-ltb _ _ (omega arith) in
    let short = still_short (ltb (length r) (from_be_bytes w32 (x ∷ y ∷ z ∷ w ∷ []))) (record { tag = tag; payload = take (from_be_bytes w32 (x ∷ y ∷ z ∷ w ∷ [])) r }) (behind_four (ltb (length (x ∷ y ∷ z ∷ w ∷ r)) 4) (payload_in tag (from_be_bytes w32 (x ∷ y ∷ z ∷ w ∷ [])) r) enough told) in
    filled_frame tag x y z w r (record { first = small 0; second = small 1; third = small 2; fourth = small 3 }) least most not_end b.0 (omega (arith, ltb-true _ _ short))

same_end : (bytes more : List ℕ) → bytes ++ more ≡ 4 ∷ 0 ∷ 0 ∷ 0 ∷ 1 ∷ [] → CanGoOn bytes
same_end bytes more e = fewer bytes more (subst (λ (b : List ℕ). CanGoOn b) (sym e) end_goes_on)

last : (l : List ℕ) → IsWithin 1 1 l → cond (ltb (length l) 4) open_frame (payload_in 4 (from_be_bytes w32 (take 4 l)) (drop 4 l)) ≡ open_frame → CanGoOn (4 ∷ l)
unfolding IsWithin
last [] may told = same_end (4 ∷ []) (0 ∷ 0 ∷ 0 ∷ 1 ∷ []) refl
last (x ∷ []) may told =
    let b = bounds (from_be_bytes w32 (x ∷ 0 ∷ 0 ∷ 0 ∷ [])) 1 1 (from_be_bytes w32 (x ∷ 255 ∷ 255 ∷ 255 ∷ [])) may in
    let x_zero : x ≡ 0 = omega (arith, b.0, worth x 0 0 0) in
    same_end (4 ∷ x ∷ []) (0 ∷ 0 ∷ 1 ∷ []) (rw x_zero refl)
last (x ∷ y ∷ []) may told =
    let b = bounds (from_be_bytes w32 (x ∷ y ∷ 0 ∷ 0 ∷ [])) 1 1 (from_be_bytes w32 (x ∷ y ∷ 255 ∷ 255 ∷ [])) may in
    let x_zero : x ≡ 0 = omega (arith, b.0, worth x y 0 0) in
    let y_zero : y ≡ 0 = omega (arith, b.0, worth x y 0 0) in
    same_end (4 ∷ x ∷ y ∷ []) (0 ∷ 1 ∷ []) (rw (x_zero, y_zero) refl)
last (x ∷ y ∷ z ∷ []) may told =
    let b = bounds (from_be_bytes w32 (x ∷ y ∷ z ∷ 0 ∷ [])) 1 1 (from_be_bytes w32 (x ∷ y ∷ z ∷ 255 ∷ [])) may in
    let x_zero : x ≡ 0 = omega (arith, b.0, worth x y z 0) in
    let y_zero : y ≡ 0 = omega (arith, b.0, worth x y z 0) in
    let z_zero : z ≡ 0 = omega (arith, b.0, worth x y z 0) in
    same_end (4 ∷ x ∷ y ∷ z ∷ []) (1 ∷ []) (rw (x_zero, y_zero, z_zero) refl)
last (x ∷ y ∷ z ∷ w ∷ r) may told =
    let b = bounds (from_be_bytes w32 (x ∷ y ∷ z ∷ w ∷ [])) 1 1 (from_be_bytes w32 (x ∷ y ∷ z ∷ w ∷ [])) may in
    let one = worth x y z w in
    let x_zero : x ≡ 0 = omega (arith, b.0, b.1, one) in
    let y_zero : y ≡ 0 = omega (arith, b.0, b.1, one) in
    let z_zero : z ≡ 0 = omega (arith, b.0, b.1, one) in
    let w_one : w ≡ 1 = omega (arith, b.0, b.1, one) in
    let enough : ltb (length (x ∷ y ∷ z ∷ w ∷ r)) 4 ≡ false = le-ltb _ _ (omega arith) in
    let short = still_short (ltb (length r) (from_be_bytes w32 (x ∷ y ∷ z ∷ w ∷ []))) (record { tag = 4; payload = take (from_be_bytes w32 (x ∷ y ∷ z ∷ w ∷ [])) r }) (behind_four (ltb (length (x ∷ y ∷ z ∷ w ∷ r)) 4) (payload_in 4 (from_be_bytes w32 (x ∷ y ∷ z ∷ w ∷ [])) r) enough told) in
    let few : length r < 1 = omega (arith, ltb-true _ _ short, b.0) in
    same_end (4 ∷ x ∷ y ∷ z ∷ w ∷ r) [] (rw (x_zero, y_zero, z_zero, w_one, nothing r few) refl)
  where
    nothing : (s : List ℕ) → length s < 1 → s ≡ []
    nothing [] lt = refl
    nothing (v ∷ s) lt = absurd (omega (arith, lt))

-- ---- the law

by_tag : (b : Bool) (tag : ℕ) (l : List ℕ) → (tag == 4) ≡ b → 1 ≤ tag → tag ≤ 4 → IsBytes l → IsWithin (cond b 1 0) (cond b 1 131072) l → cond (ltb (length l) 4) open_frame (payload_in tag (from_be_bytes w32 (take 4 l)) (drop 4 l)) ≡ open_frame → CanGoOn (tag ∷ l)
by_tag false tag l e least most small may told = plain tag l least most (λ is. not_four tag is e) small may told where
  not_four : (t : ℕ) → t ≡ 4 → (t == 4) ≡ false → ⊥
  not_four t is e = grind (arith, nat_tests, is, e)
by_tag true tag l e least most small may told =
    let is_four : tag ≡ 4 = grind (arith, nat_tests, e) in
    subst (λ (t : ℕ). CanGoOn (t ∷ l)) (sym is_four) (last l may (subst (λ (t : ℕ). cond (ltb (length l) 4) open_frame (payload_in t (from_be_bytes w32 (take 4 l)) (drop 4 l)) ≡ open_frame) is_four told))

-- Bytes that are reported as open can be extended to a frame.
pub open_can_go_on : (bytes : List ℕ) → IsBytes bytes → frame_at bytes ≡ open_frame → CanGoOn bytes
unfolding frame_at IsWithin
open_can_go_on [] small told = fewer [] (1 ∷ []) (fewer (1 ∷ []) (0 ∷ 0 ∷ 0 ∷ 0 ∷ []) (filled_frame 1 0 0 0 0 [] zeros_small (omega arith) (omega arith) (λ is. absurd (omega (arith, is))) (omega arith) (omega arith)))
open_can_go_on (tag ∷ l) small told =
    let t = not_astray (not (is_tag tag) || goes_astray tag (take 4 l) (drop 4 l)) (cond (ltb (length l) 4) open_frame (payload_in tag (from_be_bytes w32 (take 4 l)) (drop 4 l))) told in
    let a = cleared (is_tag tag) (goes_astray tag (take 4 l) (drop 4 l)) t.0 in
    let b = cleared (may_be_within (least_length tag) (most_length tag) (take 4 l)) ((tag == 4) && is_no_flag (drop 4 l)) a.1 in
    let tags = bounds 1 tag tag 4 a.0 in
    by_tag (tag == 4) tag l refl tags.0 tags.1 (λ i. small (suc i)) b.0 t.1
