-- What is at a place of a stream is reported at the first byte that decides it: a frame with its last byte, and no
-- frame as soon as no further bytes make one.
use Rattle.std.proofs.Common.{◌≡◌, ℕ, zero, suc, ◌<◌, ◌≤◌, List, [], ◌∷◌, ◌++◌, length, take, drop, Bool, true, false, not, cond, ltb, ◌&&◌, ◌||◌, ◌==◌, get_or, refl, sym, ap, subst, ◌∙◌, inl, inr, arith}
use Rattle.std.specs.Int.{w32, from_be_bytes}
use Rattle.std.proofs.lemmas.Bool.{ltb-false}
use Rattle.std.proofs.lemmas.Bool.Decides.{nat_tests}
use Rattle.std.proofs.lemmas.List.{append-nil, length-take, take-append-drop}
use Rattle.std.proofs.lemmas.Nat.{be_bytes_4}
use Rattle.depot_base.specs.Cursor.{numeral}
use Rattle.depot_base.proofs.FormatLaws.{IsBytes}
use Rattle.depot_model.specs.texts.Frames.{Frame, text_of_frame, IsFrame, IsEnd, FrameAt, whole_frame, open_frame, no_frame, is_tag, least_length, most_length, may_be_within, is_no_flag, goes_astray, frame_at}
use Rattle.depot_model.proofs.of_texts.FrameLaws.{no_frame_is_none, frame_is_whole, begun_is_open}
use Rattle.depot_model.proofs.of_texts.OpenLaws.{CanGoOn, open_can_go_on, cleared, bounds}
use Rattle.depot_laws.specs.Streams.{BeginsWith, IsBegun}

abbrev frame_in : Frame → FrameAt → Frame
frame_in other (whole_frame f) = f
frame_in other open_frame = other
frame_in other no_frame = other

abbrev code : FrameAt → ℕ
code (whole_frame f) = 0
code open_frame = 1
code no_frame = 2

-- what the tests say of bytes that are reported as a whole frame
record Passed (astray short open_ : Bool) (g f : Frame) : Type 0 where
  pub straight : astray ≡ false
  pub long : short ≡ false
  pub whole : open_ ≡ false
  pub same : g ≡ f

passed : (astray short open_ : Bool) (g f : Frame) → cond astray no_frame (cond short open_frame (cond open_ open_frame (whole_frame g))) ≡ whole_frame f → Passed astray short open_ g f
passed true short open_ g f e = let two_is_none : 2 ≡ 0 = ap code e in absurd (omega (arith, two_is_none))
passed false true open_ g f e = let one_is_none : 1 ≡ 0 = ap code e in absurd (omega (arith, one_is_none))
passed false false true g f e = let one_is_none : 1 ≡ 0 = ap code e in absurd (omega (arith, one_is_none))
passed false false false g f e = record { straight = refl; long = refl; whole = refl; same = ap (frame_in g) e }

-- the byte of End
flag : (n : ℕ) (r : List ℕ) → n ≡ 1 → 1 ≤ length r → is_no_flag r ≡ false → IsEnd (take n r)
flag n [] one some e = absurd (omega (arith, some))
flag n (b ∷ r) one some e = subst (λ (m : ℕ). IsEnd (take m (b ∷ r))) (sym one) (by_value b (ltb-false 1 b e)) where
  by_value : (b : ℕ) → b ≤ 1 → IsEnd (b ∷ [])
  by_value zero le = inl refl
  by_value (suc zero) le = inr refl
  by_value (suc (suc b)) le = absurd (omega (arith, le))

-- the lengths that a tag allows, and the byte of End
good_frame : (four : Bool) (tag n : ℕ) (r : List ℕ) → (tag == 4) ≡ four → 1 ≤ tag → tag ≤ 4 → n ≤ length r → cond four 1 0 ≤ n → n ≤ cond four 1 131072 → (four && is_no_flag r) ≡ false → IsFrame (record { tag = tag; payload = take n r })
good_frame false tag n r e least most enough low high free = record { least = least; most = most; short = omega (arith, length-take n r, high); end = λ is. absurd (not_four tag is e) } where
  not_four : (t : ℕ) → t ≡ 4 → (t == 4) ≡ false → ⊥
  not_four t is e = grind (arith, nat_tests, is, e)
good_frame true tag n r e least most enough low high free = record { least = least; most = most; short = omega (arith, length-take n r, high); end = λ is. flag n r (omega (arith, low, high)) (omega (arith, low, enough)) free }

spelled_back : (x y z w : ℕ) → ((i : ℕ) → get_or (x ∷ y ∷ z ∷ w ∷ []) i 0 < 256) → numeral w32 (from_be_bytes w32 (x ∷ y ∷ z ∷ w ∷ [])) ≡ x ∷ y ∷ z ∷ w ∷ []
unfolding numeral
spelled_back x y z w small = be_bytes_4 (x ∷ y ∷ z ∷ w ∷ []) _ refl small refl

its_text : (tag x y z w : ℕ) (r : List ℕ) → IsBytes (tag ∷ x ∷ y ∷ z ∷ w ∷ r) → from_be_bytes w32 (x ∷ y ∷ z ∷ w ∷ []) ≤ length r → tag ∷ x ∷ y ∷ z ∷ w ∷ r ≡ text_of_frame (record { tag = tag; payload = take (from_be_bytes w32 (x ∷ y ∷ z ∷ w ∷ [])) r }) ++ drop (from_be_bytes w32 (x ∷ y ∷ z ∷ w ∷ [])) r
its_text tag x y z w r are enough =
    let n = from_be_bytes w32 (x ∷ y ∷ z ∷ w ∷ []) in
    let long : length (take n r) ≡ n = omega (arith, length-take n r, enough) in
    let parts : tag ∷ x ∷ y ∷ z ∷ w ∷ r ≡ tag ∷ x ∷ y ∷ z ∷ w ∷ (take n r ++ drop n r) = ap (λ (s : List ℕ). tag ∷ x ∷ y ∷ z ∷ w ∷ s) (sym (take-append-drop n r)) in
    let text : text_of_frame (record { tag = tag; payload = take n r }) ≡ tag ∷ x ∷ y ∷ z ∷ w ∷ take n r = rw (long, spelled_back x y z w small) refl in
    parts ∙ ap (λ (t : List ℕ). t ++ drop n r) (sym text)
  where
    small : (i : ℕ) → get_or (x ∷ y ∷ z ∷ w ∷ []) i 0 < 256
    small zero = are 1
    small (suc zero) = are 2
    small (suc (suc zero)) = are 3
    small (suc (suc (suc zero))) = are 4
    small (suc (suc (suc (suc i)))) = omega arith

-- bytes that are reported as a whole frame begin with its text
pub whole_is_in_front : (bytes : List ℕ) (f : Frame) → IsBytes bytes → frame_at bytes ≡ whole_frame f → BeginsWith bytes f
unfolding frame_at
whole_is_in_front [] f are told = let one_is_none : 1 ≡ 0 = ap code told in absurd (omega (arith, one_is_none))
whole_is_in_front (tag ∷ l) f are told = behind l are (passed (not (is_tag tag) || goes_astray tag (take 4 l) (drop 4 l)) (ltb (length l) 4) (ltb (length (drop 4 l)) (from_be_bytes w32 (take 4 l))) _ f told) where
  behind : (l : List ℕ) → IsBytes (tag ∷ l) → Passed (not (is_tag tag) || goes_astray tag (take 4 l) (drop 4 l)) (ltb (length l) 4) (ltb (length (drop 4 l)) (from_be_bytes w32 (take 4 l))) (record { tag = tag; payload = take (from_be_bytes w32 (take 4 l)) (drop 4 l) }) f → BeginsWith (tag ∷ l) f
  behind [] are p = absurd (let wrong : true ≡ false = p.long in cc)
  behind (x ∷ []) are p = absurd (let wrong : true ≡ false = p.long in cc)
  behind (x ∷ y ∷ []) are p = absurd (let wrong : true ≡ false = p.long in cc)
  behind (x ∷ y ∷ z ∷ []) are p = absurd (let wrong : true ≡ false = p.long in cc)
  behind (x ∷ y ∷ z ∷ w ∷ r) are p =
      let n = from_be_bytes w32 (x ∷ y ∷ z ∷ w ∷ []) in
      let t = cleared (is_tag tag) (goes_astray tag (x ∷ y ∷ z ∷ w ∷ []) r) p.straight in
      let g = cleared (may_be_within (least_length tag) (most_length tag) (x ∷ y ∷ z ∷ w ∷ [])) ((tag == 4) && is_no_flag r) t.1 in
      let tags = bounds 1 tag tag 4 t.0 in
      let lengths = bounds n (most_length tag) (least_length tag) n g.0 in
      let enough : n ≤ length r = ltb-false (length r) n p.whole in
      subst (BeginsWith (tag ∷ x ∷ y ∷ z ∷ w ∷ r)) p.same (record {
        good = good_frame (tag == 4) tag n r refl tags.0 tags.1 enough lengths.1 lengths.0 g.1;
        rest = drop n r;
        is = its_text tag x y z w r are enough;
      })

-- and the other way round
pub front_is_whole : (bytes : List ℕ) (f : Frame) → BeginsWith bytes f → frame_at bytes ≡ whole_frame f
front_is_whole bytes f b = ap frame_at b.is ∙ frame_is_whole f b.good b.rest

pub open_is_begun : (bytes : List ℕ) → IsBytes bytes → frame_at bytes ≡ open_frame → IsBegun bytes
open_is_begun bytes are told = some_more (open_can_go_on bytes are told) where
  some_more : CanGoOn bytes → IsBegun bytes
  some_more c = record { frame = c.frame; good = c.good; more = c.more; some = not_empty c.more c.parts; is = c.parts } where
    not_empty : (more : List ℕ) → bytes ++ more ≡ text_of_frame c.frame → 0 < length more
    not_empty [] e = absurd (let one_is_none : 1 ≡ 0 = ap code (sym told ∙ ap frame_at (sym (append-nil bytes) ∙ e ∙ sym (append-nil (text_of_frame c.frame))) ∙ frame_is_whole c.frame c.good []) in omega (arith, one_is_none))
    not_empty (b ∷ more) e = omega arith

pub begun_is_told : (bytes : List ℕ) → IsBegun bytes → frame_at bytes ≡ open_frame
begun_is_told bytes b = begun_is_open b.frame b.good bytes b.more b.is b.some

pub none_is_never : (bytes : List ℕ) → frame_at bytes ≡ no_frame → (f : Frame) (more : List ℕ) → BeginsWith (bytes ++ more) f → ⊥
none_is_never bytes told f more b = no_frame_is_none bytes told f b.good more b.rest b.is

pub never_is_none : (bytes : List ℕ) → IsBytes bytes → ((f : Frame) (more : List ℕ) → BeginsWith (bytes ++ more) f → ⊥) → frame_at bytes ≡ no_frame
never_is_none bytes are never = by_case (frame_at bytes) refl where
  by_case : (at : FrameAt) → frame_at bytes ≡ at → at ≡ no_frame
  by_case (whole_frame f) told = absurd (never f [] (subst (λ (b : List ℕ). BeginsWith b f) (sym (append-nil bytes)) (whole_is_in_front bytes f are told)))
  by_case open_frame told =
      let b = open_is_begun bytes are told in
      absurd (never b.frame b.more (record { good = b.good; rest = []; is = b.is ∙ sym (append-nil (text_of_frame b.frame)) }))
  by_case no_frame told = refl
