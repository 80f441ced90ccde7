-- Reports of what is at a place of a stream are right: the text of a frame is a whole frame, and bytes are no frame's
-- only where no further bytes make them one.
use Rattle.std.proofs.Common.{◌≡◌, ℕ, ◌+◌, ◌*◌, ◌/◌, ◌%◌, ◌<◌, ◌≤◌, List, [], ◌∷◌, ◌++◌, length, take, drop, Bool, true, false, not, cond, ltb, leb, ◌&&◌, ◌||◌, ◌==◌, refl, sym, ap, subst, ◌∙◌, arith, inl, inr}
use Rattle.std.specs.Int.{w32, from_be_bytes}
use Rattle.std.proofs.lemmas.Bool.{le-ltb, lt-ltb, le-leb, and_from, cond-false, cond-true}
use Rattle.std.proofs.lemmas.Bool.Decides.{nat_tests}
use Rattle.std.proofs.lemmas.List.{append-nil, length-append}
use Rattle.depot_base.specs.Cursor.{numeral}
use Rattle.std.proofs.Math.Bool.{and-false}
use Rattle.std.proofs.Math.Seq.{take-append_seam}
use Rattle.depot_model.specs.texts.Frames.{Frame, text_of_frame, IsEnd, IsFrame, FrameAt, whole_frame, open_frame, no_frame, is_tag, least_length, most_length, may_be_within, is_no_flag, goes_astray, payload_in, frame_at}

-- ---- the four bytes of a length

pub record FourBytes (n : ℕ) : Type 0 where
  pub a : ℕ
  pub b : ℕ
  pub c : ℕ
  pub d : ℕ
  pub is : numeral w32 n ≡ a ∷ b ∷ c ∷ d ∷ []
  pub sum : n ≡ a * 16777216 + b * 65536 + c * 256 + d
  pub a_small : a < 256
  pub b_small : b < 256
  pub c_small : c < 256
  pub d_small : d < 256

pub four_bytes : (n : ℕ) → n < 4294967296 → FourBytes n
unfolding numeral
four_bytes n lt = record { a = n / 16777216 % 256; b = n / 65536 % 256; c = n / 256 % 256; d = n % 256; is = refl; sum = omega arith; a_small = omega arith; b_small = omega arith; c_small = omega arith; d_small = omega arith }

abbrev front : List ℕ → ℕ
front [] = 0
front (b ∷ bytes) = b

abbrev behind : List ℕ → List ℕ
behind [] = []
behind (b ∷ bytes) = bytes

-- the least and the greatest number that these bytes can become are on both sides of the number
within : (n low high least greatest : ℕ) → low ≤ n → n ≤ high → least ≤ n → n ≤ greatest → (leb least high && leb low greatest) ≡ true
within n low high least greatest a b c d = and_from (leb least high) (leb low greatest) (le-leb _ _ (omega (arith, a, b, c, d))) (le-leb _ _ (omega (arith, a, b, c, d)))

-- what four bytes are worth
pub worth : (a b c d : ℕ) → from_be_bytes w32 (a ∷ b ∷ c ∷ d ∷ []) ≡ a * 16777216 + b * 65536 + c * 256 + d
worth a b c d = refl

-- bytes with which the bytes of a number in range begin may be within the range
may_begin : (n low high : ℕ) (f : FourBytes n) (l more rest : List ℕ) → low ≤ n → n ≤ high → l ++ more ≡ f.a ∷ f.b ∷ f.c ∷ f.d ∷ rest → may_be_within low high (take 4 l) ≡ true
may_begin n low high f [] more rest from to e = within n low high 0 4294967295 from to (omega arith) (omega (arith, f.sum, f.a_small, f.b_small, f.c_small, f.d_small))
may_begin n low high f (x ∷ []) more rest from to e =
    let same_x : x ≡ f.a = ap front e in
    within n low high (from_be_bytes w32 (x ∷ 0 ∷ 0 ∷ 0 ∷ [])) (from_be_bytes w32 (x ∷ 255 ∷ 255 ∷ 255 ∷ [])) from to (omega (arith, worth x 0 0 0, same_x, f.sum)) (omega (arith, worth x 255 255 255, same_x, f.sum, f.b_small, f.c_small, f.d_small))
may_begin n low high f (x ∷ y ∷ []) more rest from to e =
    let same_x : x ≡ f.a = ap front e in
    let same_y : y ≡ f.b = ap (λ (s : List ℕ). front (behind s)) e in
    within n low high (from_be_bytes w32 (x ∷ y ∷ 0 ∷ 0 ∷ [])) (from_be_bytes w32 (x ∷ y ∷ 255 ∷ 255 ∷ [])) from to (omega (arith, worth x y 0 0, same_x, same_y, f.sum)) (omega (arith, worth x y 255 255, same_x, same_y, f.sum, f.c_small, f.d_small))
may_begin n low high f (x ∷ y ∷ z ∷ []) more rest from to e =
    let same_x : x ≡ f.a = ap front e in
    let same_y : y ≡ f.b = ap (λ (s : List ℕ). front (behind s)) e in
    let same_z : z ≡ f.c = ap (λ (s : List ℕ). front (behind (behind s))) e in
    within n low high (from_be_bytes w32 (x ∷ y ∷ z ∷ 0 ∷ [])) (from_be_bytes w32 (x ∷ y ∷ z ∷ 255 ∷ [])) from to (omega (arith, worth x y z 0, same_x, same_y, same_z, f.sum)) (omega (arith, worth x y z 255, same_x, same_y, same_z, f.sum, f.d_small))
may_begin n low high f (x ∷ y ∷ z ∷ w ∷ l) more rest from to e =
    let same_x : x ≡ f.a = ap front e in
    let same_y : y ≡ f.b = ap (λ (s : List ℕ). front (behind s)) e in
    let same_z : z ≡ f.c = ap (λ (s : List ℕ). front (behind (behind s))) e in
    let same_w : w ≡ f.d = ap (λ (s : List ℕ). front (behind (behind (behind s)))) e in
    within n low high (from_be_bytes w32 (x ∷ y ∷ z ∷ w ∷ [])) (from_be_bytes w32 (x ∷ y ∷ z ∷ w ∷ [])) from to (omega (arith, worth x y z w, same_x, same_y, same_z, same_w, f.sum)) (omega (arith, worth x y z w, same_x, same_y, same_z, same_w, f.sum))

-- ---- the byte of End

not_flag : (tag v : ℕ) → (tag ≡ 4 → v ≤ 1) → ((tag == 4) && ltb 1 v) ≡ false
not_flag tag v small = by_test (tag == 4) refl where
  by_test : (b : Bool) → (tag == 4) ≡ b → (b && ltb 1 v) ≡ false
  by_test false e = refl
  by_test true e = let is_four : tag ≡ 4 = grind (arith, nat_tests, e) in le-ltb _ _ (small is_four)

end_is_flag : (payload : List ℕ) → IsEnd payload → front payload ≤ 1
end_is_flag payload (inl e) = let z : front payload ≡ 0 = ap front e in omega (arith, z)
end_is_flag payload (inr e) = let z : front payload ≡ 1 = ap front e in omega (arith, z)

-- the start of a payload is the start of what follows the length
payload_front : (payload rest : List ℕ) → IsEnd payload → front (payload ++ rest) ≡ front payload
payload_front payload rest (inl e) = subst (λ (p : List ℕ). front (p ++ rest) ≡ front p) (sym e) refl
payload_front payload rest (inr e) = subst (λ (p : List ℕ). front (p ++ rest) ≡ front p) (sym e) refl

flag_fine : (tag : ℕ) (l more payload rest : List ℕ) (a b c d : ℕ) → (tag ≡ 4 → IsEnd payload) → l ++ more ≡ a ∷ b ∷ c ∷ d ∷ (payload ++ rest) → ((tag == 4) && is_no_flag (drop 4 l)) ≡ false
flag_fine tag [] more payload rest a b c d end e = and-false (tag == 4)
flag_fine tag (x ∷ []) more payload rest a b c d end e = and-false (tag == 4)
flag_fine tag (x ∷ y ∷ []) more payload rest a b c d end e = and-false (tag == 4)
flag_fine tag (x ∷ y ∷ z ∷ []) more payload rest a b c d end e = and-false (tag == 4)
flag_fine tag (x ∷ y ∷ z ∷ w ∷ []) more payload rest a b c d end e = and-false (tag == 4)
flag_fine tag (x ∷ y ∷ z ∷ w ∷ v ∷ l) more payload rest a b c d end e =
    not_flag tag v (λ is_four.
    let at : v ≡ front (payload ++ rest) = ap (λ (s : List ℕ). front (behind (behind (behind (behind s))))) e in
    let same = payload_front payload rest (end is_four) in
    let small = end_is_flag payload (end is_four) in
    omega (arith, at, same, small))

-- ---- bytes with which a frame begins

tag_is : (tag : ℕ) → 1 ≤ tag → tag ≤ 4 → is_tag tag ≡ true
tag_is tag a b = and_from (leb 1 tag) (leb tag 4) (le-leb _ _ a) (le-leb _ _ b)

-- the length of a frame's payload is one that its tag allows
length_least : (f : Frame) → IsFrame f → least_length f.tag ≤ length f.payload
length_least f good = by_test (f.tag == 4) refl where
  by_test : (b : Bool) → (f.tag == 4) ≡ b → cond b 1 0 ≤ length f.payload
  by_test false e = omega arith
  by_test true e = let is_four : f.tag ≡ 4 = grind (arith, nat_tests, e) in elim (good.end is_four) [
    | inl p ↦ (let one : length f.payload ≡ 1 = ap length p in omega (arith, one))
    | inr p ↦ (let one : length f.payload ≡ 1 = ap length p in omega (arith, one))
  ]

length_most : (f : Frame) → IsFrame f → length f.payload ≤ most_length f.tag
length_most f good = by_test (f.tag == 4) refl where
  by_test : (b : Bool) → (f.tag == 4) ≡ b → length f.payload ≤ cond b 1 131072
  by_test false e = good.short
  by_test true e = let is_four : f.tag ≡ 4 = grind (arith, nat_tests, e) in elim (good.end is_four) [
    | inl p ↦ (let one : length f.payload ≡ 1 = ap length p in omega (arith, one))
    | inr p ↦ (let one : length f.payload ≡ 1 = ap length p in omega (arith, one))
  ]

neither : (a b : Bool) → a ≡ true → b ≡ false → (not a || b) ≡ false
neither true b p q = q
neither false b p q = absurd cc

-- the test that says no isn't passed by bytes with which the text of a frame begins
begins : (f : Frame) (four : FourBytes (length f.payload)) (l more rest : List ℕ) → IsFrame f → l ++ more ≡ four.a ∷ four.b ∷ four.c ∷ four.d ∷ (f.payload ++ rest) → (not (is_tag f.tag) || goes_astray f.tag (take 4 l) (drop 4 l)) ≡ false
begins f four l more rest good e =
    neither (is_tag f.tag) (goes_astray f.tag (take 4 l) (drop 4 l)) (tag_is f.tag good.least good.most)
    (neither (may_be_within (least_length f.tag) (most_length f.tag) (take 4 l)) ((f.tag == 4) && is_no_flag (drop 4 l))
    (may_begin (length f.payload) (least_length f.tag) (most_length f.tag) four l more (f.payload ++ rest) (length_least f good) (length_most f good) e)
    (flag_fine f.tag l more f.payload rest four.a four.b four.c four.d good.end e))

-- ---- the laws

abbrev code : FrameAt → ℕ
code (whole_frame f) = 0
code open_frame = 1
code no_frame = 2

some_frame : (a b : Bool) (f : Frame) → code (cond a open_frame (cond b open_frame (whole_frame f))) ≤ 1
some_frame true b f = omega arith
some_frame false true f = omega arith
some_frame false false f = omega arith

some_frame_by : (t a b : Bool) (f : Frame) → t ≡ false → cond t no_frame (cond a open_frame (cond b open_frame (whole_frame f))) ≡ no_frame → ⊥
some_frame_by true a b f p e = absurd cc
some_frame_by false a b f p e = let two : code (cond a open_frame (cond b open_frame (whole_frame f))) ≡ 2 = ap code e in omega (arith, two, some_frame a b f)

-- the text of a frame, its length's bytes told apart
spelled : (f : Frame) (four : FourBytes (length f.payload)) (rest : List ℕ) → text_of_frame f ++ rest ≡ f.tag ∷ four.a ∷ four.b ∷ four.c ∷ four.d ∷ (f.payload ++ rest)
spelled f four rest = rw four.is refl

short_enough : (f : Frame) → IsFrame f → length f.payload < 4294967296
short_enough f good = omega (arith, good.short)

-- Bytes are reported as no frame's only where no further bytes make a frame of them.
pub no_frame_is_none : (bytes : List ℕ) → frame_at bytes ≡ no_frame → (f : Frame) → IsFrame f → (more rest : List ℕ) → bytes ++ more ≡ text_of_frame f ++ rest → ⊥
unfolding frame_at
no_frame_is_none [] told f good more rest e = absurd cc
no_frame_is_none (tag ∷ l) told f good more rest e =
    let four = four_bytes (length f.payload) (short_enough f good) in
    let whole_text : tag ∷ (l ++ more) ≡ f.tag ∷ four.a ∷ four.b ∷ four.c ∷ four.d ∷ (f.payload ++ rest) = e ∙ spelled f four rest in
    let same_tag : tag ≡ f.tag = ap front whole_text in
    let same_rest : l ++ more ≡ four.a ∷ four.b ∷ four.c ∷ four.d ∷ (f.payload ++ rest) = ap behind whole_text in
    let test : (not (is_tag tag) || goes_astray tag (take 4 l) (drop 4 l)) ≡ false = subst (λ (t : ℕ). (not (is_tag t) || goes_astray t (take 4 l) (drop 4 l)) ≡ false) (sym same_tag) (begins f four l more rest good same_rest) in
    some_frame_by (not (is_tag tag) || goes_astray tag (take 4 l) (drop 4 l)) (ltb (length l) 4) (ltb (length (drop 4 l)) (from_be_bytes w32 (take 4 l))) (record { tag = tag; payload = take (from_be_bytes w32 (take 4 l)) (drop 4 l) }) test told

-- ---- whole frames, and frames that are begun

-- The text of a frame is reported as that frame, whatever follows it.
pub frame_is_whole : (f : Frame) → IsFrame f → (rest : List ℕ) → frame_at (text_of_frame f ++ rest) ≡ whole_frame f
unfolding frame_at
frame_is_whole f good rest =
    let four = four_bytes (length f.payload) (short_enough f good) in
    let l : List ℕ = four.a ∷ four.b ∷ four.c ∷ four.d ∷ (f.payload ++ rest) in
    let test = begins f four l [] rest good (append-nil l) in
    let n : from_be_bytes w32 (take 4 l) ≡ length f.payload = worth four.a four.b four.c four.d ∙ sym four.sum in
    let long : ltb (length (f.payload ++ rest)) (from_be_bytes w32 (take 4 l)) ≡ false = rw n (le-ltb _ _ (omega (arith, length-append f.payload rest))) in
    let part : take (from_be_bytes w32 (take 4 l)) (f.payload ++ rest) ≡ f.payload = rw n (take-append_seam f.payload rest) in
    let enough : ltb (length l) 4 ≡ false = le-ltb _ _ (omega arith) in
    ap frame_at (spelled f four rest)
    ∙ cond-false (not (is_tag f.tag) || goes_astray f.tag (take 4 l) (drop 4 l)) no_frame _ test
    ∙ cond-false (ltb (length l) 4) open_frame _ enough
    ∙ cond-false (ltb (length (f.payload ++ rest)) (from_be_bytes w32 (take 4 l))) open_frame _ long
    ∙ ap (λ (p : List ℕ). whole_frame (record { tag = f.tag; payload = p })) part

-- Bytes with which the text of a frame begins, and after which some of it is still to come, are reported as open.
pub begun_is_open : (f : Frame) → IsFrame f → (bytes more : List ℕ) → bytes ++ more ≡ text_of_frame f → 0 < length more → frame_at bytes ≡ open_frame
unfolding frame_at
begun_is_open f good [] more e some = refl
begun_is_open f good (tag ∷ l) more e some =
    let four = four_bytes (length f.payload) (short_enough f good) in
    let whole_text : tag ∷ (l ++ more) ≡ f.tag ∷ four.a ∷ four.b ∷ four.c ∷ four.d ∷ (f.payload ++ []) = e ∙ sym (append-nil (text_of_frame f)) ∙ spelled f four [] in
    let same_tag : tag ≡ f.tag = ap front whole_text in
    let same_rest : l ++ more ≡ four.a ∷ four.b ∷ four.c ∷ four.d ∷ (f.payload ++ []) = ap behind whole_text in
    let test : (not (is_tag tag) || goes_astray tag (take 4 l) (drop 4 l)) ≡ false = subst (λ (t : ℕ). (not (is_tag t) || goes_astray t (take 4 l) (drop 4 l)) ≡ false) (sym same_tag) (begins f four l more [] good same_rest) in
    cond-false (not (is_tag tag) || goes_astray tag (take 4 l) (drop 4 l)) no_frame _ test ∙ still_open tag four l same_rest
  where
    still_open : (t : ℕ) (four : FourBytes (length f.payload)) (s : List ℕ) → s ++ more ≡ four.a ∷ four.b ∷ four.c ∷ four.d ∷ (f.payload ++ []) → cond (ltb (length s) 4) open_frame (payload_in t (from_be_bytes w32 (take 4 s)) (drop 4 s)) ≡ open_frame
    still_open t four [] q = refl
    still_open t four (x ∷ []) q = refl
    still_open t four (x ∷ y ∷ []) q = refl
    still_open t four (x ∷ y ∷ z ∷ []) q = refl
    still_open t four (x ∷ y ∷ z ∷ w ∷ s) q =
        let xa : x ≡ four.a = ap front q in
        let yb : y ≡ four.b = ap (λ (r : List ℕ). front (behind r)) q in
        let zc : z ≡ four.c = ap (λ (r : List ℕ). front (behind (behind r))) q in
        let wd : w ≡ four.d = ap (λ (r : List ℕ). front (behind (behind (behind r)))) q in
        let rest : s ++ more ≡ f.payload ++ [] = ap (λ (r : List ℕ). behind (behind (behind (behind r)))) q in
        let lengths : length (s ++ more) ≡ length (f.payload ++ []) = ap length rest in
        let enough : ltb (length (x ∷ y ∷ z ∷ w ∷ s)) 4 ≡ false = le-ltb _ _ (omega arith) in
        let short : ltb (length s) (from_be_bytes w32 (x ∷ y ∷ z ∷ w ∷ [])) ≡ true = lt-ltb _ _ (omega (arith, worth x y z w, xa, yb, zc, wd, four.sum, lengths, length-append s more, length-append f.payload [], some)) in
        cond-false (ltb (length (x ∷ y ∷ z ∷ w ∷ s)) 4) open_frame _ enough ∙ cond-true (ltb (length s) (from_be_bytes w32 (x ∷ y ∷ z ∷ w ∷ []))) open_frame _ short
