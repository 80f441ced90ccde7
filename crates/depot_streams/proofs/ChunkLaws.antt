-- A chunk of a stream is fed like single bytes, if nothing before its last byte completes a frame.
use Rattle.std.proofs.Common.{◌≡◌, ℕ, suc, ◌+◌, ◌-◌, ◌<◌, ◌≤◌, List, [], ◌∷◌, ◌++◌, append_assoc, length, take, Bool, true, false, not, cond, ltb, ◌&&◌, ◌||◌, ◌==◌, is_some, refl, sym, ap, ◌∙◌, arith}
use Rattle.std.specs.Int.{w32, from_be_bytes}
use Rattle.std.proofs.lemmas.Bool.{cond-false, cond-true, ltb-true, le-ltb, lt-ltb, and_left}
use Rattle.std.proofs.lemmas.List.{length-append}
use Rattle.depot_model.specs.checks.Checks.{Setting}
use Rattle.depot_model.specs.texts.Frames.{FrameAt, whole_frame, open_frame, no_frame, is_tag, least_length, most_length, may_be_within, is_no_flag, goes_astray, payload_in, frame_at}
use Rattle.depot_model.specs.exchange.Feeding.{Feeding, ill_formed, closed_by, fed, fed_byte, fed_at, is_over}
use Rattle.depot_model.proofs.of_texts.OpenLaws.{not_astray, still_short, behind_four, cleared, bounds}
use Rattle.depot_model.proofs.of_journals.FeedLaws.{fed_in_pieces, frame_alike, one_byte}
use Rattle.depot_laws.proofs.exchanges.Feeds.{closed_stays}
use Rattle.depot_streams.specs.FrameHeads.{most_frame, bytes_missing}

-- what is in a buffer is in bytes that are the same
pub stands_in : (buffer bytes : List ℕ) (at : FrameAt) → buffer ≡ bytes → frame_at buffer ≡ at → frame_at bytes ≡ at
stands_in buffer bytes at same e = ap frame_at (sym same) ∙ e

-- ---- an open frame whose head is whole

abbrev worth_of : ℕ → ℕ → ℕ → ℕ → ℕ
worth_of x y z w = from_be_bytes w32 (x ∷ y ∷ z ∷ w ∷ [])

far : (t x y z w : ℕ) (r : List ℕ) → bytes_missing (t ∷ x ∷ y ∷ z ∷ w ∷ r) ≡ worth_of x y z w - length r
unfolding bytes_missing
far t x y z w r = chosen (ltb (length (t ∷ x ∷ y ∷ z ∷ w ∷ r)) 5) (le-ltb _ _ (omega arith)) where
  chosen : (b : Bool) → b ≡ false → cond b 1 ((5 + worth_of x y z w) - length (t ∷ x ∷ y ∷ z ∷ w ∷ r)) ≡ worth_of x y z w - length r
  chosen true e = absurd cc
  chosen false e = omega arith

-- what is known of an open frame whose head is whole
record IsHeaded (t x y z w : ℕ) (r : List ℕ) : Type 0 where
  pub tag : is_tag t ≡ true
  pub within : may_be_within (least_length t) (most_length t) (x ∷ y ∷ z ∷ w ∷ []) ≡ true
  pub flag : ((t == 4) && is_no_flag r) ≡ false
  pub short : length r < worth_of x y z w

headed : (t x y z w : ℕ) (r : List ℕ) → frame_at (t ∷ x ∷ y ∷ z ∷ w ∷ r) ≡ open_frame → IsHeaded t x y z w r
unfolding frame_at
headed t x y z w r told =
    let l : List ℕ = x ∷ y ∷ z ∷ w ∷ r in
    let one = not_astray (not (is_tag t) || goes_astray t (x ∷ y ∷ z ∷ w ∷ []) r) (cond (ltb (length l) 4) open_frame (payload_in t (worth_of x y z w) r)) told in
    let a = cleared (is_tag t) (goes_astray t (x ∷ y ∷ z ∷ w ∷ []) r) one.0 in
    let b = cleared (may_be_within (least_length t) (most_length t) (x ∷ y ∷ z ∷ w ∷ [])) ((t == 4) && is_no_flag r) a.1 in
    let enough : ltb (length l) 4 ≡ false = le-ltb _ _ (omega arith) in
    let short = still_short (ltb (length r) (worth_of x y z w)) (record { tag = t; payload = take (worth_of x y z w) r }) (behind_four (ltb (length l) 4) (payload_in t (worth_of x y z w) r) enough one.1) in
    record { tag = a.0; within = b.0; flag = b.1; short = ltb-true _ _ short }

-- its length is at most 131,072
within_most : (t x y z w : ℕ) (r : List ℕ) → IsHeaded t x y z w r → worth_of x y z w ≤ 131072
within_most t x y z w r h =
    let b = bounds (worth_of x y z w) (most_length t) (least_length t) (worth_of x y z w) h.within in
    by_test (t == 4) b.0 where
      by_test : (b : Bool) → worth_of x y z w ≤ cond b 1 131072 → worth_of x y z w ≤ 131072
      by_test true le = omega (arith, le)
      by_test false le = le

-- where it is that of End, its payload is one byte
of_end : (t x y z w : ℕ) (r : List ℕ) → IsHeaded t x y z w r → (t == 4) ≡ true → worth_of x y z w ≤ 1
of_end t x y z w r h e =
    let b = bounds (worth_of x y z w) (most_length t) (least_length t) (worth_of x y z w) h.within in
    by_test (t == 4) e b.0 where
      by_test : (b : Bool) → b ≡ true → worth_of x y z w ≤ cond b 1 131072 → worth_of x y z w ≤ 1
      by_test true e le = le
      by_test false e le = absurd cc

-- ---- one byte more

not_over : (a b c : Bool) → a ≡ true → b ≡ true → c ≡ false → (not a || (not b || c)) ≡ false
not_over true true c p q r = r
not_over true false c p q r = absurd cc
not_over false b c p q r = absurd cc

-- bytes with a head, and fewer than its length says, are open
still_framed : (t x y z w : ℕ) (r s : List ℕ) → IsHeaded t x y z w r → (t == 4) ≡ false → length s < worth_of x y z w → frame_at (t ∷ x ∷ y ∷ z ∷ w ∷ s) ≡ open_frame
unfolding frame_at
still_framed t x y z w r s h other lt =
    cond-false (not (is_tag t) || goes_astray t (x ∷ y ∷ z ∷ w ∷ []) s) no_frame _ (not_over (is_tag t) (may_be_within (least_length t) (most_length t) (x ∷ y ∷ z ∷ w ∷ [])) ((t == 4) && is_no_flag s) h.tag h.within (and_left (t == 4) (is_no_flag s) other))
    ∙ cond-false (ltb (length (x ∷ y ∷ z ∷ w ∷ s)) 4) open_frame _ (le-ltb _ _ (omega arith))
    ∙ cond-true (ltb (length s) (worth_of x y z w)) open_frame _ (lt-ltb _ _ lt)

-- if more than one byte is missing, one more leaves the frame incomplete, and one fewer is missing
pub record StaysOpen (b : List ℕ) (v : ℕ) : Type 0 where
  pub told : frame_at (b ++ v ∷ []) ≡ open_frame
  pub left : bytes_missing b ≡ suc (bytes_missing (b ++ v ∷ []))

short_head : (b : List ℕ) → length b < 5 → bytes_missing b ≡ 1
unfolding bytes_missing
short_head b lt = cond-true (ltb (length b) 5) 1 _ (lt-ltb _ _ lt)

pub stays_open : (b : List ℕ) (v : ℕ) → frame_at b ≡ open_frame → 1 < bytes_missing b → StaysOpen b v
stays_open [] v told some = absurd (omega (arith, some, short_head [] (omega arith)))
stays_open (t ∷ []) v told some = absurd (omega (arith, some, short_head (t ∷ []) (omega arith)))
stays_open (t ∷ x ∷ []) v told some = absurd (omega (arith, some, short_head (t ∷ x ∷ []) (omega arith)))
stays_open (t ∷ x ∷ y ∷ []) v told some = absurd (omega (arith, some, short_head (t ∷ x ∷ y ∷ []) (omega arith)))
stays_open (t ∷ x ∷ y ∷ z ∷ []) v told some = absurd (omega (arith, some, short_head (t ∷ x ∷ y ∷ z ∷ []) (omega arith)))
stays_open (t ∷ x ∷ y ∷ z ∷ w ∷ r) v told some = by_tag (t == 4) refl where
  h : IsHeaded t x y z w r
  h = headed t x y z w r told

  longer : length (r ++ v ∷ []) ≡ suc (length r)
  longer = length-append r (v ∷ []) ∙ omega arith

  by_tag : (b : Bool) → (t == 4) ≡ b → StaysOpen (t ∷ x ∷ y ∷ z ∷ w ∷ r) v
  by_tag true e = absurd (omega (arith, some, far t x y z w r, of_end t x y z w r h e))
  by_tag false e = record {
    told = still_framed t x y z w r (r ++ v ∷ []) h e (omega (arith, some, far t x y z w r, longer));
    left = omega (arith, some, far t x y z w r, far t x y z w (r ++ v ∷ []), longer);
  }

-- some byte is missing, and with what is missing a frame has at most 131,077 bytes
pub record IsInReach (b : List ℕ) : Type 0 where
  pub some : 0 < bytes_missing b
  pub most : length b + bytes_missing b ≤ most_frame

in_front : (b : List ℕ) → length b < 5 → IsInReach b
in_front b lt = record { some = omega (arith, short_head b lt); most = omega (arith, short_head b lt) }

pub in_reach : (b : List ℕ) → frame_at b ≡ open_frame → IsInReach b
in_reach [] told = in_front [] (omega arith)
in_reach (t ∷ []) told = in_front (t ∷ []) (omega arith)
in_reach (t ∷ x ∷ []) told = in_front (t ∷ x ∷ []) (omega arith)
in_reach (t ∷ x ∷ y ∷ []) told = in_front (t ∷ x ∷ y ∷ []) (omega arith)
in_reach (t ∷ x ∷ y ∷ z ∷ []) told = in_front (t ∷ x ∷ y ∷ z ∷ []) (omega arith)
in_reach (t ∷ x ∷ y ∷ z ∷ w ∷ r) told =
    let h = headed t x y z w r told in
    let most = within_most t x y z w r h in
    let f = far t x y z w r in
    record { some = omega (arith, f, h.short); most = omega (arith, f, h.short, most) }

-- ---- a chunk

fed_at_alike : (here : Setting) (s : Feeding) (p bytes : List ℕ) (at : FrameAt) → fed_at here (record s { begun = p }) bytes at ≡ fed_at here s bytes at
fed_at_alike here s p bytes open_frame = refl
fed_at_alike here s p bytes no_frame = refl
fed_at_alike here s p bytes (whole_frame f) = frame_alike here (length bytes) f s p

-- A chunk of at most the missing bytes is fed in one go: its last byte decides.
pub chunk_is_fed : (here : Setting) (s : Feeding) (c : List ℕ) → is_some s.closed ≡ false → is_over s ≡ false → frame_at s.begun ≡ open_frame → 0 < length c → length c ≤ bytes_missing s.begun
    → fed here s c ≡ fed_at here s (s.begun ++ c) (frame_at (s.begun ++ c))
unfolding fed
chunk_is_fed here s c going on told some le = chunk s.begun c told some le where
  chunk : (p c : List ℕ) → frame_at p ≡ open_frame → 0 < length c → length c ≤ bytes_missing p → fed here (record s { begun = p }) c ≡ fed_at here s (p ++ c) (frame_at (p ++ c))
  chunk p [] told some le = absurd (omega (arith, some))
  chunk p (x ∷ []) told some le = one_byte here (record s { begun = p }) x going on ∙ fed_at_alike here s p (p ++ x ∷ []) (frame_at (p ++ x ∷ []))
  chunk p (x ∷ y ∷ q) told some le =
      let o = stays_open p x told (omega (arith, le)) in
      let step : fed_byte here (record s { begun = p }) x ≡ record s { begun = p ++ x ∷ [] } = one_byte here (record s { begun = p }) x going on ∙ ap (fed_at here (record s { begun = p }) (p ++ x ∷ [])) o.told in
      ap (λ (r : Feeding). fed here r (y ∷ q)) step
      ∙ chunk (p ++ x ∷ []) (y ∷ q) o.told (omega arith) (omega (arith, le, o.left))
      ∙ ap (λ (t : List ℕ). fed_at here s t (frame_at t)) (append_assoc p (x ∷ []) (y ∷ q))

-- ---- a feed that is closed, or over

-- two pieces, where the first closes the feed
pub closed_before : (here : Setting) (s : Feeding) (a b : List ℕ) → is_some (fed here s a).closed ≡ true → fed here s (a ++ b) ≡ fed here s a
closed_before here s a b shut = fed_in_pieces here s a b ∙ closed_stays here (fed here s a) b shut

-- where no frame may begin any more, a byte closes the feed
pub over_is_fed : (here : Setting) (s : Feeding) (x : ℕ) (c : List ℕ) → is_some s.closed ≡ false → is_over s ≡ true → fed here s (x ∷ c) ≡ closed_by (ill_formed s.start) s
unfolding fed fed_byte
over_is_fed here s x c going over =
    ap (λ (r : Feeding). fed here r c) (cond-false (is_some s.closed) s _ going ∙ cond-true (is_over s) (closed_by (ill_formed s.start) s) _ over)
    ∙ closed_stays here (closed_by (ill_formed s.start) s) c refl
