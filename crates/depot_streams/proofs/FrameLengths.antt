-- How many bytes the texts of frames have.
use Rattle.std.proofs.Common.{◌≡◌, ℕ, suc, zero, ◌+◌, ◌<◌, ◌≤◌, List, [], ◌∷◌, ◌++◌, length, take, get_or, sum_by, refl, ap, ◌∙◌, arith}
use Rattle.std.specs.Borrow.{Bor}
use Rattle.std.specs.List.{flat_map}
use Rattle.std.proofs.lemmas.List.{map-append, take_more}
use Rattle.std.proofs.lemmas.List.Concat.{length-flat_map}
use Rattle.std.proofs.lemmas.List.Sums.{sum_by-append, sum_by-cons}
use Rattle.depot_base.specs.Cursor.{numeral}
use Rattle.depot_model.specs.texts.Frames.{Frame, text_of_frame}
use Rattle.depot_model.specs.exchange.Bundle.{bytes_of_frames}
use Rattle.depot_streams.specs.Sendings.{payloads_of, ArePayloads, frames_under}

-- the bytes of a frame: its tag, its length, and its payload
pub frame_long : (f : Frame) → length (text_of_frame f) ≡ 5 + length f.payload
unfolding numeral
frame_long f = omega arith

-- the bytes of frames, one after another
pub frames_long : (fs : List Frame) → length (flat_map text_of_frame fs) ≡ bytes_of_frames fs
frames_long fs = length-flat_map text_of_frame fs

pub bytes_both : (fs gs : List Frame) → bytes_of_frames (fs ++ gs) ≡ bytes_of_frames fs + bytes_of_frames gs
bytes_both fs gs = sum_by-append (λ f. length (text_of_frame f)) fs gs

-- ---- texts under one tag

-- the bytes of the frames of texts, whatever their tag
abbrev pub length_under : List (List ℕ) → ℕ
length_under texts = sum_by (λ t. 5 + length t) texts

pub frames_under_long : (tag : ℕ) (texts : List (List ℕ)) → bytes_of_frames (frames_under tag texts) ≡ length_under texts
frames_under_long tag [] = refl
frames_under_long tag (t ∷ ts) =
    let f : Frame = record { tag = tag; payload = t } in
    bytes_both (f ∷ []) (frames_under tag ts) ∙ omega (arith, frame_long f, frames_under_long tag ts, sum_by-cons (λ (x : List ℕ). 5 + length x) t ts)

-- texts that are lent, with one more of them
pub one_lent : (lent : List (Bor (List ℕ))) (i : ℕ) (none : Bor (List ℕ)) → i < length lent → payloads_of (take (i + 1) lent) ≡ payloads_of (take i lent) ++ (get_or lent i none).now ∷ []
one_lent lent i none low = ap payloads_of (take_more lent i none low) ∙ map-append (λ (t : Bor (List ℕ)). t.now) (take i lent) (get_or lent i none ∷ [])

-- it is short enough for a frame
pub lent_is_short : (lent : List (Bor (List ℕ))) (i : ℕ) (none : Bor (List ℕ)) → i < length lent → ArePayloads (payloads_of lent) → length (get_or lent i none).now ≤ 131072
lent_is_short [] i none low short = absurd (omega (arith, low))
lent_is_short (t ∷ lent) zero none low short = short.0
lent_is_short (t ∷ lent) (suc i) none low short = lent_is_short lent i none (omega (arith, low)) short.1

pub length_more : (lent : List (Bor (List ℕ))) (i : ℕ) (none : Bor (List ℕ)) → i < length lent → length_under (payloads_of (take (i + 1) lent)) ≡ length_under (payloads_of (take i lent)) + (5 + length (get_or lent i none).now)
length_more lent i none low = ap length_under (one_lent lent i none low) ∙ omega (arith, sum_by-append (λ (t : List ℕ). 5 + length t) (payloads_of (take i lent)) ((get_or lent i none).now ∷ []))
