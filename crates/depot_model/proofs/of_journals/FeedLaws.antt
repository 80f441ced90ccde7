-- A stream may be fed in pieces, however it is cut; and the bytes of a frame are fed by taking that frame.
use Rattle.std.proofs.Common.{◌≡◌, ℕ, ◌<◌, List, [], ◌∷◌, ◌++◌, append_assoc, length, Bool, true, false, cond, ◌==◌, is_some, Some, Ok, Err, refl, sym, ap, subst, ◌∙◌, arith}
use Rattle.std.proofs.lemmas.List.{append-nil}
use Rattle.std.proofs.lemmas.Bool.{cond-false}
use Rattle.depot_model.specs.declared.taken.Taken.TheVariants.{New, Known}
use Rattle.depot_model.specs.checks.Checks.{Setting}
use Rattle.depot_model.specs.texts.Frames.{Frame, text_of_frame, IsFrame, whole_frame, open_frame, frame_at}
use Rattle.depot_model.specs.checks.Taking.{Outcome, no_room, answered}
use Rattle.depot_model.specs.exchange.Feeding.{take_frame, Feeding, after_outcome, passed, says_more, fed, fed_byte, fed_at, fed_frame, is_over}
use Rattle.depot_model.proofs.of_texts.FrameLaws.{frame_is_whole, begun_is_open}

-- two pieces are fed one after another
pub fed_in_pieces : (here : Setting) (s : Feeding) (a b : List ℕ) → fed here s (a ++ b) ≡ fed here (fed here s a) b
unfolding fed
fed_in_pieces here s [] b = refl
fed_in_pieces here s (x ∷ a) b = fed_in_pieces here (fed_byte here s x) a b

-- ---- a frame, byte by byte

-- what becomes of a frame doesn't hang on the bytes that are open
outcome_alike : (n : ℕ) (s : Feeding) (p : List ℕ) (o : Outcome) → after_outcome n (record s { begun = p }) o ≡ after_outcome n s o
outcome_alike n s p (no_room what) = refl
outcome_alike n s p (answered (Ok New) new) = refl
outcome_alike n s p (answered (Ok Known) new) = refl
outcome_alike n s p (answered (Err c) new) = refl

pub frame_alike : (here : Setting) (n : ℕ) (f : Frame) (s : Feeding) (p : List ℕ) → fed_frame here n f (record s { begun = p }) ≡ fed_frame here n f s
unfolding fed_frame
frame_alike here n f s p = by_test (f.tag == 4) where
  by_test : (b : Bool) → cond b (passed n (record s { begun = p; ended = Some (says_more f.payload) })) (after_outcome n (record s { begun = p }) (take_frame here s.journal f)) ≡ cond b (passed n (record s { ended = Some (says_more f.payload) })) (after_outcome n s (take_frame here s.journal f))
  by_test true = refl
  by_test false = outcome_alike n s p (take_frame here s.journal f)

-- a byte for a feed that is neither closed nor over
pub one_byte : (here : Setting) (s : Feeding) (x : ℕ) → is_some s.closed ≡ false → is_over s ≡ false → fed_byte here s x ≡ fed_at here s (s.begun ++ x ∷ []) (frame_at (s.begun ++ x ∷ []))
unfolding fed_byte
one_byte here s x going on = cond-false (is_some s.closed) s _ going ∙ cond-false (is_over s) _ _ on

-- The bytes of a frame take the frame, with the last of them and not before.
pub frame_is_taken : (here : Setting) (s : Feeding) (f : Frame) → IsFrame f → s.begun ≡ [] → is_some s.closed ≡ false → is_over s ≡ false → fed here s (text_of_frame f) ≡ fed_frame here (length (text_of_frame f)) f s
unfolding fed
frame_is_taken here s f good none going on = subst (λ (p : List ℕ). fed here (record s { begun = p }) (text_of_frame f) ≡ fed_frame here (length (text_of_frame f)) f s) (sym none) (taken [] (text_of_frame f) refl (omega arith)) where
  text : List ℕ
  text = text_of_frame f

  taken : (p q : List ℕ) → p ++ q ≡ text_of_frame f → 0 < length q → fed here (record s { begun = p }) q ≡ fed_frame here (length (text_of_frame f)) f s
  taken p [] e some = absurd (omega (arith, some))
  taken p (x ∷ []) e some =
      let whole : frame_at (p ++ x ∷ []) ≡ whole_frame f = ap frame_at (e ∙ sym (append-nil (text_of_frame f))) ∙ frame_is_whole f good [] in
      one_byte here (record s { begun = p }) x going on
      ∙ ap (fed_at here (record s { begun = p }) (p ++ x ∷ [])) whole
      ∙ ap (λ (bytes : List ℕ). fed_frame here (length bytes) f (record s { begun = p })) e
      ∙ frame_alike here (length (text_of_frame f)) f s p
  taken p (x ∷ y ∷ q) e some =
      let split : (p ++ x ∷ []) ++ (y ∷ q) ≡ text_of_frame f = append_assoc p (x ∷ []) (y ∷ q) ∙ e in
      let begun : frame_at (p ++ x ∷ []) ≡ open_frame = begun_is_open f good (p ++ x ∷ []) (y ∷ q) split (omega arith) in
      let step : fed_byte here (record s { begun = p }) x ≡ record s { begun = p ++ x ∷ [] } = one_byte here (record s { begun = p }) x going on ∙ ap (fed_at here (record s { begun = p }) (p ++ x ∷ [])) begun in
      ap (λ (r : Feeding). fed here r (y ∷ q)) step ∙ taken (p ++ x ∷ []) (y ∷ q) split (omega arith)
