-- Whatever is fed, a journal only grows.
use Rattle.std.proofs.Common.{◌≡◌, ◌==◌, ℕ, Bool, true, false, cond, is_some, List, [], ◌∷◌, ◌++◌, append_assoc, length, Some, Ok, Err, refl, sym, ap, ◌∙◌}
use Rattle.std.proofs.lemmas.List.{append-nil}
use Rattle.depot_base.specs.declared.record.Record.{Record}
use Rattle.depot_model.specs.declared.taken.Taken.TheVariants.{New, Known}
use Rattle.depot_model.specs.checks.Checks.{Setting}
use Rattle.depot_model.specs.texts.Frames.{Frame, FrameAt, whole_frame, open_frame, no_frame, frame_at}
use Rattle.depot_model.specs.exchange.Feeding.{Feeding, ill_formed, closed_by, after_outcome, passed, says_more, fed, fed_at, fed_byte, fed_frame, take_frame, is_over}
use Rattle.depot_model.specs.checks.Taking.{Outcome, no_room, answered}

-- a journal has the records of another one, and then more
pub record IsGrown (J K : List Record) : Type 0 where
  pub more : List Record
  pub is : K ≡ J ++ more

-- none is more
pub grown_none : (J : List Record) → IsGrown J J
grown_none J = record { more = []; is = sym (append-nil J) }

-- and then these
pub grown_on : (J K L new : List Record) → IsGrown J K → L ≡ K ++ new → IsGrown J L
grown_on J K L new g then = record { more = g.more ++ new; is = then ∙ ap (λ (x : List Record). x ++ new) g.is ∙ append_assoc J g.more new }

-- it grew twice
pub grown_twice : (J K L : List Record) → IsGrown J K → IsGrown K L → IsGrown J L
grown_twice J K L one two = grown_on J K L two.more one two.is

-- ---- a feed

outcome_grows : (n : ℕ) (s : Feeding) (o : Outcome) → IsGrown s.journal (after_outcome n s o).journal
outcome_grows n s (no_room what) = grown_none s.journal
outcome_grows n s (answered (Ok New) new) = record { more = new; is = refl }
outcome_grows n s (answered (Ok Known) new) = record { more = new; is = refl }
outcome_grows n s (answered (Err c) new) = record { more = new; is = refl }

frame_grows : (here : Setting) (n : ℕ) (f : Frame) (s : Feeding) → IsGrown s.journal (fed_frame here n f s).journal
unfolding fed_frame
frame_grows here n f s = by_end (f.tag == 4) where
  by_end : (b : Bool) → IsGrown s.journal (cond b (passed n (record s { ended = Some (says_more f.payload) })) (after_outcome n s (take_frame here s.journal f))).journal
  by_end true = grown_none s.journal
  by_end false = outcome_grows n s (take_frame here s.journal f)

at_grows : (here : Setting) (s : Feeding) (bytes : List ℕ) (at : FrameAt) → IsGrown s.journal (fed_at here s bytes at).journal
at_grows here s bytes open_frame = grown_none s.journal
at_grows here s bytes no_frame = grown_none s.journal
at_grows here s bytes (whole_frame f) = frame_grows here (length bytes) f s

-- one byte only adds to it
byte_grows : (here : Setting) (s : Feeding) (b : ℕ) → IsGrown s.journal (fed_byte here s b).journal
unfolding fed_byte
byte_grows here s b = by_tests (is_some s.closed) (is_over s) where
  next : Feeding
  next = fed_at here s (s.begun ++ b ∷ []) (frame_at (s.begun ++ b ∷ []))

  by_tests : (closed over : Bool) → IsGrown s.journal (cond closed s (cond over (closed_by (ill_formed s.start) s) next)).journal
  by_tests true over = grown_none s.journal
  by_tests false true = grown_none s.journal
  by_tests false false = at_grows here s (s.begun ++ b ∷ []) (frame_at (s.begun ++ b ∷ []))

-- and so do all bytes
pub feed_grows : (here : Setting) (s : Feeding) (bytes : List ℕ) → IsGrown s.journal (fed here s bytes).journal
unfolding fed
feed_grows here s [] = grown_none s.journal
feed_grows here s (b ∷ bytes) = grown_twice s.journal (fed_byte here s b).journal (fed here (fed_byte here s b) bytes).journal (byte_grows here s b) (feed_grows here (fed_byte here s b) bytes)
