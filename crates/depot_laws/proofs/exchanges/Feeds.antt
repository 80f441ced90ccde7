-- A feed takes frames in order, as long as there is room for each.
use Rattle.std.proofs.Common.{◌≡◌, ℕ, ◌+◌, ◌<◌, ◌≤◌, ◌==◌, List, [], ◌∷◌, ◌++◌, length, Bool, true, false, cond, is_some, Option, Some, None, Result, Ok, Err, refl, sym, ap, subst, ◌∙◌, arith, append_assoc}
use Rattle.std.specs.List.{AllByRecursion, flat_map}
use Rattle.std.proofs.lemmas.Bool.Decides.{nat_tests}
use Rattle.depot_base.specs.declared.record.Record.{Record}
use Rattle.depot_base.specs.declared.check.Check.{Check}
use Rattle.depot_base.specs.declared.check.Check.TheVariants as check
use Rattle.depot_base.specs.declared.check.Full.{Full}
use Rattle.depot_model.specs.declared.taken.Taken.{Taken}
use Rattle.depot_model.specs.declared.taken.Taken.TheVariants.{New, Known}
use Rattle.depot_model.specs.declared.bundle.Refusal.{Refusal}
use Rattle.depot_model.specs.checks.Checks.{Setting, Given, answer_to, growth}
use Rattle.depot_model.specs.checks.Room.{full_by}
use Rattle.depot_model.specs.texts.Frames.{Frame, text_of_frame, IsFrame}
use Rattle.depot_model.specs.exchange.Feeding.{says_more, given_by, take_frame, out_of_room, Feeding, closed_by, passed, counted, after_outcome, fed_frame, is_over, fed_byte, fed}
use Rattle.depot_model.specs.checks.Taking.{Outcome, no_room, answered, outcome_within, outcome_of}
use Rattle.depot_model.proofs.of_journals.FeedLaws.{fed_in_pieces, frame_is_taken}
use Rattle.std.proofs.lemmas.Bool.{cond-false}
use Rattle.depot_laws.specs.Streams.{fed_pieces, fed_frames, StaysOpen}
use Rattle.depot_laws.proofs.exchanges.Joining.{IsTaken}
use Rattle.depot_laws.proofs.exchanges.PlainFrames.{IsPlainFrame}
use Rattle.depot_laws.proofs.exchanges.Carrying.{growth_of, taking, HasRoomFor, RoomFor, IsTakenFrom, AreTaken}

-- ---- pieces

-- after a frame no bytes are open
pub frame_leaves_none : (here : Setting) (n : ℕ) (f : Frame) (s : Feeding) → (fed_frame here n f s).begun ≡ []
unfolding fed_frame
frame_leaves_none here n f s = by_end (f.tag == 4) (take_frame here s.journal f) where
  by_end : (b : Bool) (o : Outcome) → (cond b (passed n (record s { ended = Some (says_more f.payload) })) (after_outcome n s o)).begun ≡ []
  by_end true o = refl
  by_end false (no_room what) = refl
  by_end false (answered (Ok New) new) = refl
  by_end false (answered (Ok Known) new) = refl
  by_end false (answered (Err c) new) = refl

-- the pieces of a stream are the stream
pub pieces_are_one : (here : Setting) (s : Feeding) (ps : List (List ℕ)) → fed_pieces here s ps ≡ fed here s (flat_map (λ p. p) ps)
unfolding fed
pieces_are_one here s [] = refl
pieces_are_one here s (p ∷ ps) = pieces_are_one here (fed here s p) ps ∙ sym (fed_in_pieces here s p (flat_map (λ q. q) ps))

-- the bytes of frames are taken frame by frame
pub frames_in_turn : (here : Setting) (s : Feeding) (fs : List Frame) → AllByRecursion IsFrame fs → s.begun ≡ [] → StaysOpen here s fs → fed here s (flat_map text_of_frame fs) ≡ fed_frames here s fs
unfolding fed
frames_in_turn here s [] good none on = refl
frames_in_turn here s (f ∷ fs) good none on =
    fed_in_pieces here s (text_of_frame f) (flat_map text_of_frame fs)
    ∙ ap (λ (r : Feeding). fed here r (flat_map text_of_frame fs)) (frame_is_taken here s f good.0 none on.0 on.1.0)
    ∙ frames_in_turn here (fed_frame here (length (text_of_frame f)) f s) fs good.1 (frame_leaves_none here (length (text_of_frame f)) f s) on.1.1

-- ---- closed feeds

closed_byte : (here : Setting) (s : Feeding) (b : ℕ) → is_some s.closed ≡ true → fed_byte here s b ≡ s
unfolding fed_byte
closed_byte here s b e = rw e refl

-- a closed feed takes nothing
pub closed_stays : (here : Setting) (s : Feeding) (bytes : List ℕ) → is_some s.closed ≡ true → fed here s bytes ≡ s
unfolding fed
closed_stays here s [] e = refl
closed_stays here s (b ∷ bytes) e = ap (λ (t : Feeding). fed here t bytes) (closed_byte here s b e) ∙ closed_stays here s bytes e

-- ---- a frame that isn't End

not_end : (here : Setting) (n : ℕ) (f : Frame) (s : Feeding) → (f.tag == 4) ≡ false → fed_frame here n f s ≡ after_outcome n s (outcome_of here s.journal (given_by f))
unfolding fed_frame take_frame
not_end here n f s e = cond-false (f.tag == 4) _ _ e

-- What a feed is that continues: it isn't closed, no End frame came, no bytes are open, and this many frames were
-- taken.
pub record GoesOnWith (s : Feeding) (frames : ℕ) : Type 0 where
  pub open_still : s.closed ≡ None
  pub none_ended : s.ended ≡ None
  pub none_begun : s.begun ≡ []
  pub taken : s.frames ≡ frames

pub not_over : (s : Feeding) (n : ℕ) → GoesOnWith s n → n < 524288 → is_over s ≡ false
not_over s n g few =
    let ended : is_some s.ended ≡ false = ap is_some g.none_ended in
    let less : (s.frames == 524288) ≡ false = other_number s.frames 524288 (λ e. omega (arith, g.taken, few, e)) in
    rw (ended) less where
      other_number : (a b : ℕ) → (a ≡ b → ⊥) → (a == b) ≡ false
      other_number a b differ = by_test (a == b) refl where
        by_test : (t : Bool) → (a == b) ≡ t → (a == b) ≡ false
        by_test true is = absurd (differ (grind (arith, nat_tests, is)))
        by_test false is = is

-- the feed after a frame of which is known what becomes of it
frame_fed : (here : Setting) (s : Feeding) (f : Frame) (n : ℕ) → IsFrame f → (f.tag == 4) ≡ false → GoesOnWith s n → n < 524288 → fed here s (text_of_frame f) ≡ after_outcome (length (text_of_frame f)) s (outcome_of here s.journal (given_by f))
frame_fed here s f n good other g few = frame_is_taken here s f good g.none_begun (ap is_some g.open_still) (not_over s n g few) ∙ not_end here (length (text_of_frame f)) f s other

-- the journal, and what was refused, after some frames
pub record IsFedTo (s : Feeding) (frames : ℕ) (J : List Record) (refused : List Refusal) : Type 0 where
  pub goes_on : GoesOnWith s frames
  pub journal : s.journal ≡ J
  pub refused_are : s.refused ≡ refused

-- an answer that isn't refused is counted
counted_taken : (n : ℕ) (s : Feeding) (answer : Result Taken Check) (new : List Record) (frames : ℕ) → GoesOnWith s frames → IsTaken answer → IsFedTo (passed n (counted answer new s)) (frames + 1) (s.journal ++ new) s.refused
counted_taken n s (Ok New) new frames g t = record { goes_on = record { open_still = g.open_still; none_ended = g.none_ended; none_begun = refl; taken = ap (λ (k : ℕ). k + 1) g.taken }; journal = refl; refused_are = refl }
counted_taken n s (Ok Known) new frames g t = record { goes_on = record { open_still = g.open_still; none_ended = g.none_ended; none_begun = refl; taken = ap (λ (k : ℕ). k + 1) g.taken }; journal = refl; refused_are = refl }
counted_taken n s (Err c) new frames g t = absurd t

-- whatever the answer, the journal grows
counted_any : (n : ℕ) (s : Feeding) (answer : Result Taken Check) (new : List Record) (frames : ℕ) → GoesOnWith s frames → (refused : List Refusal) × IsFedTo (passed n (counted answer new s)) (frames + 1) (s.journal ++ new) refused
counted_any n s (Ok New) new frames g = (s.refused, counted_taken n s (Ok New) new frames g tt)
counted_any n s (Ok Known) new frames g = (s.refused, counted_taken n s (Ok Known) new frames g tt)
counted_any n s (Err c) new frames g = ((passed n (counted (Err c) new s)).refused, record { goes_on = record { open_still = g.open_still; none_ended = g.none_ended; none_begun = refl; taken = ap (λ (k : ℕ). k + 1) g.taken }; journal = refl; refused_are = refl })

-- ---- room

-- the feed was closed since there was no room
abbrev pub IsFullAt : Feeding → Type 0
IsFullAt s = (what : Full) × (s.closed ≡ Some (out_of_room what))

-- a frame finds room, and the feed continues, or the feed is closed
record FindsRoom (here : Setting) (s : Feeding) (frames n : ℕ) (r : Result Given ℕ) : Type 0 where
  pub room : HasRoomFor here s.journal r
  pub refused : List Refusal
  pub fed_to : IsFedTo (after_outcome n s (outcome_of here s.journal r)) (frames + 1) (s.journal ++ growth_of here s.journal r) refused

frame_room : (here : Setting) (s : Feeding) (frames n : ℕ) (r : Result Given ℕ) → GoesOnWith s frames → (IsFullAt (after_outcome n s (outcome_of here s.journal r)) → ⊥) → FindsRoom here s frames n r
frame_room here s frames n (Err at) g never_full = let c = counted_any n s (Err (check.IllFormed at)) [] frames g in record { room = tt; refused = c.0; fed_to = c.1 }
frame_room here s frames n (Ok x) g never_full = by_room (full_by here.me s.journal (growth here s.journal x)) refl never_full where
  by_room : (o : Option Full) → full_by here.me s.journal (growth here s.journal x) ≡ o → (IsFullAt (after_outcome n s (outcome_of here s.journal (Ok x))) → ⊥) → FindsRoom here s frames n (Ok x)
  by_room None is never_full =
      let c = counted_any n s (answer_to here s.journal x) (growth here s.journal x) frames g in
      let same : after_outcome n s (outcome_of here s.journal (Ok x)) ≡ passed n (counted (answer_to here s.journal x) (growth here s.journal x) s) = ap (λ (o : Option Full). after_outcome n s (outcome_within o (answer_to here s.journal x) (growth here s.journal x))) is in
      record { room = is; refused = c.0; fed_to = subst (λ (t : Feeding). IsFedTo t (frames + 1) (s.journal ++ growth here s.journal x) c.0) (sym same) c.1 }
  by_room (Some what) is never_full =
      let same : after_outcome n s (outcome_of here s.journal (Ok x)) ≡ closed_by (out_of_room what) s = ap (λ (o : Option Full). after_outcome n s (outcome_within o (answer_to here s.journal x) (growth here s.journal x))) is in
      absurd (never_full (what, ap (λ (t : Feeding). t.closed) same))

full_is_closed : (s : Feeding) → IsFullAt s → is_some s.closed ≡ true
full_is_closed s f = ap is_some f.1

-- a feed that is full stays full
full_stays : (here : Setting) (s : Feeding) (bytes : List ℕ) → IsFullAt s → IsFullAt (fed here s bytes)
full_stays here s bytes f = subst IsFullAt (sym (closed_stays here s bytes (full_is_closed s f))) f

-- Where a feed isn't closed for want of room in the end, each frame found room.
pub frames_find_room : (here : Setting) (s : Feeding) (n : ℕ) (fs : List Frame) (more : List ℕ) → GoesOnWith s n → AllByRecursion IsPlainFrame fs → n + length fs ≤ 524288 → (IsFullAt (fed here s (flat_map text_of_frame fs ++ more)) → ⊥) → RoomFor here s.journal fs
frames_find_room here s n [] more g good few never_full = tt
frames_find_room here s n (f ∷ fs) more g good few never_full =
    let parts : fed here s (flat_map text_of_frame (f ∷ fs) ++ more) ≡ fed here (fed here s (text_of_frame f)) (flat_map text_of_frame fs ++ more) = ap (fed here s) (append_assoc (text_of_frame f) (flat_map text_of_frame fs) more) ∙ fed_in_pieces here s (text_of_frame f) (flat_map text_of_frame fs ++ more) in
    let one = frame_fed here s f n good.0.good good.0.other g (omega (arith, few)) in
    let t = after_outcome (length (text_of_frame f)) s (outcome_of here s.journal (given_by f)) in
    let whole : fed here s (flat_map text_of_frame (f ∷ fs) ++ more) ≡ fed here t (flat_map text_of_frame fs ++ more) = parts ∙ ap (λ (u : Feeding). fed here u (flat_map text_of_frame fs ++ more)) one in
    let r = frame_room here s n (length (text_of_frame f)) (given_by f) g (λ full. never_full (subst IsFullAt (sym whole) (full_stays here t (flat_map text_of_frame fs ++ more) full))) in
    let rest = frames_find_room here t (n + 1) fs more r.fed_to.goes_on good.1 (omega (arith, few)) (λ full. never_full (subst IsFullAt (sym whole) full)) in
    (r.room, subst (λ (J : List Record). RoomFor here J fs) r.fed_to.journal rest)

-- ---- frames that aren't refused

frame_taken : (here : Setting) (s : Feeding) (frames n : ℕ) (r : Result Given ℕ) → GoesOnWith s frames → HasRoomFor here s.journal r → IsTakenFrom here s.journal r → IsFedTo (after_outcome n s (outcome_of here s.journal r)) (frames + 1) (s.journal ++ growth_of here s.journal r) s.refused
frame_taken here s frames n (Err at) g room taken = absurd taken
frame_taken here s frames n (Ok x) g room taken =
    let same : after_outcome n s (outcome_of here s.journal (Ok x)) ≡ passed n (counted (answer_to here s.journal x) (growth here s.journal x) s) = ap (λ (o : Option Full). after_outcome n s (outcome_within o (answer_to here s.journal x) (growth here s.journal x))) room in
    subst (λ (t : Feeding). IsFedTo t (frames + 1) (s.journal ++ growth here s.journal x) s.refused) (sym same) (counted_taken n s (answer_to here s.journal x) (growth here s.journal x) frames g taken)

-- Frames that find room and aren't refused are taken in order.
pub frames_are_fed : (here : Setting) (s : Feeding) (n : ℕ) (fs : List Frame) → GoesOnWith s n → AllByRecursion IsPlainFrame fs → n + length fs ≤ 524288 → RoomFor here s.journal fs → AreTaken here s.journal fs → IsFedTo (fed here s (flat_map text_of_frame fs)) (n + length fs) (taking here s.journal fs) s.refused
unfolding fed
frames_are_fed here s n [] g good few room taken = record { goes_on = record { open_still = g.open_still; none_ended = g.none_ended; none_begun = g.none_begun; taken = g.taken ∙ omega arith }; journal = refl; refused_are = refl }
frames_are_fed here s n (f ∷ fs) g good few room taken =
    let one = frame_fed here s f n good.0.good good.0.other g (omega (arith, few)) in
    let t = after_outcome (length (text_of_frame f)) s (outcome_of here s.journal (given_by f)) in
    let whole : fed here s (flat_map text_of_frame (f ∷ fs)) ≡ fed here t (flat_map text_of_frame fs) = fed_in_pieces here s (text_of_frame f) (flat_map text_of_frame fs) ∙ ap (λ (u : Feeding). fed here u (flat_map text_of_frame fs)) one in
    let now = frame_taken here s n (length (text_of_frame f)) (given_by f) g room.0 taken.0 in
    let journal = now.journal in
    let rest = frames_are_fed here t (n + 1) fs now.goes_on good.1 (omega (arith, few)) (subst (λ (J : List Record). RoomFor here J fs) (sym journal) room.1) (subst (λ (J : List Record). AreTaken here J fs) (sym journal) taken.1) in
    let count : (n + 1) + length fs ≡ n + length (f ∷ fs) = omega arith in
    subst (λ (u : Feeding). IsFedTo u (n + length (f ∷ fs)) (taking here s.journal (f ∷ fs)) s.refused) (sym whole) (record {
      goes_on = subst (λ (k : ℕ). GoesOnWith (fed here t (flat_map text_of_frame fs)) k) count rest.goes_on;
      journal = rest.journal ∙ ap (λ (J : List Record). taking here J fs) journal;
      refused_are = rest.refused_are ∙ now.refused_are;
    })
