-- A node's answer to the payload of a frame is what a feed counts.
use Rattle.std.proofs.Common.{◌≡◌, ℕ, ◌≤◌, List, [], Bool, true, false, cond, ◌==◌, Some, Result, Ok, Err, refl, sym, ap, ◌∙◌, arith}
use Rattle.std.proofs.lemmas.Bool.Decides.{nat_tests}
use Rattle.depot_base.specs.declared.record.Record.{Record}
use Rattle.depot_base.specs.declared.check.Check.{Check}
use Rattle.depot_base.specs.Tags.{frame_byte}
use Rattle.depot_base.specs.declared.tags.FrameTag.{FrameTag}
use Rattle.depot_base.specs.declared.tags.FrameTag.TheVariants as tag
use Rattle.depot_model.specs.declared.taken.Taken.{Taken}
use Rattle.depot_model.specs.declared.taken.TakeError.{TakeError}
use Rattle.depot_model.specs.declared.taken.TakeError.TheVariants as refused
use Rattle.depot_model.specs.checks.Checks.{Setting}
use Rattle.depot_model.specs.texts.Frames.{Frame}
use Rattle.depot_model.specs.checks.Taking.{Outcome, TakesProof, TakesStatement, TakesValue}
use Rattle.depot_model.specs.exchange.Feeding.{Feeding, take_frame, fed_frame, after_outcome, passed, counted, says_more}
use Rattle.depot_model.proofs.of_journals.TakeLaws.{IsTold, Tells, proof_frame_tells, statement_frame_tells, value_frame_tells}
use Rattle.depot_streams.specs.declared.feed_error.FeedError.{FeedError}
use Rattle.depot_streams.specs.declared.feed_error.FeedError.TheVariants as error
use Rattle.depot_streams.specs.declared.tally.Tally.{Tally}
use Rattle.depot_streams.specs.Pieces.{at_work}
use Rattle.depot_streams.specs.NodeCalls.{stream_by, as_feed_answer, frame_of, AnswersForOutcome, TakesFrame}

answers_told : (o : Outcome) (J : List Record) (r : Result Taken TakeError) (then : List Record) → Tells o J r then → AnswersForOutcome o J (as_feed_answer r) then
answers_told o J (Ok taken) then t = t
answers_told o J (Err refused.Memory) then t = t
answers_told o J (Err refused.Disk) then t = t
answers_told o J (Err refused.Stopped) then t = t
answers_told o J (Err (refused.Full what)) then t = t
answers_told o J (Err (refused.Refused c)) then t = t

-- ---- the three sorts of frames that are given

pub proof_answers : (here : Setting) (J : List Record) (payload : List ℕ) (r : Result Taken TakeError) (then : List Record) → TakesProof here J payload r then → AnswersForOutcome (take_frame here J (frame_of tag.Proof payload)) J (as_feed_answer r) then
proof_answers here J payload r then t = answers_told _ J r then (proof_frame_tells here J payload r then t)

pub statement_answers : (here : Setting) (J : List Record) (payload : List ℕ) (r : Result Taken TakeError) (then : List Record) → TakesStatement here J payload r then → AnswersForOutcome (take_frame here J (frame_of tag.Statement payload)) J (as_feed_answer r) then
statement_answers here J payload r then t = answers_told _ J r then (statement_frame_tells here J payload r then t)

pub value_answers : (here : Setting) (J : List Record) (payload : List ℕ) (r : Result Taken TakeError) (then : List Record) → TakesValue here J payload r then → AnswersForOutcome (take_frame here J (frame_of tag.Value payload)) J (as_feed_answer r) then
value_answers here J payload r then t = answers_told _ J r then (value_frame_tells here J payload r then t)

-- ---- a frame is counted

-- the byte of a tag other than End
pub given_byte : (t : FrameTag) → (t ≡ tag.End → ⊥) → frame_byte t ≤ 3
given_byte tag.Proof other = omega arith
given_byte tag.Statement other = omega arith
given_byte tag.Value other = omega arith
given_byte tag.End other = absurd (other refl)

pub end_is_passed : (here : Setting) (n : ℕ) (f : Frame) (s : Feeding) → f.tag ≡ 4 → fed_frame here n f s ≡ passed n (record s { ended = Some (says_more f.payload) })
unfolding fed_frame
end_is_passed here n f s is = by_test (f.tag == 4) (four f.tag is) where
  four : (t : ℕ) → t ≡ 4 → (t == 4) ≡ true
  four t e = grind (arith, nat_tests, e)

  by_test : (b : Bool) → b ≡ true → cond b (passed n (record s { ended = Some (says_more f.payload) })) (after_outcome n s (take_frame here s.journal f)) ≡ passed n (record s { ended = Some (says_more f.payload) })
  by_test true e = refl
  by_test false e = absurd cc

given_is_fed : (here : Setting) (n : ℕ) (f : Frame) (s : Feeding) → f.tag ≤ 3 → fed_frame here n f s ≡ after_outcome n s (take_frame here s.journal f)
unfolding fed_frame
given_is_fed here n f s le = by_test (f.tag == 4) (other f.tag le) where
  other : (t : ℕ) → t ≤ 3 → (t == 4) ≡ false
  other t e = grind (arith, nat_tests, e)

  by_test : (b : Bool) → b ≡ false → cond b (passed n (record s { ended = Some (says_more f.payload) })) (after_outcome n s (take_frame here s.journal f)) ≡ after_outcome n s (take_frame here s.journal f)
  by_test true e = absurd cc
  by_test false e = refl

-- an answer is counted, and the frame is passed
pub counted_is_fed : (here : Setting) (n : ℕ) (f : Frame) (s now : Feeding) (answer : Result Taken Check) (then : List Record)
    → f.tag ≤ 3 → (told : IsTold (take_frame here s.journal f) s.journal answer then) → now ≡ passed n (counted answer told.new s) → now ≡ fed_frame here n f s
counted_is_fed here n f s now answer then le told is = is ∙ sym (given_is_fed here n f s le ∙ ap (after_outcome n s) told.is)

-- an error leaves the tally as it was
pub error_leaves : (here : Setting) (n : ℕ) (f : Frame) (t after : Tally) (J then : List Record) (e : FeedError)
    → f.tag ≤ 3 → stream_by after [] true ≡ stream_by t [] true → AnswersForOutcome (take_frame here J f) J (Err e) then → TakesFrame here n f t J (Err e) after then
error_leaves here n f t after J then error.Memory le same a = (same, a)
error_leaves here n f t after J then error.Disk le same a = (same, a)
error_leaves here n f t after J then error.Stopped le same a = (same, a)
error_leaves here n f t after J then (error.Full what) le same a = (same, (a.1, given_is_fed here n f (at_work (stream_by t [] false) J) le ∙ ap (after_outcome n (at_work (stream_by t [] false) J)) a.0))
error_leaves here n f t after J then (error.IllFormed at) le same a = absurd a
