-- What bytes bring a journal.
use Rattle.std.proofs.Common.{◌≡◌, ◌≤◌, ℕ, List, [], ◌++◌, append_assoc, Bool, true, false, cond, ◌==◌, Some, Ok, Err, refl, sym, ap, ◌∙◌, arith}
use Rattle.std.proofs.lemmas.Bool.Decides.{nat_tests}
use Rattle.std.proofs.lemmas.List.{append-nil}
use Rattle.depot_base.specs.declared.record.Record.{Record}
use Rattle.depot_model.specs.declared.taken.Taken.TheVariants.{New, Known}
use Rattle.depot_model.specs.checks.Checks.{Setting}
use Rattle.depot_model.specs.texts.Frames.{Frame}
use Rattle.depot_model.specs.exchange.Feeding.{Feeding, after_outcome, passed, says_more, fed, fed_frame, take_frame}
use Rattle.depot_model.specs.checks.Taking.{Outcome, no_room, answered, appended_by}
use Rattle.depot_model.proofs.of_journals.FeedGrowth.{feed_grows}
use Rattle.depot_model.proofs.of_journals.FeedLaws.{fed_in_pieces}
use Rattle.depot_streams.specs.Pieces.{brought_by}
use Rattle.depot_streams.proofs.PieceLaws.{IsUnderWay}

-- ---- what a frame brings

-- an outcome adds what is appended for it
outcome_brings : (n : ℕ) (s : Feeding) (o : Outcome) → (after_outcome n s o).journal ≡ s.journal ++ appended_by o
outcome_brings n s (no_room what) = sym (append-nil s.journal)
outcome_brings n s (answered (Ok New) new) = refl
outcome_brings n s (answered (Ok Known) new) = refl
outcome_brings n s (answered (Err c) new) = refl

-- a whole frame adds what it brings, whatever its number of bytes
frame_brings : (here : Setting) (n : ℕ) (f : Frame) (s : Feeding) → (fed_frame here n f s).journal ≡ s.journal ++ brought_by here s.journal f
unfolding fed_frame
frame_brings here n f s = by_end (f.tag == 4) where
  by_end : (b : Bool) → (cond b (passed n (record s { ended = Some (says_more f.payload) })) (after_outcome n s (take_frame here s.journal f))).journal ≡ s.journal ++ cond b [] (appended_by (take_frame here s.journal f))
  by_end true = sym (append-nil s.journal)
  by_end false = outcome_brings n s (take_frame here s.journal f)

-- ---- one frame

-- a frame other than End brings what is appended for it
pub given_brings : (here : Setting) (J : List Record) (f : Frame) → f.tag ≤ 3 → appended_by (take_frame here J f) ≡ brought_by here J f
given_brings here J f le = by_end (f.tag == 4) (other f.tag le) where
  other : (t : ℕ) → t ≤ 3 → (t == 4) ≡ false
  other t e = grind (arith, nat_tests, e)

  by_end : (b : Bool) → b ≡ false → appended_by (take_frame here J f) ≡ cond b [] (appended_by (take_frame here J f))
  by_end true e = absurd cc
  by_end false e = refl

-- ---- bytes

-- bytes that take one frame bring what it brings
pub taken_brings : (here : Setting) (s now : Feeding) (bytes : List ℕ) (n : ℕ) (f : Frame) (J : List Record) → fed here s bytes ≡ fed_frame here n f now → now.journal ≡ J → (fed here s bytes).journal ≡ J ++ brought_by here J f
taken_brings here s now bytes n f J takes same = ap (λ (x : Feeding). x.journal) takes ∙ frame_brings here n f now ∙ ap (λ (K : List Record). K ++ brought_by here K f) same

-- bytes bring what was brought before a chunk, what the chunk brings, and what the bytes after it would bring
pub record Brings (here : Setting) (s : Feeding) (bytes : List ℕ) (J a b : List Record) : Type 0 where
  pub more : List Record
  pub is : (fed here s bytes).journal ≡ J ++ ((a ++ b) ++ more)

pub chunk_brings : (here there : Setting) (s now : Feeding) (bytes rest c behind : List ℕ) (J K a b : List Record) → there ≡ here → IsUnderWay here s bytes rest now → rest ≡ c ++ behind
    → K ≡ J ++ a → (fed there now c).journal ≡ K ++ b → Brings here s bytes J a b
chunk_brings here there s now bytes rest c behind J K a b stays u parts before brings =
    let g = feed_grows here (fed here now c) behind in
    let whole : fed here s bytes ≡ fed here (fed here now c) behind =
    ap (fed here s) (u.parts ∙ ap (λ (x : List ℕ). u.done ++ x) parts)
    ∙ fed_in_pieces here s u.done (c ++ behind)
    ∙ ap (λ (x : Feeding). fed here x (c ++ behind)) u.is
    ∙ fed_in_pieces here now c behind in
    let brought : (fed here now c).journal ≡ J ++ (a ++ b) =
    ap (λ (h : Setting). (fed h now c).journal) (sym stays)
    ∙ brings
    ∙ ap (λ (x : List Record). x ++ b) before
    ∙ append_assoc J a b in
    record { more = g.more; is = ap (λ (x : Feeding). x.journal) whole ∙ g.is ∙ ap (λ (x : List Record). x ++ g.more) brought ∙ append_assoc J (a ++ b) g.more }
