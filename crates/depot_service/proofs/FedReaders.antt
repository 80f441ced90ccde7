-- How a reader is fed frame by frame, and what is printed of it.
use Rattle.std.proofs.Common.{◌≡◌, ◌≢◌, ℕ, zero, suc, ◌+◌, ◌-◌, ◌<◌, ◌≤◌, List, [], ◌∷◌, ◌++◌, length, take, drop, get_or, map, Bool, true, false, not, cond, ◌||◌, Option, Some, None, Result, Ok, Err, refl, sym, ap, subst, ◌∙◌, append_assoc, length-append, arith}
use Rattle.std.specs.Option.{option_map_or}
use Rattle.std.specs.Prelude.{nat_lt, slice_get, ◌==◌}
use Rattle.std.specs.Int.{w32, from_be_bytes}
use Rattle.std.proofs.Math.Seq.{take-append_seam}
use Rattle.std.proofs.lemmas.Grind.{flat_map-append}
use Rattle.std.proofs.lemmas.List.{append-nil, drop-drop, length-drop, length-take, map-append}
use Rattle.depot_answers.specs.AnswerTexts.{spaced, text_of_write}
use Rattle.depot_base.specs.Tags.{frame_byte}
use Rattle.depot_base.specs.declared.tags.FrameTag.{FrameTag}
use Rattle.depot_base.specs.declared.tags.FrameTag.TheVariants as frame_tag
use Rattle.depot_base.specs.declared.check.Check.{Check}
use Rattle.depot_base.specs.declared.check.Full.{Full}
use Rattle.depot_base.specs.declared.limits.TheConstants.{MOST_FRAMES}
use Rattle.depot_base.specs.Writes.{wrote_under}
use Rattle.depot_base.specs.declared.update.Update.{Update}
use Rattle.depot_base.specs.declared.write.Wrote.{Wrote}
use Rattle.depot_base.specs.declared.write.Wrote.TheVariants.{Put, Gone}
use Rattle.depot_streams.proofs.WholeFrames.{whole_within}
use Rattle.depot_streams.specs.FrameHeads.{StandsAt}
use Rattle.depot_streams.specs.declared.frame.FrameAt.{FrameAt as Place}
use Rattle.depot_streams.specs.declared.frame.FrameAt.TheVariants as place
use Rattle.depot_model.specs.texts.Contents.{Sighting, held_value, not_held, gone}
use Rattle.depot_model.specs.exchange.Feeding.{form_of}
use Rattle.depot_model.specs.texts.Frames.{Frame, whole_frame, open_frame, no_frame, is_tag, goes_astray, frame_at}
use Rattle.depot_laws.proofs.records.Causes.{lawful_is_causal}
use Rattle.depot_model.specs.lists.Items.{updates_at}
use Rattle.depot_model.specs.journals.Journal.{accepted}
use Rattle.depot_model.specs.updates.LatestList.{latest_in}
use Rattle.depot_model.specs.journals.Lawful.{IsLawful}
use Rattle.depot_model.specs.lists.Lists.{IsIn}
use Rattle.depot_model.specs.updates.Order.{AreLatestIn, Precedes}
use Rattle.depot_model.specs.readers.ReaderFeeds.{ReaderFeed, frames_from, reader_fed, reader_feed_from, reader_feed_of, told_more}
use Rattle.depot_model.specs.readers.Readers.{Reader, ReaderOutcome, stands_below, too_full, told, reader_takes, seen_among, seen_by_reader, shown_by_reader}
use Rattle.depot_model.specs.texts.Roster.{Verifies}
use Rattle.depot_model.specs.worlds.World.{Shown}
use Rattle.depot_model.specs.declared.taken.Taken.{Taken}
use Rattle.depot_model.specs.declared.taken.Taken.TheVariants.{New, Known}
use Rattle.depot_model.proofs.lists.Elements.{one_more}
use Rattle.depot_model.proofs.of_updates.LatestLaws.{one_latest_list}
use Rattle.depot_model.proofs.of_updates.LatestWrites.{latest_are_listed}
use Rattle.depot_queries.specs.ShownValues.{value_seen}
use Rattle.depot_trim.specs.ReaderAnswers.{ReaderTakes}
use Rattle.depot_trim.specs.ReaderView.{IsReaderOf}
use Rattle.depot_trim.specs.declared.trim_error.TrimTake.{TrimTake}
use Rattle.depot_trim.specs.declared.trim_error.TrimTake.TheVariants as failed
use Rattle.depot_trim.specs.declared.trimmed.Trimmed.{Trimmed}
use Rattle.depot_service.specs.Printing.{shown_text, shown_value}
use Rattle.depot_service.specs.ReaderFeeding.{AreCountedWithin, HasTakenFront, IsReaderFed, IsReaderTold, after_frame, front_fed, goes_on}
use Rattle.depot_service.specs.declared.readers.ReaderFeedResult.{ReaderFeedResult}

-- ---- frames

enough : (n m : ℕ) → nat_lt m n ≡ false → n ≤ m
enough n m e = grind (arith, nat_lt, e)

payload_by_tests : (astray few short : Bool) (tag n : ℕ) (bytes : List ℕ) (f : Frame) → nat_lt (length (drop 4 bytes)) n ≡ short
    → cond astray no_frame (cond few open_frame (cond short open_frame (whole_frame (record { tag = tag; payload = take n (drop 4 bytes) })))) ≡ whole_frame f → f.payload ≡ take (length f.payload) (drop 4 bytes)
payload_by_tests true few short tag n bytes f is e = absurd cc
payload_by_tests false true short tag n bytes f is e = absurd cc
payload_by_tests false false true tag n bytes f is e = absurd cc
payload_by_tests false false false tag n bytes f is e =
    let same : record { tag = tag; payload = take n (drop 4 bytes) } ≡ f = cc in
    let long : length (take n (drop 4 bytes)) ≡ n = let low = enough n (length (drop 4 bytes)) is in omega (arith, length-take n (drop 4 bytes), low) in
    subst (λ (g : Frame). g.payload ≡ take (length g.payload) (drop 4 bytes)) same (ap (λ (m : ℕ). take m (drop 4 bytes)) (sym long))

-- the payload of a whole frame follows its five bytes
pub payload_behind : (bytes : List ℕ) (f : Frame) → frame_at bytes ≡ whole_frame f → f.payload ≡ take (length f.payload) (drop 5 bytes)
unfolding frame_at
payload_behind [] f e = absurd cc
payload_behind (tag ∷ bytes) f e = payload_by_tests (not (is_tag tag) || goes_astray tag (take 4 bytes) (drop 4 bytes)) (nat_lt (length bytes) 4) (nat_lt (length (drop 4 bytes)) (from_be_bytes w32 (take 4 bytes))) tag (from_be_bytes w32 (take 4 bytes)) bytes f refl e

-- no more frames are taken
pub no_more_frames : (n : ℕ) (bytes : List ℕ) → frame_at bytes ≡ open_frame → frames_from n bytes ≡ []
unfolding frames_from
no_more_frames zero bytes is = refl
no_more_frames (suc n) bytes is = rw (is, frames_from) refl

pub no_frame_more : (n : ℕ) (bytes : List ℕ) → frame_at bytes ≡ no_frame → frames_from n bytes ≡ []
unfolding frames_from
no_frame_more zero bytes is = refl
no_frame_more (suc n) bytes is = rw (is, frames_from) refl

pub end_of_frames : (n : ℕ) (bytes : List ℕ) (f : Frame) → frame_at bytes ≡ whole_frame f → (f.tag == 4) ≡ true → frames_from n bytes ≡ []
unfolding frames_from
end_of_frames zero bytes f is end = refl
end_of_frames (suc n) bytes f is end = rw (is, end, frames_from) refl

-- one frame more is taken
one_frame_more : (m : ℕ) (bytes : List ℕ) (f : Frame) → frame_at bytes ≡ whole_frame f → (f.tag == 4) ≡ false → frames_from (suc m) bytes ≡ f ∷ frames_from m (drop (5 + length f.payload) bytes)
unfolding frames_from
one_frame_more m bytes f is going = rw (is, going, frames_from) refl

pub next_frame : (most taken at end tag : ℕ) (stream payload : List ℕ) → taken < most → frame_at (drop at stream) ≡ whole_frame (record { tag = tag; payload = payload }) → end ≡ at + (5 + length payload) → (tag == 4) ≡ false
    → frames_from (most - taken) (drop at stream) ≡ record { tag = tag; payload = payload } ∷ frames_from (most - taken - 1) (drop end stream)
next_frame most taken at end tag stream payload some is ends going =
    let f : Frame = record { tag = tag; payload = payload } in
    let m = most - taken - 1 in
    let count : most - taken ≡ suc (most - taken - 1) = omega (arith, some) in
    let behind : drop (5 + length payload) (drop at stream) ≡ drop end stream = drop-drop (5 + length payload) at stream ∙ ap (λ (k : ℕ). drop k stream) (sym ends) in
    ap (λ (n : ℕ). frames_from n (drop at stream)) count ∙ one_frame_more m (drop at stream) f is going ∙ ap (λ (l : List ℕ). f ∷ frames_from m l) behind

-- the payload is the part of the stream between
part_is : (at end tag : ℕ) (stream payload : List ℕ) → frame_at (drop at stream) ≡ whole_frame (record { tag = tag; payload = payload }) → end ≡ at + (5 + length payload) → take (end - (at + 5)) (drop (at + 5) stream) ≡ payload
part_is at end tag stream payload is ends =
    let long : end - (at + 5) ≡ length payload = omega (arith, ends) in
    sym (payload_behind (drop at stream) (record { tag = tag; payload = payload }) is ∙ ap (take (length payload)) (drop-drop 5 at stream) ∙ ap (λ (k : ℕ). take k (drop (at + 5) stream)) (sym long))

-- a frame is within its stream
pub ends_within : (at end : ℕ) (tag : FrameTag) (stream : List ℕ) → at ≤ length stream → StandsAt (frame_at (drop at stream)) at (place.Frame tag end) → end ≤ length stream
ends_within at end tag stream low stands =
    let within = whole_within (drop at stream) (record { tag = frame_byte tag; payload = stands.0 }) stands.1.0 in
    omega (arith, within, length-drop at stream, stands.1.1, low)

-- the tag of End
pub is_end : (tag : FrameTag) → tag ≡ frame_tag.End → (frame_byte tag == 4) ≡ true
is_end tag is = ap (λ (t : FrameTag). frame_byte t == 4) is

pub is_no_end : (tag : FrameTag) → (tag ≡ frame_tag.End → ⊥) → (frame_byte tag == 4) ≡ false
is_no_end frame_tag.Proof isnt = refl
is_no_end frame_tag.Statement isnt = refl
is_no_end frame_tag.Value isnt = refl
is_no_end frame_tag.End isnt = absurd (isnt refl)

-- where there is no frame, no more are taken
pub no_frame_stands : (n at : ℕ) (bytes : List ℕ) (p : Place) → StandsAt (frame_at bytes) at p → ((tag : FrameTag) (end : ℕ) → p ≡ place.Frame tag end → ⊥) → frames_from n bytes ≡ []
no_frame_stands n at bytes place.Open is never = no_more_frames n bytes is
no_frame_stands n at bytes place.Ill is never = no_frame_more n bytes is
no_frame_stands n at bytes (place.Frame tag end) is never = absurd (never tag end refl)

-- ---- frames in front

-- one frame more was answered so
told_step : (s : ReaderFeed) (f : Frame) (fs : List Frame) (answer : Result Taken Check) (R : Reader) → reader_takes s.reader (form_of f.tag) f.payload ≡ told answer R → reader_fed s (f ∷ fs) ≡ reader_fed (told_more answer R s) fs
unfolding reader_fed
told_step s f fs answer R is = rw (is, reader_fed) refl

below_step : (s : ReaderFeed) (f : Frame) (fs : List Frame) (id : List ℕ) → reader_takes s.reader (form_of f.tag) f.payload ≡ stands_below id → reader_fed s (f ∷ fs) ≡ reader_fed (record s { below = s.below + 1 }) fs
unfolding reader_fed
below_step s f fs id is = rw (is, reader_fed) refl

full_step : (s : ReaderFeed) (f : Frame) (fs : List Frame) (what : Full) → reader_takes s.reader (form_of f.tag) f.payload ≡ too_full what → reader_fed s (f ∷ fs) ≡ record s { full = Some what }
unfolding reader_fed
full_step s f fs what is = rw (is, reader_fed) refl

-- none of these frames met a limit, so those after them are taken too
behind_one : (s : ReaderFeed) (f : Frame) (fs rest : List Frame) (after : ReaderFeed) (outcome : ReaderOutcome) → reader_takes s.reader (form_of f.tag) f.payload ≡ outcome → reader_fed s (f ∷ fs) ≡ after → after.full ≡ None
    → ((then : ReaderFeed) → reader_fed then fs ≡ after → reader_fed then (fs ++ rest) ≡ reader_fed after rest) → reader_fed s (f ∷ (fs ++ rest)) ≡ reader_fed after rest
behind_one s f fs rest after (told answer R) is fed none behind = told_step s f (fs ++ rest) answer R is ∙ behind (told_more answer R s) (sym (told_step s f fs answer R is) ∙ fed)
behind_one s f fs rest after (stands_below id) is fed none behind = below_step s f (fs ++ rest) id is ∙ behind (record s { below = s.below + 1 }) (sym (below_step s f fs id is) ∙ fed)
behind_one s f fs rest after (too_full what) is fed none behind =
    let met : Some what ≡ None = ap (λ (x : ReaderFeed). x.full) (sym (full_step s f fs what is) ∙ fed) ∙ none in
    absurd cc

fed_behind : (s : ReaderFeed) (front rest : List Frame) (after : ReaderFeed) → reader_fed s front ≡ after → after.full ≡ None → reader_fed s (front ++ rest) ≡ reader_fed after rest
unfolding reader_fed
fed_behind s [] rest after fed none = ap (λ (x : ReaderFeed). reader_fed x rest) fed
fed_behind s (f ∷ fs) rest after fed none = behind_one s f fs rest after (reader_takes s.reader (form_of f.tag) f.payload) refl fed none (λ then is. fed_behind then fs rest after is none)

-- ---- a reader that is fed

-- The frames before were taken: this is the reader, and these are the remaining frames.
pub record IsFedSoFar {S : Type 0} (verifies : Verifies) (R : Reader) (stream : List ℕ) (n : ℕ) (bytes : List ℕ) (t : ReaderFeedResult) (reader : Trimmed S) : Type 0 where
  pub front : List Frame
  pub parts : frames_from MOST_FRAMES stream ≡ front ++ frames_from n bytes
  pub feed : ReaderFeed
  pub fed : reader_fed (reader_feed_from R) front ≡ feed
  pub none_full : feed.full ≡ None
  pub is_told : IsReaderTold feed t
  pub is_reader : IsReaderOf verifies feed.reader reader

-- nothing was taken yet
pub fed_from_start : {S : Type 0} (verifies : Verifies) (R : Reader) (stream : List ℕ) (reader : Trimmed S) → IsReaderOf verifies R reader → IsFedSoFar verifies R stream MOST_FRAMES stream (record { counts = record { accepted = 0; known = 0; refused = 0; below = 0 }; full = None }) reader
unfolding reader_fed
fed_from_start verifies R stream reader is = record {
  front = [];
  parts = refl;
  feed = reader_feed_from R;
  fed = refl;
  none_full = refl;
  is_told = record { accepted = refl; known = refl; refused = refl; below = refl; full = refl };
  is_reader = is;
}

-- what becomes of the whole stream
whole_is : {S : Type 0} (verifies : Verifies) (R : Reader) (stream : List ℕ) (n : ℕ) (bytes : List ℕ) (t : ReaderFeedResult) (reader : Trimmed S) (so : IsFedSoFar verifies R stream n bytes t reader) → reader_feed_of R stream ≡ reader_fed so.feed (frames_from n bytes)
unfolding reader_feed_of
whole_is verifies R stream n bytes t reader so = ap (reader_fed (reader_feed_from R)) so.parts ∙ fed_behind (reader_feed_from R) so.front (frames_from n bytes) so.feed so.fed so.none_full

-- A stream is being taken from this place on, with so many frames after.
pub record IsTaking {S : Type 0} (verifies : Verifies) (start : Trimmed S) (stream : List ℕ) (at taken : ℕ) (t : ReaderFeedResult) (reader : Trimmed S) : Type 0 where
  pub within : at ≤ length stream
  pub counts : AreCountedWithin taken t
  pub somebodys : (R : Reader) × IsReaderOf verifies R reader
  pub so_far : (R : Reader) → IsReaderOf verifies R start → IsFedSoFar verifies R stream (MOST_FRAMES - taken) (drop at stream) t reader

-- nothing is passed
pub fed_all : {S : Type 0} (verifies : Verifies) (R : Reader) (stream : List ℕ) (n : ℕ) (bytes : List ℕ) (t : ReaderFeedResult) (reader : Trimmed S) → IsFedSoFar verifies R stream n bytes t reader → frames_from n bytes ≡ [] → IsReaderFed verifies R stream (Ok t) reader
unfolding reader_fed
fed_all verifies R stream n bytes t reader so none =
    let same : reader_feed_of R stream ≡ so.feed = whole_is verifies R stream n bytes t reader so ∙ ap (reader_fed so.feed) none in
    subst (λ (s : ReaderFeed). IsReaderTold s t × IsReaderOf verifies s.reader reader) (sym same) (so.is_told, so.is_reader)

-- the preceding frame was answered, and it is one more of those that were taken
one_front : (R : Reader) (stream bytes behind : List ℕ) (n : ℕ) (front : List Frame) (f : Frame) → frames_from MOST_FRAMES stream ≡ front ++ frames_from n bytes → frames_from n bytes ≡ f ∷ frames_from (n - 1) behind → frames_from MOST_FRAMES stream ≡ (front ++ f ∷ []) ++ frames_from (n - 1) behind
one_front R stream bytes behind n front f parts next = parts ∙ ap (λ (l : List Frame). front ++ l) next ∙ sym (append_assoc front (f ∷ []) (frames_from (n - 1) behind))

-- the preceding frame was answered, and those after it are taken too
pub fed_on : {S : Type 0} (verifies : Verifies) (R : Reader) (stream : List ℕ) (n : ℕ) (bytes behind : List ℕ) (f : Frame) (t : ReaderFeedResult) (answer : Result Taken TrimTake) (old new : Trimmed S) (so : IsFedSoFar verifies R stream n bytes t old)
    → frames_from n bytes ≡ f ∷ frames_from (n - 1) behind → ReaderTakes verifies so.feed.reader (form_of f.tag) f.payload answer new → goes_on answer ≡ true → IsFedSoFar verifies R stream (n - 1) behind (after_frame answer t) new
unfolding reader_fed
fed_on verifies R stream n bytes behind f t (Ok New) old new so next takes on = record {
  front = so.front ++ f ∷ [];
  parts = one_front R stream bytes behind n so.front f so.parts next;
  feed = told_more (Ok New) takes.0 so.feed;
  fed = fed_behind (reader_feed_from R) so.front (f ∷ []) so.feed so.fed so.none_full ∙ told_step so.feed f [] (Ok New) takes.0 takes.1.0;
  none_full = so.none_full;
  is_told = record { accepted = ap (λ (k : ℕ). k + 1) so.is_told.accepted; known = so.is_told.known; refused = so.is_told.refused; below = so.is_told.below; full = so.is_told.full };
  is_reader = takes.1.1;
}
fed_on verifies R stream n bytes behind f t (Ok Known) old new so next takes on = record {
  front = so.front ++ f ∷ [];
  parts = one_front R stream bytes behind n so.front f so.parts next;
  feed = told_more (Ok Known) takes.0 so.feed;
  fed = fed_behind (reader_feed_from R) so.front (f ∷ []) so.feed so.fed so.none_full ∙ told_step so.feed f [] (Ok Known) takes.0 takes.1.0;
  none_full = so.none_full;
  is_told = record { accepted = so.is_told.accepted; known = ap (λ (k : ℕ). k + 1) so.is_told.known; refused = so.is_told.refused; below = so.is_told.below; full = so.is_told.full };
  is_reader = takes.1.1;
}
fed_on verifies R stream n bytes behind f t (Err (failed.Refused c)) old new so next takes on = record {
  front = so.front ++ f ∷ [];
  parts = one_front R stream bytes behind n so.front f so.parts next;
  feed = told_more (Err c) takes.0 so.feed;
  fed = fed_behind (reader_feed_from R) so.front (f ∷ []) so.feed so.fed so.none_full ∙ told_step so.feed f [] (Err c) takes.0 takes.1.0;
  none_full = so.none_full;
  is_told = record { accepted = so.is_told.accepted; known = so.is_told.known; refused = ap (λ (k : ℕ). k + 1) so.is_told.refused; below = so.is_told.below; full = so.is_told.full };
  is_reader = takes.1.1;
}
fed_on verifies R stream n bytes behind f t (Err (failed.BelowCheckpoint id)) old new so next takes on = record {
  front = so.front ++ f ∷ [];
  parts = one_front R stream bytes behind n so.front f so.parts next;
  feed = record so.feed { below = so.feed.below + 1 };
  fed = fed_behind (reader_feed_from R) so.front (f ∷ []) so.feed so.fed so.none_full ∙ below_step so.feed f [] id takes.0;
  none_full = so.none_full;
  is_told = record { accepted = so.is_told.accepted; known = so.is_told.known; refused = so.is_told.refused; below = ap (λ (k : ℕ). k + 1) so.is_told.below; full = so.is_told.full };
  is_reader = takes.1;
}
fed_on verifies R stream n bytes behind f t (Err (failed.Full what)) old new so next takes on = absurd cc
fed_on verifies R stream n bytes behind f t (Err failed.Memory) old new so next takes on = absurd cc

-- there was no room for the preceding frame
pub fed_to_full : {S : Type 0} (verifies : Verifies) (R : Reader) (stream : List ℕ) (n : ℕ) (bytes behind : List ℕ) (f : Frame) (t : ReaderFeedResult) (answer : Result Taken TrimTake) (old new : Trimmed S) (so : IsFedSoFar verifies R stream n bytes t old)
    → frames_from n bytes ≡ f ∷ frames_from (n - 1) behind → ReaderTakes verifies so.feed.reader (form_of f.tag) f.payload answer new → goes_on answer ≡ false → answer ≢ Err failed.Memory → IsReaderFed verifies R stream (Ok (after_frame answer t)) new
fed_to_full verifies R stream n bytes behind f t (Ok New) old new so next takes on found = absurd cc
fed_to_full verifies R stream n bytes behind f t (Ok Known) old new so next takes on found = absurd cc
fed_to_full verifies R stream n bytes behind f t (Err (failed.Refused c)) old new so next takes on found = absurd cc
fed_to_full verifies R stream n bytes behind f t (Err (failed.BelowCheckpoint id)) old new so next takes on found = absurd cc
fed_to_full verifies R stream n bytes behind f t (Err failed.Memory) old new so next takes on found = absurd (found refl)
fed_to_full verifies R stream n bytes behind f t (Err (failed.Full what)) old new so next takes on found =
    let same : reader_feed_of R stream ≡ record so.feed { full = Some what } = whole_is verifies R stream n bytes t old so ∙ ap (reader_fed so.feed) next ∙ full_step so.feed f (frames_from (n - 1) behind) what takes.0 in
    subst (λ (s : ReaderFeed). IsReaderTold s (record t { full = Some what }) × IsReaderOf verifies s.reader new) (sym same)
    (record { accepted = so.is_told.accepted; known = so.is_told.known; refused = so.is_told.refused; below = so.is_told.below; full = refl }, takes.1)

-- no memory was found for the preceding frame
fed_to_front : {S : Type 0} (verifies : Verifies) (R : Reader) (stream : List ℕ) (n : ℕ) (bytes : List ℕ) (f : Frame) (behind : List Frame) (t : ReaderFeedResult) (old new : Trimmed S) (so : IsFedSoFar verifies R stream n bytes t old)
    → frames_from n bytes ≡ f ∷ behind → IsReaderOf verifies so.feed.reader new → HasTakenFront verifies R stream new
fed_to_front verifies R stream n bytes f behind t old new so next reads =
    let parts : frames_from MOST_FRAMES stream ≡ so.front ++ f ∷ behind = so.parts ∙ ap (λ (l : List Frame). so.front ++ l) next in
    let fed : front_fed R stream (length so.front) ≡ so.feed = ap (reader_fed (reader_feed_from R)) (ap (take (length so.front)) parts ∙ take-append_seam so.front (f ∷ behind)) ∙ so.fed in
    let long : length (frames_from MOST_FRAMES stream) ≡ length so.front + suc (length behind) = ap length parts ∙ length-append so.front (f ∷ behind) in
    record {
      count = length so.front;
      next = omega (arith, long);
      room = ap (λ (x : ReaderFeed). x.full) fed ∙ so.none_full;
      reader = subst (λ (x : ReaderFeed). IsReaderOf verifies x.reader new) (sym fed) reads;
    }

-- whatever the answer is, it is a reader then
pub is_somebodys : {S : Type 0} (verifies : Verifies) (R : Reader) (f : Frame) (answer : Result Taken TrimTake) (new : Trimmed S) → ReaderTakes verifies R (form_of f.tag) f.payload answer new → (R : Reader) × IsReaderOf verifies R new
is_somebodys verifies R f (Ok taken) new takes = (takes.0, takes.1.1)
is_somebodys verifies R f (Err (failed.Refused c)) new takes = (takes.0, takes.1.1)
is_somebodys verifies R f (Err (failed.BelowCheckpoint id)) new takes = (R, takes.1)
is_somebodys verifies R f (Err (failed.Full what)) new takes = (R, takes.1)
is_somebodys verifies R f (Err failed.Memory) new takes = (R, takes)

-- so many frames of each kind
pub counted_more : (n : ℕ) (answer : Result Taken TrimTake) (t : ReaderFeedResult) → AreCountedWithin n t → AreCountedWithin (n + 1) (after_frame answer t)
counted_more n (Ok New) t w = record { accepted = omega (arith, w.accepted); known = omega (arith, w.known); refused = omega (arith, w.refused); below = omega (arith, w.below) }
counted_more n (Ok Known) t w = record { accepted = omega (arith, w.accepted); known = omega (arith, w.known); refused = omega (arith, w.refused); below = omega (arith, w.below) }
counted_more n (Err (failed.Refused c)) t w = record { accepted = omega (arith, w.accepted); known = omega (arith, w.known); refused = omega (arith, w.refused); below = omega (arith, w.below) }
counted_more n (Err (failed.BelowCheckpoint id)) t w = record { accepted = omega (arith, w.accepted); known = omega (arith, w.known); refused = omega (arith, w.refused); below = omega (arith, w.below) }
counted_more n (Err (failed.Full what)) t w = record { accepted = omega (arith, w.accepted); known = omega (arith, w.known); refused = omega (arith, w.refused); below = omega (arith, w.below) }
counted_more n (Err failed.Memory) t w = record { accepted = omega (arith, w.accepted); known = omega (arith, w.known); refused = omega (arith, w.refused); below = omega (arith, w.below) }

-- ---- a stream that is being taken

pub taking_from_start : {S : Type 0} (verifies : Verifies) (start : Trimmed S) (stream : List ℕ) (t : ReaderFeedResult) → t ≡ record { counts = record { accepted = 0; known = 0; refused = 0; below = 0 }; full = None } → (R : Reader) × IsReaderOf verifies R start → IsTaking verifies start stream 0 0 t start
taking_from_start verifies start stream t is some = subst (λ (x : ReaderFeedResult). IsTaking verifies start stream 0 0 x start) (sym is) (record {
  within = omega arith;
  counts = record { accepted = omega arith; known = omega arith; refused = omega arith; below = omega arith };
  somebodys = some;
  so_far = λ R reads. fed_from_start verifies R stream start reads;
})

pub taken_all : {S : Type 0} (verifies : Verifies) (start : Trimmed S) (stream : List ℕ) (at taken : ℕ) (t : ReaderFeedResult) (reader : Trimmed S) → IsTaking verifies start stream at taken t reader → frames_from (MOST_FRAMES - taken) (drop at stream) ≡ [] → (R : Reader) → IsReaderOf verifies R start → IsReaderFed verifies R stream (Ok t) reader
taken_all verifies start stream at taken t reader k none R reads = fed_all verifies R stream (MOST_FRAMES - taken) (drop at stream) t reader (k.so_far R reads) none

pub taken_most : (n taken : ℕ) (bytes : List ℕ) → n ≤ taken → frames_from (n - taken) bytes ≡ []
unfolding frames_from
taken_most n taken bytes all = let none : n - taken ≡ 0 = omega (arith, all) in ap (λ (k : ℕ). frames_from k bytes) none

abbrev Takes : {S : Type 0} → Verifies → Trimmed S → ℕ → List ℕ → Result Taken TrimTake → Trimmed S → Type 0
Takes verifies old tag part answer new = (R : Reader) → IsReaderOf verifies R old → ReaderTakes verifies R (form_of tag) part answer new

pub taking_on : {S : Type 0} (verifies : Verifies) (start : Trimmed S) (stream part : List ℕ) (at taken end : ℕ) (tag : FrameTag) (t now : ReaderFeedResult) (old new : Trimmed S) (answer : Result Taken TrimTake) → IsTaking verifies start stream at taken t old → taken < MOST_FRAMES → StandsAt (frame_at (drop at stream)) at (place.Frame tag end) → end ≤ length stream
    → (frame_byte tag == 4) ≡ false → part ≡ take (end - (at + 5)) (drop (at + 5) stream) → Takes verifies old (frame_byte tag) part answer new → now ≡ after_frame answer t → goes_on answer ≡ true → IsTaking verifies start stream end (taken + 1) now new
taking_on {S} verifies start stream part at taken end tag t now old new answer k some stands within going cut takes is on =
    let payload = stands.0 in
    let f : Frame = record { tag = frame_byte tag; payload = payload } in
    let same : part ≡ payload = cut ∙ part_is at end (frame_byte tag) stream payload stands.1.0 stands.1.1 in
    let next = next_frame MOST_FRAMES taken at end (frame_byte tag) stream payload some stands.1.0 stands.1.1 going in
    let takes_it : (R : Reader) → IsReaderOf verifies R old → ReaderTakes verifies R (form_of (frame_byte tag)) payload answer new = λ R reads. subst (λ (x : List ℕ). ReaderTakes verifies R (form_of (frame_byte tag)) x answer new) same (takes R reads) in
    let count : MOST_FRAMES - taken - 1 ≡ MOST_FRAMES - (taken + 1) = omega (arith, some) in
    subst (λ (x : ReaderFeedResult). IsTaking verifies start stream end (taken + 1) x new) (sym is) (record {
      within = within;
      counts = counted_more taken answer t k.counts;
      somebodys = is_somebodys verifies k.somebodys.0 f answer new (takes_it k.somebodys.0 k.somebodys.1);
      so_far = λ R reads. let so = k.so_far R reads in
          subst (λ (n : ℕ). IsFedSoFar verifies R stream n (drop end stream) (after_frame answer t) new) count
          (fed_on verifies R stream (MOST_FRAMES - taken) (drop at stream) (drop end stream) f t answer old new so next (takes_it so.feed.reader so.is_reader) on);
    })

pub taking_full : {S : Type 0} (verifies : Verifies) (start : Trimmed S) (stream part : List ℕ) (at taken end : ℕ) (tag : FrameTag) (t now : ReaderFeedResult) (old new : Trimmed S) (answer : Result Taken TrimTake) → IsTaking verifies start stream at taken t old → taken < MOST_FRAMES → StandsAt (frame_at (drop at stream)) at (place.Frame tag end)
    → (frame_byte tag == 4) ≡ false → part ≡ take (end - (at + 5)) (drop (at + 5) stream) → Takes verifies old (frame_byte tag) part answer new → now ≡ after_frame answer t → goes_on answer ≡ false → answer ≢ Err failed.Memory → (R : Reader) → IsReaderOf verifies R start → IsReaderFed verifies R stream (Ok now) new
taking_full verifies start stream part at taken end tag t now old new answer k some stands going cut takes is on found R reads =
    let payload = stands.0 in
    let f : Frame = record { tag = frame_byte tag; payload = payload } in
    let same : part ≡ payload = cut ∙ part_is at end (frame_byte tag) stream payload stands.1.0 stands.1.1 in
    let next = next_frame MOST_FRAMES taken at end (frame_byte tag) stream payload some stands.1.0 stands.1.1 going in
    let so = k.so_far R reads in
    subst (λ (x : ReaderFeedResult). IsReaderFed verifies R stream (Ok x) new) (sym is)
    (fed_to_full verifies R stream (MOST_FRAMES - taken) (drop at stream) (drop end stream) f t answer old new so next (subst (λ (x : List ℕ). ReaderTakes verifies so.feed.reader (form_of (frame_byte tag)) x answer new) same (takes so.feed.reader so.is_reader)) on found)

-- no memory was found for the frame at this place
pub taking_short : {S : Type 0} (verifies : Verifies) (start : Trimmed S) (stream part : List ℕ) (at taken end : ℕ) (tag : FrameTag) (t : ReaderFeedResult) (old new : Trimmed S) (answer : Result Taken TrimTake) → IsTaking verifies start stream at taken t old → taken < MOST_FRAMES → StandsAt (frame_at (drop at stream)) at (place.Frame tag end)
    → (frame_byte tag == 4) ≡ false → Takes verifies old (frame_byte tag) part answer new → answer ≡ Err failed.Memory → (R : Reader) → IsReaderOf verifies R start → HasTakenFront verifies R stream new
taking_short verifies start stream part at taken end tag t old new answer k some stands going takes short R reads =
    let f : Frame = record { tag = frame_byte tag; payload = stands.0 } in
    let next = next_frame MOST_FRAMES taken at end (frame_byte tag) stream stands.0 some stands.1.0 stands.1.1 going in
    let so = k.so_far R reads in
    fed_to_front verifies R stream (MOST_FRAMES - taken) (drop at stream) f (frames_from (MOST_FRAMES - taken - 1) (drop end stream)) t old new so next
    (subst (λ (x : Result Taken TrimTake). ReaderTakes verifies so.feed.reader (form_of (frame_byte tag)) part x new) short (takes so.feed.reader so.is_reader))

-- ---- what it shows

by_value : (value o : Option (List ℕ)) → value ≡ value_seen (option_map_or held_value o not_held) → shown_value value ≡ option_map_or held_value o not_held
by_value value None e = ap shown_value e
by_value value (Some v) e = ap shown_value e

pub put_is_shown_by : (R : Reader) (key : List ℕ) (u : Update) (hash : List ℕ) (size : ℕ) (value : Option (List ℕ)) → wrote_under key u.writes ≡ Some (Put hash size) → value ≡ value_seen (seen_by_reader R key u) → shown_value value ≡ seen_by_reader R key u
unfolding seen_by_reader
put_is_shown_by R key u hash size value is e =
    let seen : seen_by_reader R key u ≡ seen_among R.held (Put hash size) = ap (λ (o : Option Wrote). option_map_or (seen_among R.held) o not_held) is in
    by_value value _ (e ∙ ap value_seen seen) ∙ sym seen

pub deletion_is_shown_by : (R : Reader) (key : List ℕ) (u : Update) → wrote_under key u.writes ≡ Some Gone → gone ≡ seen_by_reader R key u
unfolding seen_by_reader
deletion_is_shown_by R key u is = sym (ap (λ (o : Option Wrote). option_map_or (seen_among R.held) o not_held) is)

pub nothing_is_shown_by : (R : Reader) (key : List ℕ) (u : Update) → wrote_under key u.writes ≡ None → not_held ≡ seen_by_reader R key u
unfolding seen_by_reader
nothing_is_shown_by R key u is = sym (ap (λ (o : Option Wrote). option_map_or (seen_among R.held) o not_held) is)

-- the updates, as a reader shows them
abbrev pub shown_as_by : Reader → List ℕ → List Update → List Shown
shown_as_by R key us = map (λ u. record { update = u; seen = seen_by_reader R key u }) us

-- one more of them was printed
pub printed_more_by : (R : Reader) (us : List Update) (key items : List ℕ) (i item : ℕ) (u : Update) (old new : List ℕ) (seen : Sighting) → i < length items → item ≡ get_or items i 0 → slice_get us item ≡ Some u → seen ≡ seen_by_reader R key u
    → old ≡ shown_text (shown_as_by R key (updates_at us (take i items))) → new ≡ old ++ spaced (text_of_write (record { update = u; seen = seen })) → new ≡ shown_text (shown_as_by R key (updates_at us (take (i + 1) items)))
printed_more_by R us key items i item u old new seen within is at held before added =
    let front = updates_at us (take i items) in
    let all : shown_as_by R key (updates_at us (take (i + 1) items)) ≡ shown_as_by R key front ++ record { update = u; seen = seen_by_reader R key u } ∷ [] = ap (shown_as_by R key) (one_more us items i item u within is at) ∙ map-append _ front (u ∷ []) in
    let one : spaced (text_of_write (record { update = u; seen = seen })) ≡ shown_text (record { update = u; seen = seen_by_reader R key u } ∷ []) = ap (λ (o : Sighting). spaced (text_of_write (record { update = u; seen = o }))) held ∙ sym (append-nil (spaced (text_of_write (record { update = u; seen = seen_by_reader R key u })))) in
    added ∙ ap (λ (x : List ℕ). x ++ spaced (text_of_write (record { update = u; seen = seen }))) before ∙ ap (λ (x : List ℕ). shown_text (shown_as_by R key front) ++ x) one
    ∙ sym (ap shown_text all ∙ flat_map-append (λ (w : Shown). spaced (text_of_write w)) (shown_as_by R key front) (record { update = u; seen = seen_by_reader R key u } ∷ []))

-- the latest writes are those that a reader shows
pub shown_are_by : (R : Reader) (key items : List ℕ) → IsLawful R.here R.journal → AreLatestIn key (accepted R.journal) (updates_at (accepted R.journal) items) → shown_as_by R key (updates_at (accepted R.journal) items) ≡ shown_by_reader R key
shown_are_by R key items l latest =
    let us = accepted R.journal in
    ap (shown_as_by R key) (one_latest_list key (λ u. IsIn u us) (Precedes us) (updates_at us items) (latest_in key us) latest (latest_are_listed key us (lawful_is_causal R.here R.journal l)))
