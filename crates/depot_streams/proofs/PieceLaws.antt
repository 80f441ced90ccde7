-- Chunks, one after another, make of a feed what their bytes together make of it.
use Rattle.std.proofs.Common.{◌≡◌, ℕ, ◌<◌, ◌≤◌, List, [], ◌∷◌, ◌++◌, append_assoc, length, true, false, is_some, Option, Some, None, Result, Ok, Err, refl, sym, ap, subst, ◌∙◌, arith}
use Rattle.std.specs.Prelude.{IsErrOf}
use Rattle.std.proofs.lemmas.List.{append-nil, length-append}
use Rattle.depot_base.specs.declared.record.Record.{Record}
use Rattle.depot_model.specs.checks.Checks.{Setting}
use Rattle.depot_model.specs.texts.Frames.{Frame, whole_frame, open_frame, no_frame, frame_at}
use Rattle.depot_model.specs.exchange.Feeding.{Feeding, Closing, ill_formed, out_of_room, closed_by, fed, fed_at, fed_frame, take_frame, is_over}
use Rattle.depot_model.specs.checks.Taking.{answered}
use Rattle.depot_model.specs.checks.Limits.{IsCutShort}
use Rattle.depot_model.proofs.of_journals.FeedLaws.{fed_in_pieces, frame_alike}
use Rattle.depot_streams.specs.declared.feed_error.FeedError.{FeedError}
use Rattle.depot_streams.specs.declared.feed_error.FeedError.TheVariants as error
use Rattle.depot_streams.specs.declared.tally.Tally.{Tally}
use Rattle.depot_streams.specs.FrameHeads.{bytes_missing}
use Rattle.depot_streams.specs.Pieces.{Stream, stream_of, at_work, shut, AreOf, Feeds}
use Rattle.depot_streams.specs.NodeCalls.{stream_by, stream_after, TakesFrame}
use Rattle.depot_streams.proofs.ChunkLaws.{stays_open, chunk_is_fed, closed_before, over_is_fed}

-- ---- a piece in two parts

some_closed : (o : Option Closing) (why : Closing) → o ≡ Some why → is_some o ≡ true
some_closed o why e = ap (λ (x : Option Closing). is_some x) e

-- an earlier error stands, whatever comes after it
pub feeds_more : (here : Setting) (s : Feeding) (a b : List ℕ) (e : FeedError) (S : Stream) (J : List Record) → Feeds here s a (Err e) S J → Feeds here s (a ++ b) (Err e) S J
feeds_more here s a b (error.IllFormed at) S J f =
    let same = closed_before here s a b (some_closed (fed here s a).closed (ill_formed at) f.0) in
    (ap (λ (t : Feeding). t.closed) same ∙ f.0, record { stream = f.1.stream ∙ ap (λ (t : Feeding). stream_of t) (sym same); journal = f.1.journal ∙ ap (λ (t : Feeding). t.journal) (sym same) })
feeds_more here s a b (error.Full what) S J f =
    let same = closed_before here s a b (some_closed (fed here s a).closed (out_of_room what) f.0) in
    (ap (λ (t : Feeding). t.closed) same ∙ f.0, record { stream = f.1.stream ∙ ap (λ (t : Feeding). stream_of t) (sym same); journal = f.1.journal ∙ ap (λ (t : Feeding). t.journal) (sym same) })
feeds_more here s a b error.Memory S J f = record { front = f.front; rest = f.rest ++ b; parts = ap (λ (t : List ℕ). t ++ b) f.parts ∙ append_assoc f.front f.rest b; going = f.going; stream = f.stream; journal = f.journal }
feeds_more here s a b error.Disk S J f = record {
  front = f.front;
  byte = f.byte;
  rest = f.rest ++ b;
  parts = ap (λ (t : List ℕ). t ++ b) f.parts ∙ append_assoc f.front (f.byte ∷ f.rest) b;
  going = f.going;
  may_come = f.may_come;
  frame = f.frame;
  whole = f.whole;
  answer = f.answer;
  new = f.new;
  outcome = f.outcome;
  cut = f.cut;
  stream = f.stream;
}
feeds_more here s a b error.Stopped S J f = f

-- what comes after bytes that were fed
pub feeds_behind : (here : Setting) (s : Feeding) (a b : List ℕ) (r : Result (Unit {0}) FeedError) (S : Stream) (J : List Record) → (IsErrOf r error.Stopped → ⊥) → Feeds here (fed here s a) b r S J → Feeds here s (a ++ b) r S J
feeds_behind here s a b (Ok done) S J runs f =
    let same = sym (fed_in_pieces here s a b) in
    (sym (ap (λ (t : Feeding). t.closed) same) ∙ f.0, record { stream = f.1.stream ∙ ap (λ (t : Feeding). stream_of t) same; journal = f.1.journal ∙ ap (λ (t : Feeding). t.journal) same })
feeds_behind here s a b (Err (error.IllFormed at)) S J runs f =
    let same = sym (fed_in_pieces here s a b) in
    (sym (ap (λ (t : Feeding). t.closed) same) ∙ f.0, record { stream = f.1.stream ∙ ap (λ (t : Feeding). stream_of t) same; journal = f.1.journal ∙ ap (λ (t : Feeding). t.journal) same })
feeds_behind here s a b (Err (error.Full what)) S J runs f =
    let same = sym (fed_in_pieces here s a b) in
    (sym (ap (λ (t : Feeding). t.closed) same) ∙ f.0, record { stream = f.1.stream ∙ ap (λ (t : Feeding). stream_of t) same; journal = f.1.journal ∙ ap (λ (t : Feeding). t.journal) same })
feeds_behind here s a b (Err error.Memory) S J runs f =
    let same = fed_in_pieces here s a f.front in
    record {
      front = a ++ f.front;
      rest = f.rest;
      parts = ap (λ (t : List ℕ). a ++ t) f.parts ∙ sym (append_assoc a f.front f.rest);
      going = ap (λ (t : Feeding). t.closed) same ∙ f.going;
      stream = f.stream ∙ ap (λ (t : Feeding). shut (stream_of t)) (sym same);
      journal = f.journal ∙ ap (λ (t : Feeding). t.journal) (sym same);
    }
feeds_behind here s a b (Err error.Disk) S J runs f =
    let same = fed_in_pieces here s a f.front in
    let moved : (P : Feeding → Type 0) → P (fed here (fed here s a) f.front) → P (fed here s (a ++ f.front)) = λ P p. subst P (sym same) p in
    record {
      front = a ++ f.front;
      byte = f.byte;
      rest = f.rest;
      parts = ap (λ (t : List ℕ). a ++ t) f.parts ∙ sym (append_assoc a f.front (f.byte ∷ f.rest));
      going = moved (λ t. t.closed ≡ None) f.going;
      may_come = moved (λ t. is_over t ≡ false) f.may_come;
      frame = f.frame;
      whole = moved (λ t. frame_at (t.begun ++ f.byte ∷ []) ≡ whole_frame f.frame) f.whole;
      answer = f.answer;
      new = f.new;
      outcome = moved (λ t. take_frame here t.journal f.frame ≡ answered f.answer f.new) f.outcome;
      cut = moved (λ t. IsCutShort t.journal f.new J) f.cut;
      stream = f.stream ∙ ap (λ (t : Feeding). shut (stream_of t)) (sym same);
    }
feeds_behind here s a b (Err error.Stopped) S J runs f = absurd (runs refl)

-- ---- a chunk

-- no frame may come any more
pub over_is_ill : (here : Setting) (t : Tally) (begun c : List ℕ) (J : List Record) → is_over (at_work (stream_by t begun false) J) ≡ true → 0 < length c
    → Feeds here (at_work (stream_by t begun false) J) c (Err (error.IllFormed t.start)) (stream_by t [] true) J
over_is_ill here t begun [] J over some = absurd (omega (arith, some))
over_is_ill here t begun (x ∷ c) J over some =
    let s = at_work (stream_by t begun false) J in
    let is : fed here s (x ∷ c) ≡ closed_by (ill_formed t.start) s = over_is_fed here s x c refl over in
    (ap (λ (r : Feeding). r.closed) is, record { stream = sym (ap (λ (r : Feeding). stream_of r) is); journal = sym (ap (λ (r : Feeding). r.journal) is) })

-- nothing of a chunk was fed
pub chunk_is_dropped : (here : Setting) (t after : Tally) (begun c : List ℕ) (J then : List Record) → stream_by after [] true ≡ stream_by t [] true → then ≡ J
    → Feeds here (at_work (stream_by t begun false) J) c (Err error.Memory) (stream_by after [] true) then
unfolding fed
chunk_is_dropped here t after begun c J then same is = record { front = []; rest = c; parts = refl; going = refl; stream = same; journal = is }

-- the chunk leaves the frame open
pub chunk_is_open : (here : Setting) (t : Tally) (begun c : List ℕ) (J : List Record) → is_over (at_work (stream_by t begun false) J) ≡ false → frame_at begun ≡ open_frame → 0 < length c → length c ≤ bytes_missing begun
    → frame_at (begun ++ c) ≡ open_frame → Feeds here (at_work (stream_by t begun false) J) c (Ok tt) (stream_by t (begun ++ c) false) J
chunk_is_open here t begun c J on told some le at =
    let s = at_work (stream_by t begun false) J in
    let is : fed here s c ≡ record s { begun = begun ++ c } = chunk_is_fed here s c refl on told some le ∙ ap (fed_at here s (begun ++ c)) at in
    (ap (λ (r : Feeding). r.closed) is, record { stream = sym (ap (λ (r : Feeding). stream_of r) is); journal = sym (ap (λ (r : Feeding). r.journal) is) })

-- no frame begins so
pub chunk_is_ill : (here : Setting) (t : Tally) (begun c : List ℕ) (J : List Record) → is_over (at_work (stream_by t begun false) J) ≡ false → frame_at begun ≡ open_frame → 0 < length c → length c ≤ bytes_missing begun
    → frame_at (begun ++ c) ≡ no_frame → Feeds here (at_work (stream_by t begun false) J) c (Err (error.IllFormed t.start)) (stream_by t [] true) J
chunk_is_ill here t begun c J on told some le at =
    let s = at_work (stream_by t begun false) J in
    let is : fed here s c ≡ closed_by (ill_formed t.start) s = chunk_is_fed here s c refl on told some le ∙ ap (fed_at here s (begun ++ c)) at in
    (ap (λ (r : Feeding). r.closed) is, record { stream = sym (ap (λ (r : Feeding). stream_of r) is); journal = sym (ap (λ (r : Feeding). r.journal) is) })

-- ---- a whole frame

-- a list that isn't empty, without its last and the last
record IsSplit (c : List ℕ) : Type 0 where
  pub front : List ℕ
  pub byte : ℕ
  pub parts : c ≡ front ++ byte ∷ []

split_last : (c : List ℕ) → 0 < length c → IsSplit c
split_last [] some = absurd (omega (arith, some))
split_last (x ∷ []) some = record { front = []; byte = x; parts = refl }
split_last (x ∷ y ∷ c) some = let s = split_last (y ∷ c) (omega arith) in record { front = x ∷ s.front; byte = s.byte; parts = ap (λ (t : List ℕ). x ∷ t) s.parts }

-- fewer bytes than are missing leave a frame open
pub front_is_open : (p c : List ℕ) → frame_at p ≡ open_frame → length c < bytes_missing p → frame_at (p ++ c) ≡ open_frame
front_is_open p [] told lt = ap frame_at (append-nil p) ∙ told
front_is_open p (x ∷ c) told lt =
    let o = stays_open p x told (omega (arith, lt)) in
    ap frame_at (sym (append_assoc p (x ∷ []) c)) ∙ front_is_open (p ++ x ∷ []) c o.told (omega (arith, lt, o.left))

front_is_fed : (here : Setting) (s : Feeding) (c : List ℕ) → is_some s.closed ≡ false → is_over s ≡ false → frame_at s.begun ≡ open_frame → length c < bytes_missing s.begun → fed here s c ≡ record s { begun = s.begun ++ c }
unfolding fed
front_is_fed here s [] going on told lt = ap (λ (t : List ℕ). record s { begun = t }) (sym (append-nil s.begun))
front_is_fed here s (x ∷ c) going on told lt = chunk_is_fed here s (x ∷ c) going on told (omega arith) (omega (arith, lt)) ∙ ap (fed_at here s (s.begun ++ x ∷ c)) (front_is_open s.begun (x ∷ c) told lt)

-- the chunk whose last byte makes a whole frame takes that frame
pub frame_is_fed : (here : Setting) (t : Tally) (begun c : List ℕ) (J : List Record) (f : Frame) → is_over (at_work (stream_by t begun false) J) ≡ false → frame_at begun ≡ open_frame → 0 < length c → length c ≤ bytes_missing begun
    → frame_at (begun ++ c) ≡ whole_frame f → fed here (at_work (stream_by t begun false) J) c ≡ fed_frame here (length (begun ++ c)) f (at_work (stream_by t [] false) J)
frame_is_fed here t begun c J f on told some le at =
    chunk_is_fed here (at_work (stream_by t begun false) J) c refl on told some le
    ∙ ap (fed_at here (at_work (stream_by t begun false) J) (begun ++ c)) at
    ∙ frame_alike here (length (begun ++ c)) f (at_work (stream_by t [] false) J) begun

-- what becomes of the chunk whose last byte makes a whole frame
pub chunk_is_taken : (here : Setting) (t after : Tally) (begun c : List ℕ) (J then : List Record) (f : Frame) (r : Result (Unit {0}) FeedError)
    → is_over (at_work (stream_by t begun false) J) ≡ false → frame_at begun ≡ open_frame → 0 < length c → length c ≤ bytes_missing begun
    → frame_at (begun ++ c) ≡ whole_frame f → TakesFrame here (length (begun ++ c)) f t J r after then
    → Feeds here (at_work (stream_by t begun false) J) c r (stream_after r after []) then
chunk_is_taken here t after begun c J then f (Ok done) on told some le at k =
    let is = frame_is_fed here t begun c J f on told some le at ∙ sym k in
    (ap (λ (r : Feeding). r.closed) is, record { stream = sym (ap (λ (r : Feeding). stream_of r) is); journal = sym (ap (λ (r : Feeding). r.journal) is) })
chunk_is_taken here t after begun c J then f (Err error.Memory) on told some le at k = chunk_is_dropped here t after begun c J then k.0 k.1
chunk_is_taken here t after begun c J then f (Err error.Disk) on told some le at k =
    let l = split_last c some in
    let s = at_work (stream_by t begun false) J in
    let shorter : length l.front < bytes_missing begun = omega (arith, le, ap length l.parts, length-append l.front (l.byte ∷ [])) in
    let is : fed here s l.front ≡ record s { begun = begun ++ l.front } = front_is_fed here s l.front refl on told shorter in
    let moved : (P : Feeding → Type 0) → P (record s { begun = begun ++ l.front }) → P (fed here s l.front) = λ P p. subst P (sym is) p in
    record {
      front = l.front;
      byte = l.byte;
      rest = [];
      parts = l.parts;
      going = moved (λ u. u.closed ≡ None) refl;
      may_come = moved (λ u. is_over u ≡ false) on;
      frame = f;
      whole = moved (λ u. frame_at (u.begun ++ l.byte ∷ []) ≡ whole_frame f) (ap frame_at (append_assoc begun l.front (l.byte ∷ []) ∙ ap (λ (x : List ℕ). begun ++ x) (sym l.parts)) ∙ at);
      answer = k.1.answer;
      new = k.1.new;
      outcome = moved (λ u. take_frame here u.journal f ≡ answered k.1.answer k.1.new) k.1.is;
      cut = moved (λ u. IsCutShort u.journal k.1.new then) k.1.cut;
      stream = k.0 ∙ ap (λ (u : Feeding). shut (stream_of u)) (sym is);
    }
chunk_is_taken here t after begun c J then f (Err error.Stopped) on told some le at k = (k.0, k.1)
chunk_is_taken here t after begun c J then f (Err (error.Full what)) on told some le at k =
    let is = frame_is_fed here t begun c J f on told some le at ∙ k.1.1 in
    (ap (λ (r : Feeding). r.closed) is, record { stream = k.0 ∙ sym (ap (λ (r : Feeding). stream_of r) is); journal = k.1.0 ∙ sym (ap (λ (r : Feeding). r.journal) is) })
chunk_is_taken here t after begun c J then f (Err (error.IllFormed at)) on told some le at' k = absurd k

-- ---- chunk by chunk

-- some of the bytes were fed, and made this of the feed; these are still to come
pub record IsUnderWay (here : Setting) (s : Feeding) (bytes rest : List ℕ) (now : Feeding) : Type 0 where
  pub done : List ℕ
  pub parts : bytes ≡ done ++ rest
  pub is : fed here s done ≡ now

pub under_way_first : (here : Setting) (s : Feeding) (bytes : List ℕ) → IsUnderWay here s bytes bytes s
unfolding fed
under_way_first here s bytes = record { done = []; parts = refl; is = refl }

-- a feed that is at work is what is kept of it, and the journal
pub at_work_again : (x : Feeding) (S : Stream) (J : List Record) → x.closed ≡ None → AreOf x S J → x ≡ at_work S J
at_work_again x S J none a = ap (λ (o : Option Closing). record x { closed = o }) none ∙ sym (ap (at_work (stream_of x)) a.journal) ∙ ap (λ (T : Stream). at_work T J) (sym a.stream)

-- one chunk more
pub under_way_on : (here there : Setting) (s : Feeding) (bytes rest c behind : List ℕ) (now : Feeding) (t : Tally) (begun : List ℕ) (J : List Record)
    → there ≡ here → IsUnderWay here s bytes rest now → rest ≡ c ++ behind → Feeds there now c (Ok tt) (stream_by t begun false) J
    → IsUnderWay here s bytes behind (at_work (stream_by t begun false) J)
under_way_on here there s bytes rest c behind now t begun J stays u parts f = record {
  done = u.done ++ c;
  parts = u.parts ∙ ap (λ (x : List ℕ). u.done ++ x) parts ∙ sym (append_assoc u.done c behind);
  is = fed_in_pieces here s u.done c ∙ ap (λ (x : Feeding). fed here x c) u.is ∙ at_work_again (fed here now c) (stream_by t begun false) J (ap (λ (h : Setting). (fed h now c).closed) (sym stays) ∙ f.0) (subst (λ (h : Setting). AreOf (fed h now c) (stream_by t begun false) J) stays f.1);
}

-- an error in a chunk is one in the bytes
pub under_way_fails : (here there : Setting) (s : Feeding) (bytes rest c behind : List ℕ) (now : Feeding) (e : FeedError) (S : Stream) (J : List Record)
    → there ≡ here → IsUnderWay here s bytes rest now → rest ≡ c ++ behind → (IsErrOf {T = Unit {0}} (Err e) error.Stopped → ⊥) → Feeds there now c (Err e) S J
    → Feeds here s bytes (Err e) S J
under_way_fails here there s bytes rest c behind now e S J stays u parts runs f =
    let moved = subst (λ (h : Setting). Feeds h now c (Err e) S J) stays f in
    let more = feeds_more here now c behind e S J moved in
    let at = subst (λ (x : Feeding). Feeds here x (c ++ behind) (Err e) S J) (sym u.is) more in
    let all = feeds_behind here s u.done (c ++ behind) (Err e) S J runs at in
    subst (λ (x : List ℕ). Feeds here s x (Err e) S J) (sym (u.parts ∙ ap (λ (x : List ℕ). u.done ++ x) parts)) all

-- a piece after another one
pub pieces_join : (here : Setting) (s : Feeding) (a b : List ℕ) (r : Result (Unit {0}) FeedError) (S T : Stream) (J K : List Record)
    → Feeds here s a (Ok tt) S J → (IsErrOf r error.Stopped → ⊥) → Feeds here (at_work S J) b r T K → Feeds here s (a ++ b) r T K
pieces_join here s a b r S T J K first runs second =
    let is : fed here s a ≡ at_work S J = at_work_again (fed here s a) S J first.0 first.1 in
    feeds_behind here s a b r T K runs (subst (λ (x : Feeding). Feeds here x b r T K) (sym is) second)
