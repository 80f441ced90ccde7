-- A feed of bytes keeps the records of a journal, puts others after them, and all of them are made of bytes.
use Rattle.std.proofs.Common.{◌≡◌, ℕ, ◌+◌, ◌<◌, ◌==◌, Bool, true, false, not, ◌||◌, ltb, cond, is_some, List, [], ◌∷◌, ◌++◌, take, drop, length, Option, Some, None, Result, Ok, Err, refl, sym, ap, subst, ◌∙◌, append_assoc}
use Rattle.std.specs.Int.{w32, from_be_bytes}
use Rattle.std.proofs.lemmas.List.{append-nil}
use Rattle.depot_base.specs.Format.{Format, ◌>>=◌, whole}
use Rattle.depot_base.specs.Closed.{rest_of}
use Rattle.depot_base.specs.declared.check.Full.{Full}
use Rattle.depot_base.specs.declared.record.Record.{Record}
use Rattle.depot_base.proofs.Combined.{whole_takes}
use Rattle.depot_base.proofs.FormatLaws.{Lawful, bind_ok, ok_is}
use Rattle.depot_model.specs.checks.Checks.{Setting, Given, given_statement, given_proof, given_value, answer_to, growth}
use Rattle.depot_model.specs.exchange.Feeding.{given_by, take_frame, Feeding, feeding_from, feed_of, ill_formed, closed_by, passed, after_outcome, says_more, fed_frame, fed_at, is_over, fed_byte, fed, form_of}
use Rattle.depot_model.specs.texts.Frames.{Frame, FrameAt, whole_frame, open_frame, no_frame, is_tag, goes_astray, frame_at}
use Rattle.depot_model.specs.checks.Room.{full_by}
use Rattle.depot_model.specs.checks.Taking.{at_start, outcome_within, outcome_of, Form, as_statement, as_proof, as_value, given_as}
use Rattle.depot_model.specs.texts.Texts.{signed, proof}
use Rattle.depot_model.proofs.of_journals.FeedGrowth.{IsGrown, grown_none}
use Rattle.depot_model.proofs.of_texts.TextLaws.{signed_lawful, proof_lawful}
use Rattle.depot_laws.proofs.exchanges.Feeds.{frame_leaves_none}
use Rattle.depot_base.proofs.GeneralLaws.{all_both}
use Rattle.depot_laws.proofs.exchanges.LawfulFeeds.{counted_journal}
use Rattle.depot_world.proofs.of_bytes.OnlyBytes.{OnlyBytes, by_places, only_both, only_take, only_drop}
use Rattle.depot_world.proofs.of_bytes.ByteJournals.{HoldsBytes, AllHold, GivesBytes, growth_holds}

-- ---- what a payload gives

text_is_read : {V : Type 0} (f : Format V) (m : ℕ) → Lawful f m → (give : V → Given) (payload : List ℕ) → OnlyBytes payload → ((v : V) → OnlyBytes (f.text v) → GivesBytes (give v)) → (x : Given) → (whole f (at_start payload) >>= λ v. Ok (give v)) ≡ Ok x → GivesBytes x
text_is_read f m l give payload only told x e =
    let b = bind_ok (whole f (at_start payload)) (λ v. Ok (give v)) x e in
    let t = whole_takes f m l (at_start payload) b.0 (by_places payload only) b.1 in
    subst GivesBytes (ok_is (give b.0) x b.2) (told b.0 (subst OnlyBytes t.1 only))

value_is_read : (payload : List ℕ) (x : Given) → OnlyBytes payload → ((rest_of 65536).read (at_start payload) >>= λ v. Ok (given_value v)) ≡ Ok x → GivesBytes x
unfolding rest_of
value_is_read payload x only = by_length (ltb 65536 (length payload)) where
  by_length : (b : Bool) → (cond b (Err (0 + 65536)) (Ok payload) >>= λ v. Ok (given_value v)) ≡ Ok x → GivesBytes x
  by_length true e = absurd cc
  by_length false e = subst GivesBytes (ok_is (given_value payload) x e) only

form_gives_bytes : (form : Form) (payload : List ℕ) (x : Given) → OnlyBytes payload → given_as form payload ≡ Ok x → GivesBytes x
unfolding given_as
form_gives_bytes as_statement payload x only e = text_is_read signed _ signed_lawful (λ s. given_statement s) payload only (λ s holds. holds) x e
form_gives_bytes as_proof payload x only e = text_is_read proof _ proof_lawful (λ p. given_proof p) payload only (λ p holds. holds) x e
form_gives_bytes as_value payload x only e = value_is_read payload x only e

frame_gives_bytes : (f : Frame) (x : Given) → OnlyBytes f.payload → given_by f ≡ Ok x → GivesBytes x
unfolding given_by
frame_gives_bytes f x only e = form_gives_bytes (form_of f.tag) f.payload x only e

-- ---- journals that grew

-- the journal has grown from the first one, and its records are made of bytes
pub record HasGrown (J K : List Record) : Type 0 where
  pub grown : IsGrown J K
  pub holds : AllHold K

grow : (J K new : List Record) → HasGrown J K → AllHold new → HasGrown J (K ++ new)
grow J K new g holds = record {
  grown = record { more = g.grown.more ++ new; is = ap (λ (x : List Record). x ++ new) g.grown.is ∙ append_assoc J g.grown.more new };
  holds = all_both HoldsBytes K new g.holds holds;
}

-- ---- frames

given_grows : (here : Setting) (J : List Record) (n : ℕ) (s : Feeding) (r : Result Given ℕ) → ((x : Given) → r ≡ Ok x → GivesBytes x) → HasGrown J s.journal → HasGrown J (after_outcome n s (outcome_of here s.journal r)).journal
given_grows here J n s (Err at) gives g = subst (λ (K : List Record). HasGrown J K) (sym (append-nil s.journal)) g
given_grows here J n s (Ok x) gives g = by_room (full_by here.me s.journal (growth here s.journal x)) where
  by_room : (o : Option Full) → HasGrown J (after_outcome n s (outcome_within o (answer_to here s.journal x) (growth here s.journal x))).journal
  by_room None = subst (λ (K : List Record). HasGrown J K) (sym (counted_journal n (answer_to here s.journal x) (growth here s.journal x) s))
      (grow J s.journal (growth here s.journal x) g (growth_holds here s.journal x g.holds (gives x refl)))
  by_room (Some what) = g

frame_grows : (here : Setting) (J : List Record) (n : ℕ) (f : Frame) (s : Feeding) → OnlyBytes f.payload → HasGrown J s.journal → HasGrown J (fed_frame here n f s).journal
unfolding fed_frame take_frame
frame_grows here J n f s only g = by_end (f.tag == 4) (given_grows here J n s (given_by f) (λ x e. frame_gives_bytes f x only e) g) where
  by_end : (b : Bool) → HasGrown J (after_outcome n s (outcome_of here s.journal (given_by f))).journal → HasGrown J (cond b (passed n (record s { ended = Some (says_more f.payload) })) (after_outcome n s (outcome_of here s.journal (given_by f)))).journal
  by_end true taken = g
  by_end false taken = taken

-- the payload of a frame that is there is bytes
PayloadHolds : FrameAt → Type 0
PayloadHolds (whole_frame f) = OnlyBytes f.payload
PayloadHolds open_frame = Unit {0}
PayloadHolds no_frame = Unit {0}

payload_holds : (bytes : List ℕ) → OnlyBytes bytes → PayloadHolds (frame_at bytes)
unfolding frame_at PayloadHolds
payload_holds [] only = tt
payload_holds (tag ∷ bytes) only =
    by_tests (not (is_tag tag) || goes_astray tag (take 4 bytes) (drop 4 bytes)) (ltb (length bytes) 4) (ltb (length (drop 4 bytes)) (from_be_bytes w32 (take 4 bytes)))
    (only_take (from_be_bytes w32 (take 4 bytes)) (drop 4 bytes) (only_drop 4 bytes only.1)) where
      by_tests : (none short open_ : Bool) → OnlyBytes (take (from_be_bytes w32 (take 4 bytes)) (drop 4 bytes)) → PayloadHolds (cond none no_frame (cond short open_frame (cond open_ open_frame (whole_frame (record { tag = tag; payload = take (from_be_bytes w32 (take 4 bytes)) (drop 4 bytes) })))))
      by_tests true short open_ payload = tt
      by_tests false true open_ payload = tt
      by_tests false false true payload = tt
      by_tests false false false payload = payload

-- ---- feeds

record HasFed (J : List Record) (s : Feeding) : Type 0 where
  pub journal : HasGrown J s.journal
  pub begun : OnlyBytes s.begun

at_grows : (here : Setting) (J : List Record) (s : Feeding) (bytes : List ℕ) (at : FrameAt) → OnlyBytes bytes → PayloadHolds at → HasFed J s → HasFed J (fed_at here s bytes at)
unfolding PayloadHolds
at_grows here J s bytes open_frame only payload h = record { journal = h.journal; begun = only }
at_grows here J s bytes no_frame only payload h = record { journal = h.journal; begun = tt }
at_grows here J s bytes (whole_frame f) only payload h =
    record { journal = frame_grows here J (length bytes) f s payload h.journal; begun = subst OnlyBytes (sym (frame_leaves_none here (length bytes) f s)) tt }

byte_grows : (here : Setting) (J : List Record) (s : Feeding) (b : ℕ) → b < 256 → HasFed J s → HasFed J (fed_byte here s b)
unfolding fed_byte
byte_grows here J s b small h =
    let only = only_both s.begun (b ∷ []) h.begun (small, tt) in
    by_tests (is_some s.closed) (is_over s) (at_grows here J s (s.begun ++ b ∷ []) (frame_at (s.begun ++ b ∷ [])) only (payload_holds (s.begun ++ b ∷ []) only) h) where
      by_tests : (closed over : Bool) → HasFed J (fed_at here s (s.begun ++ b ∷ []) (frame_at (s.begun ++ b ∷ []))) → HasFed J (cond closed s (cond over (closed_by (ill_formed s.start) s) (fed_at here s (s.begun ++ b ∷ []) (frame_at (s.begun ++ b ∷ [])))))
      by_tests true over taken = h
      by_tests false true taken = record { journal = h.journal; begun = tt }
      by_tests false false taken = taken

feeds : (here : Setting) (J : List Record) (s : Feeding) (bytes : List ℕ) → OnlyBytes bytes → HasFed J s → HasFed J (fed here s bytes)
unfolding fed
feeds here J s [] only h = h
feeds here J s (b ∷ bytes) only h = feeds here J (fed_byte here s b) bytes only.1 (byte_grows here J s b only.0 h)

-- what a stream of bytes leaves
pub feed_grows : (here : Setting) (J : List Record) (stream : List ℕ) → OnlyBytes stream → AllHold J → HasGrown J (feed_of here J stream).journal
feed_grows here J stream only hold = (feeds here J (feeding_from J) stream only (record { journal = record { grown = grown_none J; holds = hold }; begun = tt })).journal
