-- Whatever bytes a feed is given, the journal stays lawful.
use Rattle.std.proofs.Common.{◌≡◌, ℕ, zero, suc, ◌<◌, ◌==◌, List, [], ◌∷◌, ◌++◌, length, take, drop, Bool, true, false, not, ◌||◌, ltb, cond, is_some, Option, Some, None, Result, Ok, Err, refl, sym, subst, arith}
use Rattle.std.specs.Int.{w32, from_be_bytes}
use Rattle.std.proofs.lemmas.List.{append-nil}
use Rattle.depot_base.specs.Format.{◌>>=◌}
use Rattle.depot_base.specs.Closed.{Closed, closing, rest_of}
use Rattle.depot_base.specs.Sized.{IsValue}
use Rattle.depot_base.specs.declared.record.Record.{Record}
use Rattle.depot_base.specs.declared.check.Check.{Check}
use Rattle.depot_base.specs.declared.check.Full.{Full}
use Rattle.depot_base.proofs.FormatLaws.{IsBytes, IsBytes-drop, IsBytes-take, bind_ok, ok_is}
use Rattle.depot_base.proofs.ClosedLaws.{LawfulClosed, closing_lawful, rest_lawful}
use Rattle.depot_model.specs.declared.taken.Taken.{Taken}
use Rattle.depot_model.specs.declared.taken.Taken.TheVariants.{New, Known}
use Rattle.depot_model.specs.texts.Texts.{signed, proof}
use Rattle.depot_model.specs.checks.Checks.{Setting, Given, given_statement, given_proof, given_value, answer_to, growth}
use Rattle.depot_model.specs.checks.Room.{full_by}
use Rattle.depot_model.specs.journals.Lawful.{IsLawful, is_empty}
use Rattle.depot_model.specs.texts.Frames.{Frame, FrameAt, whole_frame, open_frame, no_frame, is_tag, goes_astray, frame_at}
use Rattle.depot_model.specs.exchange.Feeding.{given_by, take_frame, Feeding, ill_formed, closed_by, passed, counted, after_outcome, says_more, fed_frame, fed_at, is_over, fed_byte, fed, form_of}
use Rattle.depot_model.specs.checks.Taking.{at_start, outcome_within, outcome_of, Form, as_statement, as_proof, as_value, given_as}
use Rattle.depot_model.proofs.of_texts.TextLaws.{signed_lawful, proof_lawful}
use Rattle.depot_laws.specs.Given.{HasText}
use Rattle.depot_laws.specs.Streams.{AreBytes, IsInOrder}
use Rattle.depot_laws.proofs.records.Growing.{grown_is_lawful, still_some}
use Rattle.depot_laws.proofs.exchanges.Feeds.{frame_leaves_none}

-- ---- what a payload gives has a text

read_fits : {V : Type 0} (f : Closed V) (m : ℕ) → LawfulClosed f m → (give : V → Given) (payload : List ℕ) → IsBytes payload → ((v : V) → f.fits v → HasText (give v)) → (x : Given) → (f.read (at_start payload) >>= λ v. Ok (give v)) ≡ Ok x → HasText x
read_fits f m l give payload bytes told x e =
    let b = bind_ok (f.read (at_start payload)) (λ v. Ok (give v)) x e in
    let t = l.takes (at_start payload) b.0 bytes b.1 in
    subst HasText (ok_is (give b.0) x b.2) (told b.0 t.0)

value_fits_text : (v : List ℕ) → (rest_of 65536).fits v → IsValue v
unfolding rest_of
value_fits_text v fits = fits

form_has_text : (form : Form) (payload : List ℕ) (x : Given) → IsBytes payload → given_as form payload ≡ Ok x → HasText x
unfolding given_as
form_has_text as_proof payload x bytes e = read_fits (closing proof) _ (closing_lawful proof _ proof_lawful) (λ p. given_proof p) payload bytes (λ p fits. fits) x e
form_has_text as_statement payload x bytes e = read_fits (closing signed) _ (closing_lawful signed _ signed_lawful) (λ s. given_statement s) payload bytes (λ s fits. fits) x e
form_has_text as_value payload x bytes e = read_fits (rest_of 65536) _ (rest_lawful 65536) (λ v. given_value v) payload bytes (λ v fits. value_fits_text v fits) x e

-- what a frame gives has a text
pub given_has_text : (f : Frame) (x : Given) → IsBytes f.payload → given_by f ≡ Ok x → HasText x
unfolding given_by
given_has_text f x bytes e = form_has_text (form_of f.tag) f.payload x bytes e

-- ---- the journal

-- a lawful journal that has begun
record IsGood (here : Setting) (J : List Record) : Type 0 where
  pub lawful : IsLawful here J
  pub some : is_empty J ≡ false

pub counted_journal : (n : ℕ) (answer : Result Taken Check) (new : List Record) (s : Feeding) → (passed n (counted answer new s)).journal ≡ s.journal ++ new
counted_journal n (Ok New) new s = refl
counted_journal n (Ok Known) new s = refl
counted_journal n (Err c) new s = refl

given_keeps : (here : Setting) (n : ℕ) (s : Feeding) (r : Result Given ℕ) → ((x : Given) → r ≡ Ok x → HasText x) → IsGood here s.journal → IsGood here (after_outcome n s (outcome_of here s.journal r)).journal
given_keeps here n s (Err at) fits g = subst (λ (J : List Record). IsGood here J) (sym (append-nil s.journal)) g
given_keeps here n s (Ok x) fits g = by_room (full_by here.me s.journal (growth here s.journal x)) refl where
  by_room : (o : Option Full) → full_by here.me s.journal (growth here s.journal x) ≡ o → IsGood here (after_outcome n s (outcome_within o (answer_to here s.journal x) (growth here s.journal x))).journal
  by_room None room = subst (λ (J : List Record). IsGood here J) (sym (counted_journal n (answer_to here s.journal x) (growth here s.journal x) s)) (record {
    lawful = grown_is_lawful here s.journal x g.lawful g.some (fits x refl) room;
    some = still_some s.journal (growth here s.journal x) g.some;
  })
  by_room (Some what) full = g

frame_keeps : (here : Setting) (n : ℕ) (f : Frame) (s : Feeding) → IsBytes f.payload → IsGood here s.journal → IsGood here (fed_frame here n f s).journal
unfolding fed_frame take_frame
frame_keeps here n f s bytes g = by_end (f.tag == 4) (given_keeps here n s (given_by f) (λ x e. given_has_text f x bytes e) g) where
  by_end : (b : Bool) → IsGood here (after_outcome n s (outcome_of here s.journal (given_by f))).journal → IsGood here (cond b (passed n (record s { ended = Some (says_more f.payload) })) (after_outcome n s (outcome_of here s.journal (given_by f)))).journal
  by_end true taken = g
  by_end false taken = taken

-- ---- the bytes that are open

no_bytes : IsBytes []
no_bytes i = omega arith

-- the payload of a frame that is there is bytes, where all that is there is
PayloadIsBytes : FrameAt → Type 0
PayloadIsBytes (whole_frame f) = IsBytes f.payload
PayloadIsBytes open_frame = Unit {0}
PayloadIsBytes no_frame = Unit {0}

payload_bytes : (bytes : List ℕ) → IsBytes bytes → PayloadIsBytes (frame_at bytes)
unfolding frame_at PayloadIsBytes
payload_bytes [] are = tt
payload_bytes (tag ∷ bytes) are =
    let rest : IsBytes (drop 4 bytes) = IsBytes-drop 4 bytes (λ i. are (suc i)) in
    by_tests (not (is_tag tag) || goes_astray tag (take 4 bytes) (drop 4 bytes)) (ltb (length bytes) 4) (ltb (length (drop 4 bytes)) (from_be_bytes w32 (take 4 bytes))) (IsBytes-take (from_be_bytes w32 (take 4 bytes)) (drop 4 bytes) rest) where
      by_tests : (none short open_ : Bool) → IsBytes (take (from_be_bytes w32 (take 4 bytes)) (drop 4 bytes)) → PayloadIsBytes (cond none no_frame (cond short open_frame (cond open_ open_frame (whole_frame (record { tag = tag; payload = take (from_be_bytes w32 (take 4 bytes)) (drop 4 bytes) })))))
      by_tests true short open_ payload = tt
      by_tests false true open_ payload = tt
      by_tests false false true payload = tt
      by_tests false false false payload = payload

-- ---- the feed

at_keeps : (here : Setting) (s : Feeding) (bytes : List ℕ) (at : FrameAt) → IsBytes bytes → PayloadIsBytes at → IsInOrder here s → IsInOrder here (fed_at here s bytes at)
unfolding PayloadIsBytes
at_keeps here s bytes open_frame are payload o = record { lawful = o.lawful; some = o.some; bytes = are }
at_keeps here s bytes no_frame are payload o = record { lawful = o.lawful; some = o.some; bytes = no_bytes }
at_keeps here s bytes (whole_frame f) are payload o =
    let g = frame_keeps here (length bytes) f s payload (record { lawful = o.lawful; some = o.some }) in
    record { lawful = g.lawful; some = g.some; bytes = subst IsBytes (sym (frame_leaves_none here (length bytes) f s)) no_bytes }

bytes_push : (bytes : List ℕ) (b : ℕ) → IsBytes bytes → b < 256 → IsBytes (bytes ++ b ∷ [])
bytes_push [] b are small zero = small
bytes_push [] b are small (suc i) = omega arith
bytes_push (x ∷ bytes) b are small zero = are 0
bytes_push (x ∷ bytes) b are small (suc i) = bytes_push bytes b (λ j. are (suc j)) small i

byte_keeps : (here : Setting) (s : Feeding) (b : ℕ) → b < 256 → IsInOrder here s → IsInOrder here (fed_byte here s b)
unfolding fed_byte
byte_keeps here s b small o =
    let are = bytes_push s.begun b o.bytes small in
    by_tests (is_some s.closed) (is_over s) (at_keeps here s (s.begun ++ b ∷ []) (frame_at (s.begun ++ b ∷ [])) are (payload_bytes (s.begun ++ b ∷ []) are) o) where
      by_tests : (closed over : Bool) → IsInOrder here (fed_at here s (s.begun ++ b ∷ []) (frame_at (s.begun ++ b ∷ []))) → IsInOrder here (cond closed s (cond over (closed_by (ill_formed s.start) s) (fed_at here s (s.begun ++ b ∷ []) (frame_at (s.begun ++ b ∷ [])))))
      by_tests true over taken = o
      by_tests false true taken = record { lawful = o.lawful; some = o.some; bytes = no_bytes }
      by_tests false false taken = taken

-- whatever bytes are fed
pub feed_keeps : (here : Setting) (s : Feeding) (bytes : List ℕ) → AreBytes bytes → IsInOrder here s → IsInOrder here (fed here s bytes)
unfolding fed
feed_keeps here s [] are o = o
feed_keeps here s (b ∷ bytes) are o = feed_keeps here (fed_byte here s b) bytes (λ i. are (suc i)) (byte_keeps here s b (are 0) o)
