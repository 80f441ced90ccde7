-- The proofs and own vouchers that begin a bundle, by the places of their records, and the stream after them.
use Rattle.std.proofs.Common.{◌≡◌, ℕ, ◌+◌, ◌-◌, ◌<◌, ◌≤◌, ◌==◌, List, [], ◌∷◌, ◌++◌, length, map, take, drop, get_or, Bool, true, false, not, cond, ◌||◌, Option, Some, refl, sym, ap, subst, ◌∙◌, arith, add-one, length-append, append_assoc}
use Rattle.std.specs.Prelude.{option_to_list, slice_get}
use Rattle.std.specs.List.{AllByRecursion, filter, flat_map, list_any}
use Rattle.std.proofs.Math.Seq.{take-suc}
use Rattle.std.proofs.lemmas.List.{append-nil, length-map, map-append, take_all}
use Rattle.std.proofs.lemmas.Grind.{flat_map-append}
use Rattle.std.proofs.lemmas.Option.{slice_get-get_or}
use Rattle.depot_base.specs.Cursor.{numeral}
use Rattle.depot_base.specs.Format.{number}
use Rattle.depot_base.specs.declared.voucher.Voucher.{Voucher}
use Rattle.depot_base.specs.declared.proof.Proof.{Proof}
use Rattle.depot_base.specs.declared.record.Record.{Record}
use Rattle.depot_base.specs.declared.record.Record.TheVariants.{Birth, OwnPut, OwnVoucher, Foreign, Conviction, Held}
use Rattle.depot_base.proofs.GeneralLaws.{get_last}
use Rattle.depot_model.specs.declared.hello.Hello.{Hello}
use Rattle.depot_model.specs.lists.Lists.{is_among}
use Rattle.depot_model.specs.texts.Texts.{text_of_proof}
use Rattle.depot_model.specs.texts.Records.{tagged, record_text, text_of_record}
use Rattle.depot_model.specs.journals.Journal.{accused, proof_by}
use Rattle.depot_model.specs.checks.Vouching.{own_voucher_by}
use Rattle.depot_model.specs.texts.Frames.{Frame, text_of_frame}
use Rattle.depot_model.specs.exchange.Bundle.{Signs, proof_frame, proofs_for, proof_places, convicts_other, records_where, vouchers_for, voucher_places, vouches_for, end_frame, voucher_frame}
use Rattle.depot_model.proofs.lists.Elements.{each_at, get_front}
use Rattle.depot_gossip.specs.Choosing.{records_at}
use Rattle.depot_gossip.specs.declared.front.BundleFront.{BundleFront}
use Rattle.depot_gossip.specs.declared.front.FrontFrames.{FrontFrames}
use Rattle.depot_gossip.specs.Fronts.{AreFrames, IsFront}
use Rattle.depot_gossip.specs.declared.bundle_stream.Bundled.{Bundled}
use Rattle.depot_gossip.specs.BundleStreams.{IsStream, IsJoined}
use Rattle.depot_streams.specs.declared.sending.Sending.{Sending}

-- ---- the text of a conviction's record

proof_behind : (p : Proof) → text_of_record (Conviction p) ≡ 5 ∷ text_of_proof p
unfolding record_text tagged number numeral
proof_behind p = refl

-- the proof follows the tag
pub rest_is_proof : (p : Proof) (text : List ℕ) → text ≡ text_of_record (Conviction p) → take (length text - 1) (drop 1 text) ≡ text_of_proof p
rest_is_proof p text e = ap (λ (bytes : List ℕ). take (length bytes - 1) (drop 1 bytes)) (e ∙ proof_behind p) ∙ take_all (length (5 ∷ text_of_proof p) - 1) (text_of_proof p) (omega arith)

-- and the text isn't empty
pub some_text : (p : Proof) (text : List ℕ) → text ≡ text_of_record (Conviction p) → length text < 1 → ⊥
some_text p text e lt = omega (arith, ap length (e ∙ proof_behind p), lt)

-- ---- the records of some places

-- a record that passes the test is at this place
pub record PassesAt (test : Record → Bool) (J : List Record) (place : ℕ) : Type 0 where
  pub item : Record
  pub at : slice_get J place ≡ Some item
  pub passes : test item ≡ true

-- each of these places has a record that passes, and these are the records
pub record ArePassing (test : Record → Bool) (J : List Record) (places : List ℕ) (rs : List Record) : Type 0 where
  pub all : AllByRecursion (PassesAt test J) places
  pub records : records_at J places ≡ rs
  pub few : length places ≤ length rs

at_middle : (front : List Record) (r : Record) (rs : List Record) → slice_get (front ++ r ∷ rs) (length front) ≡ Some r
at_middle front r rs =
    ap (λ (xs : List Record). slice_get xs (length front)) (sym (append_assoc front (r ∷ []) rs))
    ∙ get_front (front ++ r ∷ []) rs (length front) (omega (arith, length-append front (r ∷ []))) ∙ get_last front r

passing_from : (test : Record → Bool) (J front rs : List Record) (n : ℕ) → J ≡ front ++ rs → n ≡ length front → ArePassing test J (records_where test n rs) (filter test rs)
unfolding records_where
passing_from test J front [] n is place = record { all = tt; records = refl; few = omega arith }
passing_from test J front (r ∷ rs) n is place =
    by_test (test r) refl (passing_from test J (front ++ r ∷ []) rs (n + 1) (is ∙ sym (append_assoc front (r ∷ []) rs)) (omega (arith, place, length-append front (r ∷ [])))) where
      at : slice_get J n ≡ Some r
      at = ap (λ (xs : List Record). slice_get xs n) is ∙ ap (slice_get (front ++ r ∷ rs)) place ∙ at_middle front r rs

      by_test : (b : Bool) → test r ≡ b → ArePassing test J (records_where test (n + 1) rs) (filter test rs) → ArePassing test J (cond b (n ∷ records_where test (n + 1) rs) (records_where test (n + 1) rs)) (cond b (r ∷ filter test rs) (filter test rs))
      by_test true e rest = record {
        all = (record { item = r; at = at; passes = e }, rest.all);
        records = ap (λ (o : Option Record). option_to_list o ++ records_at J (records_where test (n + 1) rs)) at ∙ ap (λ (qs : List Record). r ∷ qs) rest.records;
        few = omega (arith, rest.few);
      }
      by_test false e rest = rest

passing : (test : Record → Bool) (J : List Record) → ArePassing test J (records_where test 0 J) (filter test J)
passing test J = passing_from test J [] J 0 refl refl

filter_few : (test : Record → Bool) (J : List Record) → length (filter test J) ≤ length J
filter_few test [] = omega arith
filter_few test (r ∷ J) = by_test (test r) (filter_few test J) where
  by_test : (b : Bool) → length (filter test J) ≤ length J → length (cond b (r ∷ filter test J) (filter test J)) ≤ length (r ∷ J)
  by_test true rest = omega (arith, rest)
  by_test false rest = omega (arith, rest)

-- of records that give one item at most, those of which the item passes give the items that pass
filtered_give : {X : Type 0} (f : Record → List X) (test : X → Bool) → ((r : Record) → length (f r) ≤ 1) → (J : List Record) → flat_map f (filter (λ r. list_any test (f r)) J) ≡ filter test (flat_map f J)
filtered_give f test one [] = refl
filtered_give {X} f test one (r ∷ J) = by_items (f r) refl (one r) (filtered_give f test one J) where
  left : List Record
  left = filter (λ q. list_any test (f q)) J

  by_items : (xs : List X) → f r ≡ xs → length xs ≤ 1 → flat_map f left ≡ filter test (flat_map f J) → flat_map f (cond (list_any test xs) (r ∷ left) left) ≡ filter test (xs ++ flat_map f J)
  by_items [] is few rest = rest
  by_items (x ∷ []) is few rest = by_test (test x) where
    by_test : (b : Bool) → flat_map f (cond (b || false) (r ∷ left) left) ≡ cond b (x ∷ filter test (flat_map f J)) (filter test (flat_map f J))
    by_test true = ap (λ (ys : List X). ys ++ flat_map f left) is ∙ ap (λ (ys : List X). x ∷ ys) rest
    by_test false = rest
  by_items (x ∷ y ∷ xs) is few rest = absurd (omega (arith, few))

one_proof : (r : Record) → length (proof_by r) ≤ 1
one_proof (Birth node h) = omega arith
one_proof (OwnPut u values) = omega arith
one_proof (OwnVoucher v) = omega arith
one_proof (Foreign s) = omega arith
one_proof (Conviction p) = omega arith
one_proof (Held value) = omega arith

one_voucher : (r : Record) → length (own_voucher_by r) ≤ 1
one_voucher (Birth node h) = omega arith
one_voucher (OwnPut u values) = omega arith
one_voucher (OwnVoucher v) = omega arith
one_voucher (Foreign s) = omega arith
one_voucher (Conviction p) = omega arith
one_voucher (Held value) = omega arith

-- ---- proofs

-- the proofs of the first so many of some places
abbrev pub proofs_at : List Record → List ℕ → List Proof
proofs_at J places = flat_map proof_by (records_at J places)

pub all_proofs : (J : List Record) (h : Hello) → proofs_at J (proof_places J h.convicted) ≡ proofs_for J h
all_proofs J h = ap (flat_map proof_by) (passing (convicts_other h.convicted) J).records ∙ filtered_give proof_by (λ (p : Proof). not (list_any (λ n. n == accused p) h.convicted)) one_proof J

convicts_is : (listed : List ℕ) (r : Record) → convicts_other listed r ≡ true → (p : Proof) × (r ≡ Conviction p)
convicts_is listed (Conviction p) e = (p, refl)
convicts_is listed (Birth node h) e = absurd cc
convicts_is listed (OwnPut u values) e = absurd cc
convicts_is listed (OwnVoucher v) e = absurd cc
convicts_is listed (Foreign s) e = absurd cc
convicts_is listed (Held value) e = absurd cc

-- at each of these places is a conviction
pub proof_at : (J : List Record) (listed places : List ℕ) (i place : ℕ) → places ≡ proof_places J listed → i < length places → place ≡ get_or places i 0 → (p : Proof) × (slice_get J place ≡ Some (Conviction p))
proof_at J listed places i place are low is =
    let all = subst (λ (ns : List ℕ). AllByRecursion (PassesAt (convicts_other listed) J) ns) (sym are) (passing (convicts_other listed) J).all in
    let at = each_at (PassesAt (convicts_other listed) J) places i place all (slice_get-get_or places i 0 low ∙ ap (λ (n : ℕ). Some n) (sym is)) in
    let p = convicts_is listed at.item at.passes in
    (p.0, at.at ∙ ap (λ (r : Record). Some r) p.1)

-- there are no more of them than records
pub few_proofs : (J : List Record) (listed places : List ℕ) → places ≡ proof_places J listed → length places ≤ length J
few_proofs J listed places are = omega (arith, ap length are, (passing (convicts_other listed) J).few, filter_few (convicts_other listed) J)

records_next : (J : List Record) (places : List ℕ) (i place : ℕ) (r : Record) → i < length places → place ≡ get_or places i 0 → slice_get J place ≡ Some r → records_at J (take (i + 1) places) ≡ records_at J (take i places) ++ r ∷ []
records_next J places i place r low is at =
    let longer : take (i + 1) places ≡ take i places ++ place ∷ [] = rw add-one (take-suc places i 0 low ∙ ap (λ (n : ℕ). take i places ++ n ∷ []) (sym is)) in
    ap (records_at J) longer ∙ flat_map-append (λ (n : ℕ). option_to_list (slice_get J n)) (take i places) (place ∷ [])
    ∙ ap (λ (o : Option Record). records_at J (take i places) ++ (option_to_list o ++ [])) at

-- one more
pub proof_next : (J : List Record) (places : List ℕ) (i place : ℕ) (p : Proof) (made : FrontFrames) → i < length places → place ≡ get_or places i 0 → slice_get J place ≡ Some (Conviction p)
    → AreFrames (map proof_frame (proofs_at J (take i places)) ++ proof_frame p ∷ []) made → AreFrames (map proof_frame (proofs_at J (take (i + 1) places))) made
proof_next J places i place p made low is at frames =
    let more : proofs_at J (take (i + 1) places) ≡ proofs_at J (take i places) ++ p ∷ [] = ap (flat_map proof_by) (records_next J places i place (Conviction p) low is at) ∙ flat_map-append proof_by (records_at J (take i places)) (Conviction p ∷ []) in
    subst (λ (fs : List Frame). AreFrames fs made) (sym (ap (map proof_frame) more ∙ map-append proof_frame (proofs_at J (take i places)) (p ∷ []))) frames

-- ---- own vouchers

abbrev pub vouchers_at : List Record → List ℕ → List Voucher
vouchers_at J places = flat_map own_voucher_by (records_at J places)

pub all_vouchers : (J : List Record) (ids : List (List ℕ)) → vouchers_at J (voucher_places J ids) ≡ vouchers_for J ids
all_vouchers J ids = ap (flat_map own_voucher_by) (passing (vouches_for ids) J).records ∙ filtered_give own_voucher_by (λ (v : Voucher). list_any (λ i. is_among i ids) v.ids) one_voucher J

vouches_is : (ids : List (List ℕ)) (r : Record) → vouches_for ids r ≡ true → (v : Voucher) × (r ≡ OwnVoucher v)
vouches_is ids (OwnVoucher v) e = (v, refl)
vouches_is ids (Birth node h) e = absurd cc
vouches_is ids (OwnPut u values) e = absurd cc
vouches_is ids (Foreign s) e = absurd cc
vouches_is ids (Conviction p) e = absurd cc
vouches_is ids (Held value) e = absurd cc

-- at each of these places is an own voucher
pub voucher_at : (J : List Record) (ids : List (List ℕ)) (places : List ℕ) (i place : ℕ) → places ≡ voucher_places J ids → i < length places → place ≡ get_or places i 0 → (v : Voucher) × (slice_get J place ≡ Some (OwnVoucher v))
voucher_at J ids places i place are low is =
    let all = subst (λ (ns : List ℕ). AllByRecursion (PassesAt (vouches_for ids) J) ns) (sym are) (passing (vouches_for ids) J).all in
    let at = each_at (PassesAt (vouches_for ids) J) places i place all (slice_get-get_or places i 0 low ∙ ap (λ (n : ℕ). Some n) (sym is)) in
    let v = vouches_is ids at.item at.passes in
    (v.0, at.at ∙ ap (λ (r : Record). Some r) v.1)

pub few_vouchers : (J : List Record) (ids : List (List ℕ)) (places : List ℕ) → places ≡ voucher_places J ids → length places ≤ length J
few_vouchers J ids places are = omega (arith, ap length are, (passing (vouches_for ids) J).few, filter_few (vouches_for ids) J)

-- one more
pub voucher_next : (sign : Signs) (J : List Record) (places : List ℕ) (i place : ℕ) (v : Voucher) (made : FrontFrames) → i < length places → place ≡ get_or places i 0 → slice_get J place ≡ Some (OwnVoucher v)
    → AreFrames (map (voucher_frame sign) (vouchers_at J (take i places)) ++ voucher_frame sign v ∷ []) made → AreFrames (map (voucher_frame sign) (vouchers_at J (take (i + 1) places))) made
voucher_next sign J places i place v made low is at frames =
    let more : vouchers_at J (take (i + 1) places) ≡ vouchers_at J (take i places) ++ v ∷ [] =
    ap (flat_map own_voucher_by) (records_next J places i place (OwnVoucher v) low is at) ∙ flat_map-append own_voucher_by (records_at J (take i places)) (OwnVoucher v ∷ []) in
    subst (λ (fs : List Frame). AreFrames fs made) (sym (ap (map (voucher_frame sign)) more ∙ map-append (voucher_frame sign) (vouchers_at J (take i places)) (v ∷ []))) frames

-- ---- frames

-- one more frame
pub frame_added : (fs : List Frame) (f : Frame) (old new : FrontFrames) → new.bytes ≡ old.bytes ++ text_of_frame f → new.count ≡ old.count + 1 → AreFrames fs old → AreFrames (fs ++ f ∷ []) new
frame_added fs f old new bytes count are = record {
  bytes = bytes ∙ ap (λ (text : List ℕ). text ++ text_of_frame f) are.bytes ∙ sym (flat_map-append text_of_frame fs (f ∷ []) ∙ ap (λ (text : List ℕ). flat_map text_of_frame fs ++ text) (append-nil (text_of_frame f)));
  count = omega (arith, count, are.count, length-append fs (f ∷ []));
}

-- ---- the stream

-- the leading frames and what is sent make up the stream
pub joined_is_stream : (sign : Signs) (K : List Record) (h : Hello) (s : Sending) (f : BundleFront) (b : Bundled) → IsFront sign K h s.ids f → IsJoined f s b → IsStream sign K h s b
joined_is_stream sign K h s f b front joined =
    let rest = s.frames ++ text_of_frame (end_frame s.more) in
    record {
      bytes = joined.bytes ∙ ap (λ (p : List ℕ). p ++ (f.vouchers.bytes ++ rest)) front.proofs.bytes ∙ ap (λ (v : List ℕ). flat_map text_of_frame (map proof_frame (proofs_for K h)) ++ (v ++ rest)) front.vouchers.bytes;
      proofs = joined.proofs ∙ front.proofs.count ∙ length-map (proofs_for K h) proof_frame;
      vouchers = joined.vouchers ∙ front.vouchers.count ∙ length-map (vouchers_for K s.ids) (voucher_frame sign);
      updates = joined.updates;
      values = joined.values;
      more = joined.more;
    }
