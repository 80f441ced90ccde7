-- The candidates that are chosen one by one are those of a bundle.
use Rattle.std.proofs.Common.{◌≡◌, ℕ, ◌+◌, ◌<◌, ◌≤◌, List, [], ◌∷◌, ◌++◌, length, map, take, drop, get_or, Bool, true, false, not, cond, ◌||◌, eqb, Option, Some, None, refl, sym, ap, subst, ◌∙◌, inl, inr, arith, add-one, length-append, append_assoc}
use Rattle.std.specs.Prelude.{option_to_list, option_map, slice_get, Result, Ok, Err}
use Rattle.std.specs.List.{AllByRecursion, filter, flat_map, list_any}
use Rattle.std.proofs.Math.Seq.{take-suc}
use Rattle.std.proofs.Math.Bool.{or-false}
use Rattle.std.proofs.lemmas.List.{append-nil, take-append-drop}
use Rattle.std.proofs.lemmas.Option.{slice_get-get_or, slice_get-map}
use Rattle.std.proofs.lemmas.Grind.{flat_map-append}
use Rattle.sha2.specs.Sha256.{sha256}
use Rattle.depot_base.specs.declared.update.Update.{Update}
use Rattle.depot_base.specs.declared.statement.Statement.{Statement}
use Rattle.depot_base.specs.declared.statement.Statement.TheVariants as statement
use Rattle.depot_base.specs.declared.statement.Signed.{Signed}
use Rattle.depot_base.specs.declared.record.Record.{Record}
use Rattle.depot_base.specs.declared.record.Record.TheVariants.{Birth, OwnPut, OwnVoucher, Foreign, Conviction, Held}
use Rattle.depot_model.specs.declared.hello.Hello.{Hello}
use Rattle.depot_model.specs.lists.Lists.{IsIn, is_among, AreTogether}
use Rattle.depot_model.specs.texts.Texts.{IsSigned, text_of_signed, id_of_update}
use Rattle.depot_model.specs.texts.Records.{IsRecord, text_of_record}
use Rattle.depot_model.specs.journals.Journal.{accepted, accepted_at, accepted_by, own_by, update_in, held, value_with}
use Rattle.depot_model.specs.texts.Contents.{values_named}
use Rattle.depot_model.specs.checks.Checks.{Setting}
use Rattle.depot_model.specs.journals.Lawful.{IsLawful}
use Rattle.depot_model.specs.exchange.Bundle.{Signs, signed_with, signed_by, is_candidate, has_candidate, candidates, records_where, candidate_places, Parcel, values_behind, candidate_parcel, candidate_parcels, wanted_parcel, hashes_of, parcels, sent_foreign}
use Rattle.depot_model.proofs.lists.Elements.{get_front, in_at}
use Rattle.depot_model.proofs.lists.Members.{among-append, all_at}
use Rattle.depot_model.proofs.of_texts.TextLaws.{signed_is_short}
use Rattle.depot_laws.proofs.lists.Splits.{flat_gives, lawful_texts}
use Rattle.depot_laws.proofs.records.Causes.{none_or_one}
use Rattle.depot_laws.proofs.records.LawfulRecords.{IsSigned-from_record}
use Rattle.depot_laws.proofs.own_updates.OwnTexts.{own_statement_fits}
use Rattle.depot_laws.proofs.records.HeldValues.{held_is_brought, value_with_is}
use Rattle.depot_laws.proofs.records.WantedValues.{value_fits}
use Rattle.depot_laws.proofs.exchanges.Candidates.{signed_fits}
use Rattle.depot_base.proofs.GeneralLaws.{get_last, flat_push, or_swap, take_next}
use Rattle.depot_streams.specs.declared.sending.Sending.{Sending}
use Rattle.depot_gossip.specs.Choosing.{IsCutAt, HasUpdateAt, records_at, foreign_ids, Finds, AreAlike, AddsHashes, value_parcels}
use Rattle.depot_gossip.proofs.FitLaws.{cut_on}
use Rattle.depot_gossip.proofs.ValueLaws.{behind_alike}

-- ---- the places of the candidates

-- each of these places has a record that accepts an update, and these are the records
pub record ArePlacesOf (J : List Record) (places : List ℕ) (rs : List Record) : Type 0 where
  pub tell : AllByRecursion (HasUpdateAt J) places
  pub records : records_at J places ≡ rs

at_middle : (front : List Record) (r : Record) (rs : List Record) → slice_get (front ++ r ∷ rs) (length front) ≡ Some r
at_middle front r rs =
    ap (λ (xs : List Record). slice_get xs (length front)) (sym (append_assoc front (r ∷ []) rs))
    ∙ get_front (front ++ r ∷ []) rs (length front) (omega (arith, length-append front (r ∷ []))) ∙ get_last front r

are_places : (test : Record → Bool) → ((r : Record) → test r ≡ true → (u : Update) × (accepted_by r ≡ u ∷ [])) → (J front rs : List Record) (n : ℕ) → J ≡ front ++ rs → n ≡ length front → ArePlacesOf J (records_where test n rs) (filter test rs)
unfolding records_where
are_places test tells J front [] n is place = record { tell = tt; records = refl }
are_places test tells J front (r ∷ rs) n is place =
    by_test (test r) refl (are_places test tells J (front ++ r ∷ []) rs (n + 1) (is ∙ sym (append_assoc front (r ∷ []) rs)) (omega (arith, place, length-append front (r ∷ [])))) where
      at : slice_get J n ≡ Some r
      at = ap (λ (xs : List Record). slice_get xs n) is ∙ ap (slice_get (front ++ r ∷ rs)) place ∙ at_middle front r rs

      by_test : (b : Bool) → test r ≡ b → ArePlacesOf J (records_where test (n + 1) rs) (filter test rs) → ArePlacesOf J (cond b (n ∷ records_where test (n + 1) rs) (records_where test (n + 1) rs)) (cond b (r ∷ filter test rs) (filter test rs))
      by_test true e rest =
          let t = tells r e in
          record {
            tell = (record { item = r; update = t.0; at = at; accepts = t.1 }, rest.tell);
            records = ap (λ (o : Option Record). option_to_list o ++ records_at J (records_where test (n + 1) rs)) at ∙ ap (λ (qs : List Record). r ∷ qs) rest.records;
          }
      by_test false e rest = rest

candidate_tells : (J : List Record) (ids : List (List ℕ)) (reader : ℕ) (r : Record) → has_candidate J ids reader r ≡ true → (u : Update) × (accepted_by r ≡ u ∷ [])
candidate_tells J ids reader r e = elim (none_or_one r) [
  | inr one ↦ one
  | inl none ↦ absurd (let no : list_any (is_candidate (accepted J) ids reader) [] ≡ true = ap (list_any (is_candidate (accepted J) ids reader)) (sym none) ∙ e in cc)
]

-- the places of the candidates are those of their records
pub candidates_at : (J : List Record) (ids : List (List ℕ)) (reader : ℕ) → ArePlacesOf J (candidate_places J ids reader) (candidates J ids reader)
unfolding candidates
candidates_at J ids reader = are_places (has_candidate J ids reader) (candidate_tells J ids reader) J [] J 0 refl refl

-- ---- the record of a place

-- the record of a place has a text, and this is it
pub record IsReadAt (J : List Record) (r : Record) (text : List ℕ) : Type 0 where
  pub on : IsIn r J
  pub fits : IsRecord r
  pub is : text ≡ text_of_record r

pub read_at : (here : Setting) (J : List Record) (place : ℕ) (r : Record) (text : List ℕ) → IsLawful here J → slice_get J place ≡ Some r → slice_get (map text_of_record J) place ≡ Some text → IsReadAt J r text
read_at here J place r text l at e =
    let on = in_at J place r at in
    let same : Some (text_of_record r) ≡ Some text = sym (slice_get-map text_of_record J place ∙ ap (option_map text_of_record) at) ∙ e in
    record { on = on; fits = lawful_texts here J r l on; is = cc }

-- ---- a candidate's statement

-- a record that accepts an update is sent as one signed statement, which is the update
pub record IsTold (sign : Signs) (r : Record) (u : Update) : Type 0 where
  pub told : Signed
  pub tells : signed_by sign r ≡ told ∷ []
  pub is : update_in told.statement ≡ u ∷ []

pub told_by : (sign : Signs) (r : Record) (u : Update) → accepted_by r ≡ u ∷ [] → IsTold sign r u
unfolding signed_with
told_by sign (OwnPut w values) u e = record { told = signed_with sign (statement.Update w); tells = refl; is = e }
told_by sign (Foreign s) u e = record { told = s; tells = refl; is = e }
told_by sign (Birth node h) u e = absurd cc
told_by sign (OwnVoucher v) u e = absurd cc
told_by sign (Conviction p) u e = absurd cc
told_by sign (Held value) u e = absurd cc

own_signed : (here : Setting) (sign : Signs) (J : List Record) (s : Statement) → IsLawful here J → ((seq : ℕ) (body : List ℕ) → length (sign seq body) ≤ 8192) → IsIn s (flat_map own_by J) → IsSigned (signed_with sign s)
unfolding signed_with
own_signed here sign J s l short on = signed_fits sign s (own_statement_fits here J s l on) (short _ _)

-- the signed statement of a record is in its ranges
told_fits : (here : Setting) (sign : Signs) (J : List Record) (r : Record) (s : Signed) → IsLawful here J → ((seq : ℕ) (body : List ℕ) → length (sign seq body) ≤ 8192) → IsIn r J → signed_by sign r ≡ s ∷ [] → IsSigned s
told_fits here sign J (OwnPut u values) s l short on e =
    let same : signed_with sign (statement.Update u) ≡ s = cc in
    subst (λ (x : Signed). IsSigned x) same (own_signed here sign J (statement.Update u) l short (flat_gives own_by (statement.Update u) (OwnPut u values) J on (inl refl)))
told_fits here sign J (OwnVoucher v) s l short on e =
    let same : signed_with sign (statement.Voucher v) ≡ s = cc in
    subst (λ (x : Signed). IsSigned x) same (own_signed here sign J (statement.Voucher v) l short (flat_gives own_by (statement.Voucher v) (OwnVoucher v) J on (inl refl)))
told_fits here sign J (Foreign t) s l short on e =
    let same : t ≡ s = cc in
    subst (λ (x : Signed). IsSigned x) same (IsSigned-from_record t (lawful_texts here J (Foreign t) l on))
told_fits here sign J (Birth node h) s l short on e = absurd cc
told_fits here sign J (Conviction p) s l short on e = absurd cc
told_fits here sign J (Held value) s l short on e = absurd cc

-- so the text of the one signed statement of a record is short
pub told_is_short : (here : Setting) (sign : Signs) (J : List Record) (r : Record) (text : List ℕ) → IsLawful here J → ((seq : ℕ) (body : List ℕ) → length (sign seq body) ≤ 8192) → IsIn r J → map text_of_signed (signed_by sign r) ≡ text ∷ [] → length text ≤ 55979
told_is_short here sign J r text l short on e = by_told (signed_by sign r) refl e where
  by_told : (ss : List Signed) → signed_by sign r ≡ ss → map text_of_signed ss ≡ text ∷ [] → length text ≤ 55979
  by_told [] is one = absurd cc
  by_told (s ∷ []) is one =
      let same : text_of_signed s ≡ text = cc in
      subst (λ (t : List ℕ). length t ≤ 55979) same (signed_is_short s (told_fits here sign J r s l short on is))
  by_told (s ∷ t ∷ ss) is one = absurd cc

-- What is sent of a place: one signed statement, with this text, of the update that the record there accepts.
pub record IsToldAt (sign : Signs) (J : List Record) (place : ℕ) (text : List ℕ) : Type 0 where
  pub item : Record
  pub told : Signed
  pub at : slice_get J place ≡ Some item
  pub fits : IsSigned told
  pub is : text ≡ text_of_signed told
  pub tells : signed_by sign item ≡ told ∷ []
  pub accepts : accepted_by item ≡ update_in told.statement

pub told_at : (here : Setting) (sign : Signs) (J : List Record) (place : ℕ) (text : List ℕ) → IsLawful here J → ((seq : ℕ) (body : List ℕ) → length (sign seq body) ≤ 8192) → HasUpdateAt J place
    → ((r : Record) → slice_get J place ≡ Some r → map text_of_signed (signed_by sign r) ≡ text ∷ []) → IsToldAt sign J place text
told_at here sign J place text l short t texts =
    let told = told_by sign t.item t.update t.accepts in
    let one : text_of_signed told.told ∷ [] ≡ text ∷ [] = ap (map text_of_signed) (sym told.tells) ∙ texts t.item t.at in
    record {
      item = t.item;
      told = told.told;
      at = t.at;
      fits = told_fits here sign J t.item told.told l short (in_at J place t.item t.at) told.tells;
      is = cc;
      tells = told.tells;
      accepts = t.accepts ∙ sym told.is;
    }

-- the record of a place is the one that is reported of
pub is_item : (sign : Signs) (J : List Record) (place : ℕ) (text : List ℕ) (t : IsToldAt sign J place text) (r : Record) → slice_get J place ≡ Some r → t.item ≡ r
is_item sign J place text t r at = let both : Some t.item ≡ Some r = sym t.at ∙ at in cc

-- the update that the record of a place accepts
pub accepts_at : (J : List Record) (place : ℕ) (t : HasUpdateAt J place) → accepted_at J place ≡ t.update ∷ []
accepts_at J place t = ap (λ (o : Option Record). flat_map accepted_by (option_to_list o)) t.at ∙ append-nil (accepted_by t.item) ∙ t.accepts

-- and it is that of the statement sent for it
pub told_update : {sign : Signs} {text : List ℕ} (J : List Record) (place : ℕ) (t : HasUpdateAt J place) (told : IsToldAt sign J place text) (u : Update) → u ∷ [] ≡ accepted_at J place → update_in told.told.statement ≡ u ∷ []
told_update J place t told u one =
    let same : told.item ≡ t.item = let both : Some told.item ≡ Some t.item = sym told.at ∙ t.at in cc in
    sym told.accepts ∙ ap accepted_by same ∙ t.accepts ∙ sym (accepts_at J place t) ∙ sym one

-- the ids of the updates of others in what is sent for a record
pub foreign_are : (me : ℕ) (x : Parcel) (s : Signed) → x.told ≡ s ∷ [] → foreign_ids me (update_in s.statement) ≡ sent_foreign me (x ∷ [])
unfolding sent_foreign
foreign_are me x s told =
    let other = λ (u : Update). not (eqb u.writer me) in
    sym (ap (λ (ss : List Signed). map id_of_update (filter other (flat_map (λ (t : Signed). update_in t.statement) ss ++ []))) told
    ∙ ap (λ (us : List Update). map id_of_update (filter other us)) (append-nil (update_in s.statement ++ []) ∙ append-nil (update_in s.statement)))

-- the values of its parcel are those that were found after its update
pub parcel_values : (sign : Signs) (J : List Record) (place : ℕ) (keys : List (List ℕ)) (r : Record) (u : Update) (found new : List (List ℕ)) → slice_get J place ≡ Some r → accepted_at J place ≡ u ∷ []
    → Finds J keys (values_named u) found new → (candidate_parcel sign J keys r).values ≡ found
parcel_values sign J place keys r u found new at accepts f =
    let updates : accepted_by r ≡ u ∷ [] = sym (append-nil (accepted_by r)) ∙ ap (λ (o : Option Record). flat_map accepted_by (option_to_list o)) (sym at) ∙ accepts in
    ap (λ (us : List Update). values_behind J keys (flat_map values_named us)) updates ∙ ap (values_behind J keys) (append-nil (values_named u)) ∙ sym f.values

-- with more hashes, whatever the answer
pub hashes_added : {E : Type 0} (old more new : List (List ℕ)) (r : Result Bool E) → AreTogether old more new → AddsHashes old more r new
hashes_added old more new (Ok true) t = t
hashes_added old more new (Ok false) t = tt
hashes_added old more new (Err e) t = tt

-- ---- the values after a candidate

pub candidate_alike : (sign : Signs) (J : List Record) (a b : List (List ℕ)) (r : Record) → AreAlike a b → candidate_parcel sign J a r ≡ candidate_parcel sign J b r
candidate_alike sign J a b r alike = ap (λ (vs : List (List ℕ)). record { told = signed_by sign r; values = vs }) (behind_alike J a b (flat_map values_named (accepted_by r)) alike)

-- a held value is short
pub held_is_short : (here : Setting) (J : List Record) (h v : List ℕ) → IsLawful here J → value_with h (held J) ≡ Some v → length v ≤ 65536
held_is_short here J h v l e = value_fits here J v l (held_is_brought J v (value_with_is (held J) h v e).on)

-- ---- one candidate after another

-- candidates after others: the hashes that are sent before them are those of the parcels of the others
record Behind (sign : Signs) (J : List Record) (sent : List (List ℕ)) (rs qs : List Record) : Type 0 where
  pub hashes : List (List ℕ)
  pub is : candidate_parcels sign J sent (rs ++ qs) ≡ candidate_parcels sign J sent rs ++ candidate_parcels sign J hashes qs
  pub members : (h : List ℕ) → is_among h hashes ≡ (is_among h (hashes_of (candidate_parcels sign J sent rs)) || is_among h sent)

behind : (sign : Signs) (J : List Record) (sent : List (List ℕ)) (rs qs : List Record) → Behind sign J sent rs qs
unfolding candidate_parcels
behind sign J sent [] qs = record { hashes = sent; is = refl; members = λ h. refl }
behind sign J sent (r ∷ rs) qs =
    let x = candidate_parcel sign J sent r in
    let b = behind sign J (map sha256 x.values ++ sent) rs qs in
    record {
      hashes = b.hashes;
      is = ap (λ (xs : List Parcel). x ∷ xs) b.is;
      members = λ h.
          let rest = hashes_of (candidate_parcels sign J (map sha256 x.values ++ sent) rs) in
          b.members h ∙ ap (λ (c : Bool). is_among h rest || c) (among-append h (map sha256 x.values) sent)
          ∙ or_swap (is_among h (map sha256 x.values)) (is_among h rest) (is_among h sent)
          ∙ ap (λ (c : Bool). c || is_among h sent) (sym (among-append h (map sha256 x.values) rest));
    }

-- the preceding parcels
pub parcels_front : (sign : Signs) (J : List Record) (rs qs : List Record) → (more : List Parcel) × (candidate_parcels sign J [] (rs ++ qs) ≡ candidate_parcels sign J [] rs ++ more)
parcels_front sign J rs qs = let b = behind sign J [] rs qs in (candidate_parcels sign J b.hashes qs, b.is)

-- the parcel of the last candidate
pub last_parcel : (sign : Signs) (J : List Record) (keys : List (List ℕ)) (rs : List Record) (r : Record) → AreAlike keys (hashes_of (candidate_parcels sign J [] rs)) → candidate_parcels sign J [] (rs ++ r ∷ []) ≡ candidate_parcels sign J [] rs ++ candidate_parcel sign J keys r ∷ []
unfolding candidate_parcels
last_parcel sign J keys rs r alike =
    let b = behind sign J [] rs (r ∷ []) in
    b.is ∙ ap (λ (x : Parcel). candidate_parcels sign J [] rs ++ x ∷ []) (candidate_alike sign J b.hashes keys r (λ h. b.members h ∙ or-false _ ∙ sym (alike h)))

-- the hashes with those of one parcel more
pub alike_push : (keys new : List (List ℕ)) (xs : List Parcel) (x : Parcel) → AreAlike keys (hashes_of xs) → AreTogether keys (map sha256 x.values) new → AreAlike new (hashes_of (xs ++ x ∷ []))
alike_push keys new xs x alike too h =
    too h ∙ ap (λ (c : Bool). c || is_among h (map sha256 x.values)) (alike h)
    ∙ sym (among-append h (hashes_of xs) (map sha256 x.values))
    ∙ ap (is_among h) (sym (flat_push (λ (y : Parcel). map sha256 y.values) xs x))

-- ---- the step from one place to the next

-- the record of a place that is sent
pub record IsNext (J : List Record) (places : List ℕ) (i : ℕ) : Type 0 where
  pub place : HasUpdateAt J (get_or places i 0)
  pub records : records_at J (take (i + 1) places) ≡ records_at J (take i places) ++ place.item ∷ []
  pub rest : List Record
  pub all : records_at J places ≡ records_at J (take (i + 1) places) ++ rest

pub tells_at : (J : List Record) (places : List ℕ) (i : ℕ) → i < length places → AllByRecursion (HasUpdateAt J) places → HasUpdateAt J (get_or places i 0)
tells_at J places i lt all = all_at (HasUpdateAt J) places (get_or places i 0) all (in_at places i (get_or places i 0) (slice_get-get_or places i 0 lt))

pub next_place : (J : List Record) (places : List ℕ) (i : ℕ) → i < length places → AllByRecursion (HasUpdateAt J) places → IsNext J places i
next_place J places i lt all =
    let t = tells_at J places i lt all in
    let longer : take (i + 1) places ≡ take i places ++ get_or places i 0 ∷ [] = rw add-one (take-suc places i 0 lt) in
    let at = λ (place : ℕ). option_to_list (slice_get J place) in
    record {
      place = t;
      records = ap (flat_map at) longer ∙ flat_push at (take i places) (get_or places i 0) ∙ ap (λ (o : Option Record). records_at J (take i places) ++ option_to_list o) t.at;
      rest = records_at J (drop (i + 1) places);
      all = ap (flat_map at) (sym (take-append-drop (i + 1) places)) ∙ flat_map-append at (take (i + 1) places) (drop (i + 1) places);
    }

-- what the parcels of the places up to this one are
pub place_parcels : (sign : Signs) (J : List Record) (keys : List (List ℕ)) (places : List ℕ) (i : ℕ) (n : IsNext J places i) → AreAlike keys (hashes_of (candidate_parcels sign J [] (records_at J (take i places))))
    → candidate_parcels sign J [] (records_at J (take (i + 1) places)) ≡ candidate_parcels sign J [] (records_at J (take i places)) ++ candidate_parcel sign J keys n.place.item ∷ []
place_parcels sign J keys places i n alike = ap (candidate_parcels sign J []) n.records ∙ last_parcel sign J keys (records_at J (take i places)) n.place.item alike

-- where the candidate of a place has no room, the parcels of all places are cut
pub place_cut : (me : ℕ) (sign : Signs) (J : List Record) (keys : List (List ℕ)) (places : List ℕ) (i : ℕ) (n : IsNext J places i) (s : Sending) → AreAlike keys (hashes_of (candidate_parcels sign J [] (records_at J (take i places))))
    → IsCutAt me (candidate_parcels sign J [] (records_at J (take i places)) ++ candidate_parcel sign J keys n.place.item ∷ []) s → IsCutAt me (candidate_parcels sign J [] (records_at J places)) s
place_cut me sign J keys places i n s alike c =
    let f = parcels_front sign J (records_at J (take (i + 1) places)) n.rest in
    let whole : candidate_parcels sign J [] (records_at J places) ≡ candidate_parcels sign J [] (records_at J (take (i + 1) places)) ++ f.0 = ap (candidate_parcels sign J []) n.all ∙ f.1 in
    let here : IsCutAt me (candidate_parcels sign J [] (records_at J (take (i + 1) places))) s = subst (λ (xs : List Parcel). IsCutAt me xs s) (sym (place_parcels sign J keys places i n alike)) c in
    subst (λ (xs : List Parcel). IsCutAt me xs s) (sym whole) (cut_on me (candidate_parcels sign J [] (records_at J (take (i + 1) places))) f.0 s here)

-- ---- wanted values

-- which values are wanted goes by the members of what was sent
pub wanted_alike : (J : List Record) (a b hs : List (List ℕ)) → AreAlike a b → flat_map (wanted_parcel J a) hs ≡ flat_map (wanted_parcel J b) hs
wanted_alike J a b [] alike = refl
wanted_alike J a b (h ∷ hs) alike =
    let one : wanted_parcel J a h ≡ wanted_parcel J b h = ap (λ (c : Bool). elim (cond c None (value_with h (held J))) as (λ o. List Parcel) [ None ↦ [] | Some v ↦ record { told = []; values = v ∷ [] } ∷ [] ]) (alike h) in
    ap (λ (xs : List Parcel). xs ++ flat_map (wanted_parcel J a) hs) one ∙ ap (λ (xs : List Parcel). wanted_parcel J b h ++ xs) (wanted_alike J a b hs alike)

-- a wanted value is held
wanted_is_held : (J : List Record) (keys : List (List ℕ)) (h v : List ℕ) → wanted_parcel J keys h ≡ value_parcels (Some v) → value_with h (held J) ≡ Some v
wanted_is_held J keys h v e = by_test (is_among h keys) (value_with h (held J)) e where
  by_test : (b : Bool) (o : Option (List ℕ)) → elim (cond b None o) as (λ p. List Parcel) [ None ↦ [] | Some w ↦ record { told = []; values = w ∷ [] } ∷ [] ] ≡ value_parcels (Some v) → o ≡ Some v
  by_test true o is = absurd cc
  by_test false None is = absurd cc
  by_test false (Some w) is = let same : w ∷ [] ≡ v ∷ [] = ap (flat_map (λ (x : Parcel). x.values)) is in cc

-- and short
pub wanted_is_short : (here : Setting) (J : List Record) (keys : List (List ℕ)) (h v : List ℕ) → IsLawful here J → wanted_parcel J keys h ≡ value_parcels (Some v) → length v ≤ 65536
wanted_is_short here J keys h v l e = held_is_short here J h v l (wanted_is_held J keys h v e)

-- the parcels of one hash more
pub wanted_push : (J : List Record) (keys hs : List (List ℕ)) (i : ℕ) (h : List ℕ) (xs : List Parcel) → i < length hs → h ≡ get_or hs i h → (xs ++ flat_map (wanted_parcel J keys) (take i hs)) ++ wanted_parcel J keys h ≡ xs ++ flat_map (wanted_parcel J keys) (take (i + 1) hs)
wanted_push J keys hs i h xs lt is =
    let front = take_next hs i h lt is in
    append_assoc xs (flat_map (wanted_parcel J keys) (take i hs)) (wanted_parcel J keys h)
    ∙ ap (λ (ys : List Parcel). xs ++ ys) (sym (ap (flat_map (wanted_parcel J keys)) front ∙ flat_push (wanted_parcel J keys) (take i hs) h))

-- where the value of a hash has no room, the parcels of all hashes are cut
pub wanted_cut : (me : ℕ) (J : List Record) (keys hs : List (List ℕ)) (i : ℕ) (xs : List Parcel) (s : Sending) → IsCutAt me (xs ++ flat_map (wanted_parcel J keys) (take (i + 1) hs)) s → IsCutAt me (xs ++ flat_map (wanted_parcel J keys) hs) s
wanted_cut me J keys hs i xs s c =
    let f = wanted_parcel J keys in
    let whole : xs ++ flat_map f hs ≡ (xs ++ flat_map f (take (i + 1) hs)) ++ flat_map f (drop (i + 1) hs) =
    ap (λ (ys : List Parcel). xs ++ ys) (ap (flat_map f) (sym (take-append-drop (i + 1) hs)) ∙ flat_map-append f (take (i + 1) hs) (drop (i + 1) hs)) ∙ sym (append_assoc xs (flat_map f (take (i + 1) hs)) (flat_map f (drop (i + 1) hs))) in
    subst (λ (ys : List Parcel). IsCutAt me ys s) (sym whole) (cut_on me (xs ++ flat_map f (take (i + 1) hs)) (flat_map f (drop (i + 1) hs)) s c)

-- ---- all

-- the parcels for a hello, from the places of the candidates
pub parcels_are : (sign : Signs) (J : List Record) (h : Hello) (places : List ℕ) → places ≡ candidate_places J (map (λ l. l.id) h.leaves) h.node
    → parcels sign J h ≡ candidate_parcels sign J [] (records_at J places) ++ flat_map (wanted_parcel J (hashes_of (candidate_parcels sign J [] (records_at J places)))) h.wanted
unfolding parcels
parcels_are sign J h places is =
    let same : candidates J (map (λ l. l.id) h.leaves) h.node ≡ records_at J places = sym (ap (records_at J) is ∙ (candidates_at J (map (λ l. l.id) h.leaves) h.node).records) in
    ap (λ (rs : List Record). candidate_parcels sign J [] rs ++ flat_map (wanted_parcel J (hashes_of (candidate_parcels sign J [] rs))) h.wanted) same
