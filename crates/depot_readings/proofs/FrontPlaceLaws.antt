-- What bundles begin with, by place, with more records.
use Rattle.std.proofs.Common.{◌≡◌, ℕ, ◌+◌, ◌<◌, Bool, true, false, eqb, eq-eqb, ◌&&◌, ◌||◌, List, [], ◌∷◌, ◌++◌, length, map, take, get_or, Option, Some, None, refl, sym, ap, subst, ◌∙◌, append_assoc, length-append, arith, inl, inr, ◌⊎◌}
use Rattle.std.specs.Prelude.{slice_get, Result, Ok, Err, OnOk}
use Rattle.std.specs.List.{flat_map, list_any}
use Rattle.std.specs.Option.{option_to_list}
use Rattle.std.specs.Str.{bytes_eq}
use Rattle.std.proofs.Math.Bool.{or_assoc}
use Rattle.std.proofs.lemmas.Bool.{and_from, and_parts, eqb-true, or_cases, or_left, or_right}
use Rattle.std.proofs.lemmas.List.{append-nil, length-map, length-take}
use Rattle.std.proofs.lemmas.List.Folds.{list_any-append}
use Rattle.std.proofs.lemmas.Option.{slice_get_within}
use Rattle.depot_base.specs.declared.proof.Proof.{Proof}
use Rattle.depot_base.specs.declared.record.Record.{Record}
use Rattle.depot_base.specs.declared.record.Record.TheVariants.{Birth, OwnPut, OwnVoucher, Foreign, Conviction, Held}
use Rattle.depot_base.specs.declared.voucher.Voucher.{Voucher}
use Rattle.depot_base.proofs.GeneralLaws.{bytes_eq_comm, from_pushed, get_last, or_none, same_test, take_next, to_pushed}
use Rattle.depot_model.specs.journals.Journal.{accused, proof_by}
use Rattle.depot_model.specs.lists.Lists.{IsIn, is_among}
use Rattle.depot_model.specs.checks.Vouching.{own_voucher_by, records_of}
use Rattle.depot_readings.specs.FrontPlaces.{AddsPlaces, AreFrontPlaces, AreNewPlaces, convictions_from, voucher_places_from, vouches, vouches_at, with_place}
use Rattle.depot_readings.specs.NewRecords.{records_in, vouchers_of}
use Rattle.depot_readings.specs.VoucherPlaces.{is_among_places, is_voucher_place, has_voucher_place}
use Rattle.depot_readings.specs.declared.front_places.ConvictedAt.{ConvictedAt}
use Rattle.depot_readings.specs.declared.front_places.FrontPlaces.{FrontPlaces}
use Rattle.depot_readings.specs.declared.front_places.NewPlaces.{NewPlaces}
use Rattle.depot_readings.specs.declared.news.NewVoucher.{NewVoucher}
use Rattle.depot_readings.specs.declared.news.News.{News}
use Rattle.depot_readings.specs.declared.voucher_places.VoucherPlace.{VoucherPlace}
use Rattle.depot_readings.proofs.VoucherRecords.{records_push}

-- ---- convictions

-- the convictions by two lists of records are those by the first, and after them those by the second
pub convictions_from-append : (n : ℕ) (J new : List Record) → convictions_from n (J ++ new) ≡ convictions_from n J ++ convictions_from (n + length J) new
unfolding convictions_from
convictions_from-append n [] new = ap (λ (k : ℕ). convictions_from k new) (omega arith)
convictions_from-append n (r ∷ J) new =
    let here : List ConvictedAt = map (λ (p : Proof). record { node = accused p; place = n }) (proof_by r) in
    ap (λ (cs : List ConvictedAt). here ++ cs) (convictions_from-append (n + 1) J new ∙ ap (λ (k : ℕ). convictions_from (n + 1) J ++ convictions_from k new) (omega arith))
    ∙ sym (append_assoc here (convictions_from (n + 1) J) (convictions_from (n + length (r ∷ J)) new))

-- own vouchers convict none
pub none_convicting : (n : ℕ) (vs : List Voucher) → convictions_from n (records_of vs) ≡ []
unfolding convictions_from
none_convicting n [] = refl
none_convicting n (v ∷ vs) = none_convicting (n + 1) vs

-- ---- ids with places

-- those of two lists of records are those of the first, and after them those of the second
voucher_places_from-append : (n : ℕ) (J new : List Record) → voucher_places_from n (J ++ new) ≡ voucher_places_from n J ++ voucher_places_from (n + length J) new
unfolding voucher_places_from
voucher_places_from-append n [] new = ap (λ (k : ℕ). voucher_places_from k new) (omega arith)
voucher_places_from-append n (r ∷ J) new =
    let here : List VoucherPlace = flat_map (λ (v : Voucher). with_place n v.ids) (own_voucher_by r) in
    ap (λ (ps : List VoucherPlace). here ++ ps) (voucher_places_from-append (n + 1) J new ∙ ap (λ (k : ℕ). voucher_places_from (n + 1) J ++ voucher_places_from k new) (omega arith))
    ∙ sym (append_assoc here (voucher_places_from (n + 1) J) (voucher_places_from (n + length (r ∷ J)) new))

-- one own voucher more
pub places_push : (n : ℕ) (J : List Record) (v : Voucher) → voucher_places_from n (J ++ OwnVoucher v ∷ []) ≡ voucher_places_from n J ++ with_place (n + length J) v.ids
unfolding voucher_places_from
places_push n J v =
    voucher_places_from-append n J (OwnVoucher v ∷ []) ∙ ap (λ (ps : List VoucherPlace). voucher_places_from n J ++ ps) (append-nil (with_place (n + length J) v.ids ++ []) ∙ append-nil (with_place (n + length J) v.ids))

-- the same for new vouchers that are scanned
pub next_places : (n : ℕ) (xs : List NewVoucher) (i : ℕ) (x : NewVoucher) (place : ℕ) (old new : List VoucherPlace) → i < length xs → x ≡ get_or xs i x → place ≡ n + i → old ≡ voucher_places_from n (records_of (vouchers_of (take i xs))) → new ≡ old ++ with_place place x.voucher.ids
    → new ≡ voucher_places_from n (records_of (vouchers_of (take (i + 1) xs)))
next_places n xs i x place old new low is at before more =
    let front : List NewVoucher = take i xs in
    let many : length (records_of (vouchers_of front)) ≡ i = omega (arith, low, length-map (vouchers_of front) (λ (v : Voucher). OwnVoucher v), length-map front (λ (y : NewVoucher). y.voucher), length-take i xs) in
    more ∙ ap (λ (ps : List VoucherPlace). ps ++ with_place place x.voucher.ids) before
    ∙ ap (λ (k : ℕ). voucher_places_from n (records_of (vouchers_of front)) ++ with_place k x.voucher.ids) (at ∙ ap (λ (k : ℕ). n + k) (sym many))
    ∙ sym (ap (λ (ys : List NewVoucher). voucher_places_from n (records_of (vouchers_of ys))) (take_next xs i x low is) ∙ ap (voucher_places_from n) (records_push front x) ∙ places_push n (records_of (vouchers_of front)) x.voucher)

and_over : (a b c : Bool) → ((a && c) || (b && c)) ≡ ((a || b) && c)
and_over true true true = refl
and_over true true false = refl
and_over true false true = refl
and_over true false false = refl
and_over false b c = refl

-- an id has a place where it is one of the ids, and the place is theirs
placed : (n : ℕ) (ids : List (List ℕ)) (id : List ℕ) (place : ℕ) → is_among_places (with_place n ids) id place ≡ (is_among id ids && eqb n place)
placed n [] id place = refl
placed n (h ∷ hs) id place =
    ap (λ (b : Bool). (b && eqb n place) || is_among_places (with_place n hs) id place) (bytes_eq_comm h id) ∙ ap (λ (b : Bool). (bytes_eq id h && eqb n place) || b) (placed n hs id place)
    ∙ and_over (bytes_eq id h) (is_among id hs) (eqb n place)

record_places : (n : ℕ) (r : Record) (id : List ℕ) (place : ℕ) → is_among_places (flat_map (λ v. with_place n v.ids) (own_voucher_by r)) id place ≡ (vouches id r && eqb n place)
record_places n (OwnVoucher v) id place = ap (λ (ps : List VoucherPlace). is_among_places ps id place) (append-nil (with_place n v.ids)) ∙ placed n v.ids id place ∙ ap (λ (b : Bool). b && eqb n place) (or_none (is_among id v.ids))
record_places n (Birth node h) id place = refl
record_places n (OwnPut u values) id place = refl
record_places n (Foreign s) id place = refl
record_places n (Conviction p) id place = refl
record_places n (Held value) id place = refl

-- ---- the record of a place

-- where the record of a place passes a test, one is there that does
pub passing_at : (test : Record → Bool) (J : List Record) (place : ℕ) → list_any test (option_to_list (slice_get J place)) ≡ true → (r : Record) × ((slice_get J place ≡ Some r) × (test r ≡ true))
passing_at test J place e = by_record (slice_get J place) refl e where
  by_record : (o : Option Record) → slice_get J place ≡ o → list_any test (option_to_list o) ≡ true → (r : Record) × ((slice_get J place ≡ Some r) × (test r ≡ true))
  by_record None is none = absurd cc
  by_record (Some r) is one = (r, (is, or_none (test r) ∙ one))

pub at_passing : (test : Record → Bool) (J : List Record) (place : ℕ) (r : Record) → slice_get J place ≡ Some r → test r ≡ true → list_any test (option_to_list (slice_get J place)) ≡ true
at_passing test J place r at one = ap (λ (o : Option Record). list_any test (option_to_list o)) at ∙ sym (or_none (test r)) ∙ one

vouches_push : (J : List Record) (r : Record) (id : List ℕ) (place : ℕ) → vouches_at (J ++ r ∷ []) id place ≡ (vouches_at J id place || (vouches id r && eqb (length J) place))
vouches_push J r id place = same_test _ _ to back where
  to : vouches_at (J ++ r ∷ []) id place ≡ true → (vouches_at J id place || (vouches id r && eqb (length J) place)) ≡ true
  to e =
      let q = passing_at (vouches id) (J ++ r ∷ []) place e in
      elim (from_pushed J r place q.0 q.1.0) [
        | inl before ↦ or_left (vouches_at J id place) (vouches id r && eqb (length J) place) (at_passing (vouches id) J place q.0 before q.1.1)
        | inr last ↦
            or_right (vouches_at J id place) (vouches id r && eqb (length J) place) (and_from (vouches id r) (eqb (length J) place) (subst (λ (x : Record). vouches id x ≡ true) (sym last.1) q.1.1) (eq-eqb (length J) place (sym last.0)))
      ]

  back : (vouches_at J id place || (vouches id r && eqb (length J) place)) ≡ true → vouches_at (J ++ r ∷ []) id place ≡ true
  back e = elim (or_cases (vouches_at J id place) (vouches id r && eqb (length J) place) e) [
    | inl before ↦ let q = passing_at (vouches id) J place before in at_passing (vouches id) (J ++ r ∷ []) place q.0 (to_pushed J r place q.0 q.1.0) q.1.1
    | inr last ↦
        let parts = and_parts (vouches id r) (eqb (length J) place) last in
        at_passing (vouches id) (J ++ r ∷ []) place r (ap (slice_get (J ++ r ∷ [])) (sym (eqb-true (length J) place parts.1)) ∙ get_last J r) parts.0
  ]

-- more records vouch where they did, and where the new ones vouch
vouches_more : (J new : List Record) (id : List ℕ) (place : ℕ) → vouches_at (J ++ new) id place ≡ (vouches_at J id place || is_among_places (voucher_places_from (length J) new) id place)
unfolding voucher_places_from
vouches_more J [] id place = ap (λ (K : List Record). vouches_at K id place) (append-nil J) ∙ or_none (vouches_at J id place)
vouches_more J (r ∷ rs) id place =
    let next : List Record = J ++ r ∷ [] in
    let here : List VoucherPlace = flat_map (λ (v : Voucher). with_place (length J) v.ids) (own_voucher_by r) in
    let rest : List VoucherPlace = voucher_places_from (length J + 1) rs in
    ap (λ (K : List Record). vouches_at K id place) (sym (append_assoc J (r ∷ []) rs))
    ∙ vouches_more next rs id place
    ∙ ap (λ (n : ℕ). vouches_at next id place || is_among_places (voucher_places_from n rs) id place) (length-append J (r ∷ []))
    ∙ ap (λ (b : Bool). b || is_among_places rest id place) (vouches_push J r id place ∙ ap (λ (b : Bool). vouches_at J id place || b) (sym (record_places (length J) r id place)))
    ∙ or_assoc (vouches_at J id place) (is_among_places here id place) (is_among_places rest id place)
    ∙ ap (λ (b : Bool). vouches_at J id place || b) (sym (list_any-append (λ (v : VoucherPlace). is_voucher_place v id place) here rest))

-- ---- what is kept

-- nothing is before no records
pub none_in_front : (front : FrontPlaces) → front.convictions.items ≡ [] → ((id : List ℕ) (place : ℕ) → has_voucher_place front.vouchers id place ≡ false) → AreFrontPlaces [] front
unfolding convictions_from
none_in_front front none empty = record { convictions = none; vouchers = empty }

-- it grows with the records
pub front_grows : (J : List Record) (news : News) (count : ℕ) (new : NewPlaces) (mid then : FrontPlaces) → count ≡ length J → AreNewPlaces count news new → then.convictions.items ≡ mid.convictions.items ++ option_to_list new.conviction
    → ((id : List ℕ) (place : ℕ) → has_voucher_place then.vouchers id place ≡ (has_voucher_place mid.vouchers id place || is_among_places new.vouchers.items id place)) → AreFrontPlaces J mid → AreFrontPlaces (J ++ records_in news) then
front_grows J news count new mid then is n convictions vouchers f = record {
  convictions = convictions ∙ ap (λ (cs : List ConvictedAt). cs ++ option_to_list new.conviction) f.convictions
      ∙ ap (λ (cs : List ConvictedAt). convictions_from 0 J ++ cs) (n.conviction ∙ ap (λ (k : ℕ). convictions_from k (records_in news)) is) ∙ sym (convictions_from-append 0 J (records_in news) ∙ ap (λ (k : ℕ). convictions_from 0 J ++ convictions_from k (records_in news)) (omega arith));
  vouchers = λ id place. vouchers id place ∙ ap (λ (b : Bool). b || is_among_places new.vouchers.items id place) (f.vouchers id place)
      ∙ ap (λ (ps : List VoucherPlace). vouches_at J id place || is_among_places ps id place) (n.vouchers ∙ ap (λ (k : ℕ). voucher_places_from k (records_in news)) is) ∙ sym (vouches_more J (records_in news) id place);
}

-- what is said of an id
pub adds_places : {E : Type 0} (r : Result (Unit {0}) E) (J : List Record) (front : FrontPlaces) (id : List ℕ) (old new : List ℕ) → AreFrontPlaces J front → length J < 4294967296 → OnOk r ((place : ℕ) → IsIn place old → IsIn place new)
    → OnOk r ((place : ℕ) → place < 4294967296 → has_voucher_place front.vouchers id place ≡ true → IsIn place new) → OnOk r ((place : ℕ) → IsIn place new → IsIn place old ⊎ (has_voucher_place front.vouchers id place ≡ true)) → OnOk r (AddsPlaces J id old new)
adds_places (Err e) J front id old new f short kept all only = tt
adds_places (Ok done) J front id old new f short kept all only = record {
  kept = kept;
  all = λ place at. let r = passing_at (vouches id) J place at in let low = slice_get_within J place r.0 r.1.0 in all place (omega (arith, low, short)) (f.vouchers id place ∙ at);
  only = λ place on. elim (only place on) [ inl there ↦ inl there | inr named ↦ inr (sym (f.vouchers id place) ∙ named) ];
}
