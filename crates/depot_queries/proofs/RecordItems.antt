-- The items of the updates that records accept, found by the places of the records, which rise.
use Rattle.std.proofs.Common.{◌≡◌, ℕ, zero, suc, ◌+◌, ◌<◌, ◌≤◌, Bool, true, false, cond, List, [], ◌∷◌, ◌++◌, length, get_or, nat_lt, Option, Some, None, refl, sym, ap, subst, ◌∙◌, arith, inl, inr, ◌⊎◌}
use Rattle.std.specs.Prelude.{slice_get, option_to_list, Result, Ok, Err}
use Rattle.std.specs.List.{flat_map}
use Rattle.std.specs.List.Sorted.{IsBinarySearchResult}
use Rattle.std.specs.Ordering.{nat_cmp}
use Rattle.std.proofs.lemmas.Bool.{cases_lt}
use Rattle.std.proofs.lemmas.List.{append-nil}
use Rattle.std.proofs.lemmas.List.Sorted.{searched}
use Rattle.std.proofs.lemmas.Option.{slice_get-get_or, slice_get_within}
use Rattle.depot_base.specs.declared.record.Record.{Record}
use Rattle.depot_base.specs.declared.update.Update.{Update}
use Rattle.depot_model.specs.exchange.Bundle.{records_where}
use Rattle.depot_model.specs.journals.Journal.{accepted, accepted_at, accepted_by}
use Rattle.depot_laws.proofs.records.Causes.{none_or_one}
use Rattle.depot_readings.specs.Places.{accepts, accept_places}
use Rattle.depot_queries.specs.ItemPlaces.{IsItemAt}

-- ---- from an item to its record

-- The update that is at an item, and the place, after those of the prefix, of the record that accepts it.
record HasItem (n : ℕ) (J : List Record) (item place : ℕ) : Type 0 where
  pub ahead : ℕ
  pub update : Update
  pub is : place ≡ n + ahead
  pub low : item ≤ ahead
  pub accepts : accepted_at J ahead ≡ update ∷ []
  pub at : slice_get (accepted J) item ≡ Some update

has_item : (n : ℕ) (J : List Record) (item place : ℕ) → slice_get (records_where accepts n J) item ≡ Some place → HasItem n J item place
unfolding records_where
has_item n [] item place e = absurd cc
has_item n (r ∷ J) item place e = by_updates (accepted_by r) refl (none_or_one r) item e (λ i at. has_item (n + 1) J i place at) where
  behind : List ℕ
  behind = records_where accepts (n + 1) J

  by_updates : (us : List Update) → accepted_by r ≡ us → (us ≡ []) ⊎ ((u : Update) × (us ≡ u ∷ [])) → (i : ℕ) → slice_get (cond (nat_lt 0 (length us)) (n ∷ behind) behind) i ≡ Some place
      → ((k : ℕ) → slice_get behind k ≡ Some place → HasItem (n + 1) J k place) → HasItem n (r ∷ J) i place
  by_updates [] none which i at rest =
      let h = rest i at in
      record { ahead = suc h.ahead; update = h.update; is = omega (arith, h.is); low = omega (arith, h.low); accepts = h.accepts; at = ap (λ (us : List Update). slice_get (us ++ accepted J) i) none ∙ h.at }
  by_updates (u ∷ []) one which zero at rest =
      let same : n ≡ place = cc in
      record { ahead = 0; update = u; is = omega (arith, same); low = omega arith; accepts = append-nil (accepted_by r) ∙ one; at = ap (λ (us : List Update). slice_get (us ++ accepted J) 0) one }
  by_updates (u ∷ []) one which (suc i) at rest =
      let h = rest i at in
      record { ahead = suc h.ahead; update = h.update; is = omega (arith, h.is); low = omega (arith, h.low); accepts = h.accepts; at = ap (λ (us : List Update). slice_get (us ++ accepted J) (suc i)) one ∙ h.at }
  by_updates (u ∷ v ∷ us) are (inl none) i at rest = absurd cc
  by_updates (u ∷ v ∷ us) are (inr one) i at rest = absurd (omega (arith, ap length one.1))

-- ---- from a record to its item

-- the places rise
place_above : (n : ℕ) (J : List Record) (i : ℕ) → i < length (records_where accepts n J) → n ≤ get_or (records_where accepts n J) i 0
place_above n J i low = let h = has_item n J i (get_or (records_where accepts n J) i 0) (slice_get-get_or (records_where accepts n J) i 0 low) in omega (arith, h.is)

places_rise : (n : ℕ) (J : List Record) (i j : ℕ) → i ≤ j → j < length (records_where accepts n J) → get_or (records_where accepts n J) i 0 ≤ get_or (records_where accepts n J) j 0
unfolding records_where
places_rise n [] i j le low = absurd (omega (arith, low))
places_rise n (r ∷ J) i j le low = by_test (accepts r) i j le low (places_rise (n + 1) J) (place_above (n + 1) J) where
  rest : List ℕ
  rest = records_where accepts (n + 1) J

  by_test : (b : Bool) (i j : ℕ) → i ≤ j → j < length (cond b (n ∷ rest) rest) → ((a c : ℕ) → a ≤ c → c < length rest → get_or rest a 0 ≤ get_or rest c 0) → ((k : ℕ) → k < length rest → n + 1 ≤ get_or rest k 0)
      → get_or (cond b (n ∷ rest) rest) i 0 ≤ get_or (cond b (n ∷ rest) rest) j 0
  by_test false i j le low rise above = rise i j le low
  by_test true zero zero le low rise above = omega arith
  by_test true zero (suc j) le low rise above = omega (arith, above j (omega (arith, low)))
  by_test true (suc i) zero le low rise above = absurd (omega (arith, le))
  by_test true (suc i) (suc j) le low rise above = rise i j (omega (arith, le)) (omega (arith, low))

-- A place is among these.
record HasPlace (places : List ℕ) (place : ℕ) : Type 0 where
  pub item : ℕ
  pub low : item < length places
  pub at : get_or places item 0 ≡ place

-- that of a record that accepts an update is among theirs
has_place : (n : ℕ) (J : List Record) (k : ℕ) (u : Update) → accepted_at J k ≡ u ∷ [] → HasPlace (records_where accepts n J) (n + k)
unfolding records_where
has_place n [] k u e = absurd cc
has_place n (r ∷ J) zero u e = by_updates (accepted_by r) (sym (append-nil (accepted_by r)) ∙ e) where
  by_updates : (us : List Update) → us ≡ u ∷ [] → HasPlace (cond (nat_lt 0 (length us)) (n ∷ records_where accepts (n + 1) J) (records_where accepts (n + 1) J)) (n + 0)
  by_updates [] one = absurd cc
  by_updates (v ∷ []) one = record { item = 0; low = omega arith; at = omega arith }
  by_updates (v ∷ w ∷ us) one = absurd (omega (arith, ap length one))
has_place n (r ∷ J) (suc k) u e = by_test (accepts r) (has_place (n + 1) J k u e) where
  by_test : (b : Bool) → HasPlace (records_where accepts (n + 1) J) (n + 1 + k) → HasPlace (cond b (n ∷ records_where accepts (n + 1) J) (records_where accepts (n + 1) J)) (n + suc k)
  by_test false h = record { item = h.item; low = h.low; at = omega (arith, h.at) }
  by_test true h = record { item = suc h.item; low = omega (arith, h.low); at = omega (arith, h.at) }

-- ---- what is searched

none_or_one_at : (J : List Record) (place : ℕ) → (accepted_at J place ≡ []) ⊎ ((u : Update) × (accepted_at J place ≡ u ∷ []))
none_or_one_at J place = by_record (slice_get J place) where
  by_record : (o : Option Record) → (flat_map accepted_by (option_to_list o) ≡ []) ⊎ ((u : Update) × (flat_map accepted_by (option_to_list o) ≡ u ∷ []))
  by_record None = inl refl
  by_record (Some r) = elim (none_or_one r) [
    | inl none ↦ inl (append-nil (accepted_by r) ∙ none)
    | inr one ↦ inr (one.0, append-nil (accepted_by r) ∙ one.1)
  ]

-- The result of a search for a place among those of the items: its item, which is no greater; or that the record there
-- accepts nothing.
abbrev pub IsFound : List Record → ℕ → Result ℕ ℕ → Type 0
IsFound J place (Ok item) = (item ≤ place) × IsItemAt J place (Some item)
IsFound J place (Err gap) = IsItemAt J place None

pub found : (J : List Record) (place : ℕ) (places : List ℕ) (answer : Result ℕ ℕ) → places ≡ accept_places J → IsBinarySearchResult (λ y. nat_cmp y place) places answer → IsFound J place answer
found J place places answer are searches = by_answer answer (subst (λ (ps : List ℕ). IsBinarySearchResult (λ y. nat_cmp y place) ps answer) are searches) where
  by_answer : (r : Result ℕ ℕ) → IsBinarySearchResult (λ y. nat_cmp y place) (accept_places J) r → IsFound J place r
  by_answer (Ok item) is =
      let at = searched (accept_places J) place (Ok item) is (places_rise 0 J) in
      let h = has_item 0 J item place (slice_get-get_or (accept_places J) item 0 at.0 ∙ ap (λ (p : ℕ). Some p) at.1) in
      let same : h.ahead ≡ place = omega (arith, h.is) in
      (omega (arith, h.low, same), (h.update, (h.at, subst (λ (p : ℕ). accepted_at J p ≡ h.update ∷ []) same h.accepts)))
  by_answer (Err gap) is =
      let at = searched (accept_places J) place (Err gap) is (places_rise 0 J) in
      elim (none_or_one_at J place) [
        | inl none ↦ none
        | inr one ↦ let h = has_place 0 J place one.0 one.1 in elim (cases_lt h.item gap) [
          | inl before ↦ absurd (omega (arith, h.at, at.1 h.item before))
          | inr behind ↦ absurd (omega (arith, h.at, at.2 h.item behind h.low))
        ]
      ]

-- ---- what is at an item that was found

-- it is one of the updates
pub item_within : (J : List Record) (us : List Update) (place item : ℕ) (o : Option ℕ) → accepted J ≡ us → IsItemAt J place o → o ≡ Some item → item < length us
item_within J us place item o all at is =
    let here : IsItemAt J place (Some item) = subst (IsItemAt J place) is at in
    slice_get_within us item here.0 (ap (λ (ts : List Update). slice_get ts item) (sym all) ∙ here.1.0)

-- and the record accepts the update there
pub item_update : (J : List Record) (us : List Update) (place item : ℕ) (o : Option ℕ) (u : Update) → accepted J ≡ us → IsItemAt J place o → o ≡ Some item → slice_get us item ≡ Some u → u ∷ [] ≡ accepted_at J place
item_update J us place item o u all at is there =
    let here : IsItemAt J place (Some item) = subst (IsItemAt J place) is at in
    let both : Some here.0 ≡ Some u = sym here.1.0 ∙ ap (λ (ts : List Update). slice_get ts item) all ∙ there in
    let same : here.0 ≡ u = cc in
    ap (λ (t : Update). t ∷ []) (sym same) ∙ sym here.1.1
