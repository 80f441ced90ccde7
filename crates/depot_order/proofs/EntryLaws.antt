-- Entries of a row, one more at a time.
use Rattle.std.proofs.Common.{◌≡◌, ◌≢◌, ℕ, ◌+◌, ◌-◌, ◌<◌, ◌≤◌, List, [], ◌∷◌, ◌++◌, length, take, drop, max, get_or, None, get_or-set_same, get_or-set_other, Some, refl, sym, ap, subst, ◌∙◌, arith, inl, inr, ◌⊎◌, slice_get}
use Rattle.std.proofs.Math.ListN.{set}
use Rattle.std.proofs.lemmas.Bool.{cases_lt, cases_order}
use Rattle.std.proofs.lemmas.List.{length-drop, take_all, get_or-drop}
use Rattle.std.proofs.lemmas.Option.{slice_get_within}
use Rattle.depot_order.specs.Lanes.{first_above}
use Rattle.depot_order.proofs.LaneLaws.{first_above-Some, first_above-None, first_above-within}
use Rattle.depot_base.proofs.GeneralLaws.{from_pushed, to_pushed, get_last, same_at}
use Rattle.depot_order.specs.declared.row.RowEntry.{RowEntry}
use Rattle.depot_order.specs.KeptRows.{HasCount, AreRaised, AreAbove, NoneAbove, IsFirstFrom}

-- ---- the first entries

-- none of the first i entries is of the chain
abbrev pub NoneUpTo : List RowEntry → ℕ → ℕ → Type 0
NoneUpTo entries i chain = (k : ℕ) (e : RowEntry) → k < i → slice_get entries k ≡ Some e → e.chain ≡ chain → ⊥

-- the first i entries aren't above those of the row
abbrev pub WithinUpTo : List RowEntry → ℕ → List ℕ → Type 0
WithinUpTo entries i row = (k : ℕ) (e : RowEntry) → k < i → slice_get entries k ≡ Some e → e.count ≤ get_or row e.chain 0

-- ---- entries put into a row

-- the first i entries are put into a row
abbrev pub PutUpTo : List RowEntry → ℕ → List ℕ → List ℕ → Type 0
PutUpTo entries i old new = (chain : ℕ) → HasCount entries chain (get_or new chain 0) ⊎ (NoneUpTo entries i chain × (get_or new chain 0 ≡ get_or old chain 0))

-- ---- a row raised to entries

-- n is m or the count of an entry of the chain, and neither m nor one of the first i entries of the chain is above it
pub record RaisedAt (entries : List RowEntry) (i chain m n : ℕ) : Type 0 where
  pub least : m ≤ n
  pub above : (k : ℕ) (e : RowEntry) → k < i → slice_get entries k ≡ Some e → e.chain ≡ chain → e.count ≤ n
  pub reached : (n ≡ m) ⊎ HasCount entries chain n

-- a row raised to the first i entries
abbrev pub RaisedUpTo : List RowEntry → ℕ → List ℕ → List ℕ → Type 0
RaisedUpTo entries i old new = (chain : ℕ) → RaisedAt entries i chain (get_or old chain 0) (get_or new chain 0)

raised_here : (entries : List RowEntry) (i chain m n : ℕ) (e : RowEntry) → RaisedAt entries i chain m n → slice_get entries i ≡ Some e → e.chain ≡ chain → RaisedAt entries (i + 1) chain m (max n e.count)
raised_here entries i chain m n e raised at same = record {
  least = omega (arith, raised.least);
  above = λ k f low at_f here. elim (cases_lt k i) [
    | inl lt ↦ omega (arith, raised.above k f lt at_f here)
    | inr ge ↦ let count : f.count ≡ e.count = sym (ap (λ (g : RowEntry). g.count) (same_at entries i k e f (omega (arith, low, ge)) at at_f)) in omega (arith, count)
  ];
  reached = elim (cases_lt n e.count) [
    | inl lt ↦ inr (record { place = i; entry = e; at = at; of_chain = same; counts = omega (arith, lt) })
    | inr ge ↦ let stays : max n e.count ≡ n = omega (arith, ge) in rw stays raised.reached
  ];
}

raised_elsewhere : (entries : List RowEntry) (i chain m n : ℕ) (e : RowEntry) → RaisedAt entries i chain m n → slice_get entries i ≡ Some e → (e.chain ≡ chain → ⊥) → RaisedAt entries (i + 1) chain m n
raised_elsewhere entries i chain m n e raised at other = record {
  least = raised.least;
  above = λ k f low at_f here. elim (cases_lt k i) [
    | inl lt ↦ raised.above k f lt at_f here
    | inr ge ↦ absurd (other (ap (λ (g : RowEntry). g.chain) (same_at entries i k e f (omega (arith, low, ge)) at at_f) ∙ here))
  ];
  reached = raised.reached;
}

pub raised_more : (entries : List RowEntry) (i : ℕ) (old new : List ℕ) (e : RowEntry) → RaisedUpTo entries i old new → slice_get entries i ≡ Some e → e.chain < length new → RaisedUpTo entries (i + 1) old (set new e.chain (max (get_or new e.chain 0) e.count))
raised_more entries i old new e raised at inside chain =
    let value = max (get_or new e.chain 0) e.count in
    elim (cases_order e.chain chain) [
      | inl same ↦
          let read : get_or (set new e.chain value) chain 0 ≡ max (get_or new chain 0) e.count = subst (λ (k : ℕ). get_or (set new e.chain value) k 0 ≡ max (get_or new k 0) e.count) same (rw get_or-set_same refl) in
          subst (RaisedAt entries (i + 1) chain (get_or old chain 0)) (sym read) (raised_here entries i chain (get_or old chain 0) (get_or new chain 0) e (raised chain) at same)
      | inr other ↦
          let apart : chain ≢ e.chain = elim other [ inl lt ↦ omega arith | inr gt ↦ omega arith ] in
          let read : get_or (set new e.chain value) chain 0 ≡ get_or new chain 0 = rw get_or-set_other refl in
          subst (RaisedAt entries (i + 1) chain (get_or old chain 0)) (sym read) (raised_elsewhere entries i chain (get_or old chain 0) (get_or new chain 0) e (raised chain) at (λ same. apart (sym same)))
    ]

pub raised_all : (entries : List RowEntry) (i : ℕ) (old new : List ℕ) → RaisedUpTo entries i old new → length entries ≤ i → AreRaised entries old new
raised_all entries i old new raised all chain = let r = raised chain in record {
  least = r.least;
  above = λ k e at same. r.above k e (omega (arith, all, slice_get_within entries k e at)) at same;
  reached = r.reached;
}

-- ---- entries above those of another row

same_length : (row before : List ℕ) (at : ℕ) → length row ≡ length before → length (drop at row) ≡ length (drop at before)
same_length row before at len = omega (arith, length-drop at row, length-drop at before)

whole : (row before : List ℕ) (at step : ℕ) → length row ≡ length before → first_above (take (length row - at) (drop at row)) (take (length before - at) (drop at before)) ≡ Some step → first_above (drop at row) (drop at before) ≡ Some step
whole row before at step len e = rw (take_all (length row - at) (drop at row) (omega (arith, length-drop at row)), take_all (length before - at) (drop at before) (omega (arith, length-drop at before))) at e

whole_none : (row before : List ℕ) (at : ℕ) → length row ≡ length before → first_above (take (length row - at) (drop at row)) (take (length before - at) (drop at before)) ≡ None → first_above (drop at row) (drop at before) ≡ None
whole_none row before at len e = rw (take_all (length row - at) (drop at row) (omega (arith, length-drop at row)), take_all (length before - at) (drop at before) (omega (arith, length-drop at before))) at e

-- the place that is found after some
pub first_from : (row before : List ℕ) (at step : ℕ) → length row ≡ length before → at ≤ length row → first_above (take (length row - at) (drop at row)) (take (length before - at) (drop at before)) ≡ Some step → IsFirstFrom row before at (at + step)
first_from row before at step len inside e =
    let found = first_above-Some (drop at row) (drop at before) step (same_length row before at len) (whole row before at step len e) in
    let low = first_above-within (drop at row) (drop at before) step (whole row before at step len e) in
    record {
      inside = omega (arith, low, length-drop at row);
      behind = omega arith;
      first = λ k ge lt.
          let here : at + (k - at) ≡ k = omega arith in
          let le = found.1 (k - at) (omega arith) in
          subst (λ (j : ℕ). get_or row j 0 ≤ get_or before j 0) here (rw (get_or-drop at row (k - at) 0, get_or-drop at before (k - at) 0) at le);
    }

-- none is found after some
pub none_from : (row before : List ℕ) (at : ℕ) → length row ≡ length before → at ≤ length row → first_above (take (length row - at) (drop at row)) (take (length before - at) (drop at before)) ≡ None → NoneAbove row before at (length row)
none_from row before at len inside e k ge lt =
    let here : at + (k - at) ≡ k = omega arith in
    let le = first_above-None (drop at row) (drop at before) (same_length row before at len) (whole_none row before at len e) (k - at) in
    subst (λ (j : ℕ). get_or row j 0 ≤ get_or before j 0) here (rw (get_or-drop at row (k - at) 0, get_or-drop at before (k - at) 0) at le)

-- one entry more, and none above between
pub above_more : (row before : List ℕ) (entries : List RowEntry) (at : ℕ) (e : RowEntry) → AreAbove row before at entries → IsFirstFrom row before at e.chain → e.count ≡ get_or row e.chain 0 → AreAbove row before (e.chain + 1) (entries ++ e ∷ [])
above_more row before entries at e above place count = record {
  told = λ k f at_f. elim (from_pushed entries e k f at_f) [
    | inl h ↦ above.told k f h
    | inr h ↦ subst (λ (g : RowEntry). (g.chain < length row) × (g.count ≡ get_or row g.chain 0)) h.1 (place.inside, count)
  ];
  all = λ chain low higher. elim (cases_lt chain at) [
    | inl lt ↦ let r = above.all chain lt higher in record { place = r.place; entry = r.entry; at = to_pushed entries e r.place r.entry r.at; of_chain = r.of_chain }
    | inr ge ↦ elim (cases_lt chain e.chain) [
      | inl lt ↦ absurd (omega (arith, higher, place.first chain ge lt))
      | inr le ↦ record { place = length entries; entry = e; at = get_last entries e; of_chain = omega (arith, low, le) }
    ]
  ];
}
