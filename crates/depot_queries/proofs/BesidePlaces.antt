-- The places of records beside the updates that they accept.
use Rattle.std.proofs.Common.{◌≡◌, ℕ, ◌+◌, ◌≤◌, Bool, true, false, cond, ◌||◌, List, [], ◌∷◌, ◌++◌, length, drop, nat_lt, Some, refl, sym, ap, ◌∙◌, arith, append_assoc, inl, inr, ◌⊎◌}
use Rattle.std.specs.Prelude.{slice_get, Result, Ok, Err, IfOk}
use Rattle.std.specs.List.{list_any}
use Rattle.std.proofs.lemmas.List.{append-nil, drop_all}
use Rattle.depot_base.specs.declared.record.Record.{Record}
use Rattle.depot_base.specs.declared.update.Update.{Update}
use Rattle.depot_model.specs.lists.Items.{places_of}
use Rattle.depot_model.specs.exchange.Bundle.{records_where, is_candidate, candidate_places}
use Rattle.depot_model.specs.journals.Journal.{accepted, accepted_by}
use Rattle.depot_model.proofs.lists.Elements.{from_place}
use Rattle.depot_laws.proofs.records.Causes.{none_or_one}
use Rattle.depot_readings.specs.Places.{accepts, accept_places}
use Rattle.depot_graph.specs.UpdateRows.{IsJoinedRow}
use Rattle.depot_queries.specs.ItemPlaces.{beside}

-- ---- one update more

beside_at : (test : Update → Bool) (us : List Update) (ns : List ℕ) (i : ℕ) (u : Update) (n : ℕ) (b : Bool) → slice_get us i ≡ Some u → slice_get ns i ≡ Some n → test u ≡ b
    → beside test (drop i us) (drop i ns) ≡ cond b (n ∷ beside test (drop (i + 1) us) (drop (i + 1) ns)) (beside test (drop (i + 1) us) (drop (i + 1) ns))
beside_at test us ns i u n b at also is = rw (from_place us i u at, from_place ns i n also) (ap (λ (c : Bool). cond c (n ∷ beside test (drop (i + 1) us) (drop (i + 1) ns)) (beside test (drop (i + 1) us) (drop (i + 1) ns))) is)

-- What was found before a place, with what is found from it on, is what there is to find.
abbrev pub IsSoFar : (Update → Bool) → List Update → List ℕ → ℕ → List ℕ → Type 0
IsSoFar test us ns i found = found ++ beside test (drop i us) (drop i ns) ≡ beside test us ns

pub so_far_more : (test : Update → Bool) (us : List Update) (ns : List ℕ) (i : ℕ) (u : Update) (n : ℕ) (found : List ℕ) → slice_get us i ≡ Some u → slice_get ns i ≡ Some n → test u ≡ true → IsSoFar test us ns i found → IsSoFar test us ns (i + 1) (found ++ n ∷ [])
so_far_more test us ns i u n found at also is before =
    append_assoc found (n ∷ []) (beside test (drop (i + 1) us) (drop (i + 1) ns)) ∙ ap (λ (ms : List ℕ). found ++ ms) (sym (beside_at test us ns i u n true at also is)) ∙ before

pub so_far_same : (test : Update → Bool) (us : List Update) (ns : List ℕ) (i : ℕ) (u : Update) (n : ℕ) (found : List ℕ) → slice_get us i ≡ Some u → slice_get ns i ≡ Some n → test u ≡ false → IsSoFar test us ns i found → IsSoFar test us ns (i + 1) found
so_far_same test us ns i u n found at also is before = ap (λ (ms : List ℕ). found ++ ms) (sym (beside_at test us ns i u n false at also is)) ∙ before

pub so_far_all : (test : Update → Bool) (us : List Update) (ns : List ℕ) (i : ℕ) (found : List ℕ) → length us ≤ i → IsSoFar test us ns i found → found ≡ beside test us ns
so_far_all test us ns i found past before = sym (append-nil found) ∙ ap (λ (ts : List Update). found ++ beside test ts (drop i ns)) (sym (drop_all i us past)) ∙ before

-- ---- all records

-- those that accept an update that passes, by the places of all that accept one
beside_records : (test : Update → Bool) (n : ℕ) (J : List Record) → beside test (accepted J) (records_where accepts n J) ≡ records_where (λ r. list_any test (accepted_by r)) n J
unfolding records_where
beside_records test n [] = refl
beside_records test n (r ∷ J) = by_updates (accepted_by r) (none_or_one r) (beside_records test (n + 1) J) where
  by_updates : (us : List Update) → (us ≡ []) ⊎ ((u : Update) × (us ≡ u ∷ [])) → beside test (accepted J) (records_where accepts (n + 1) J) ≡ records_where (λ q. list_any test (accepted_by q)) (n + 1) J
      → beside test (us ++ accepted J) (cond (nat_lt 0 (length us)) (n ∷ records_where accepts (n + 1) J) (records_where accepts (n + 1) J))
      ≡ cond (list_any test us) (n ∷ records_where (λ q. list_any test (accepted_by q)) (n + 1) J) (records_where (λ q. list_any test (accepted_by q)) (n + 1) J)
  by_updates [] which rest = rest
  by_updates (u ∷ []) which rest = by_test (test u) where
    by_test : (b : Bool) → cond b (n ∷ beside test (accepted J) (records_where accepts (n + 1) J)) (beside test (accepted J) (records_where accepts (n + 1) J))
        ≡ cond (b || false) (n ∷ records_where (λ q. list_any test (accepted_by q)) (n + 1) J) (records_where (λ q. list_any test (accepted_by q)) (n + 1) J)
    by_test true = ap (λ (ms : List ℕ). n ∷ ms) rest
    by_test false = rest
  by_updates (u ∷ v ∷ us) (inl none) rest = absurd cc
  by_updates (u ∷ v ∷ us) (inr one) rest = absurd (omega (arith, ap length one.1))

-- ---- candidates

-- what is found beside the updates is what there is among the records
pub candidates_are : {E : Type 0} (J : List Record) (us : List Update) (places row : List ℕ) (ids : List (List ℕ)) (reader : ℕ) (result : Result (List ℕ) E) → accepted J ≡ us → places ≡ accept_places J → IsJoinedRow us (places_of us ids) row
    → IfOk result (λ found. (hs : List (List ℕ)) → IsJoinedRow us (places_of us hs) row → found ≡ beside (is_candidate us hs reader) us places) → IfOk result (λ found. found ≡ candidate_places J ids reader)
candidates_are J us places row ids reader (Ok found) all are joined each =
    each ids joined
    ∙ ap (λ (ts : List Update). beside (is_candidate ts ids reader) ts places) (sym all)
    ∙ ap (beside (is_candidate (accepted J) ids reader) (accepted J)) are
    ∙ beside_records (is_candidate (accepted J) ids reader) 0 J
candidates_are J us places row ids reader (Err e) all are joined each = tt
