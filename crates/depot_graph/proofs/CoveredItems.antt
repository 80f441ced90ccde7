-- Which updates are covered by the items that some ids name, and which of them a joined row counts.
use Rattle.std.proofs.Common.{◌≡◌, ℕ, add-one, ◌+◌, ◌<◌, true, false, ◌&&◌, ◌||◌, List, [], ◌∷◌, ◌++◌, length, nat_lt, take, get_or, Some, Option, sym, ap, subst, ◌∙◌, inl, inr, Bool, IsTrue, refl, arith}
use Rattle.std.specs.Prelude.{slice_get, slice_index}
use Rattle.std.specs.Option.{option_to_list}
use Rattle.std.specs.Str.{bytes_eq}
use Rattle.std.proofs.Math.Seq.{take-suc}
use Rattle.std.proofs.lemmas.Bool.{and_from, and_parts, or_cases, or_left, or_right, false_from_ne_true, both_ways, lt-ltb, ltb-true}
use Rattle.std.proofs.lemmas.Option.{slice_get_within}
use Rattle.std.proofs.lemmas.Slice.Eq.{bytes_eq-Decides}
use Rattle.depot_base.specs.declared.update.Update.{Update}
use Rattle.depot_base.proofs.GeneralLaws.{flat_push, at_place}
use Rattle.depot_model.specs.exchange.Bundle.{is_covered}
use Rattle.depot_model.specs.lists.Items.{place_of_id, places_of, PrecedesAt}
use Rattle.depot_model.specs.journals.Journal.{has_id}
use Rattle.depot_model.specs.lists.Lists.{IsIn, is_among}
use Rattle.depot_model.specs.updates.Order.{IsCausal, past}
use Rattle.depot_model.specs.texts.Texts.{id_of_update}
use Rattle.depot_model.proofs.lists.Elements.{in_at}
use Rattle.depot_model.proofs.lists.Members.{any_from, any_to, among_from, among_to}
use Rattle.depot_model.proofs.of_updates.Pasts.{past_of_listed}
use Rattle.depot_order.specs.Spots.{spots, IsSpotAt, chain_count}
use Rattle.depot_order.proofs.Placing.{all_placed}
use Rattle.depot_graph.specs.Kept.{prev_places}
use Rattle.depot_graph.specs.UpdateRows.{IsUpToAt, CountsAllAt, IsJoinedRow}
use Rattle.depot_graph.specs.OrderLaws.{at_both, one_place, precedes_on}
use Rattle.depot_graph.proofs.Front.{has_past, is_past}
use Rattle.depot_graph.proofs.ItemPlaces.{has_place, own_place}
use Rattle.depot_graph.proofs.ClockedItems.{place_of}
use Rattle.depot_graph.proofs.ClockedUpdates.{in_flat, flat_in}
use Rattle.depot_graph.proofs.ChainLeaves.{spots_long}

-- ---- the items of ids

-- what is named is among the updates, and one of the ids is its id
record IsNamed (us : List Update) (ids : List (List ℕ)) (n : ℕ) : Type 0 where
  pub update : Update
  pub at : slice_get us n ≡ Some update
  pub on : IsIn (id_of_update update) ids

named_is : (us : List Update) (ids : List (List ℕ)) (n : ℕ) → IsIn n (places_of us ids) → IsNamed us ids n
named_is us ids n on =
    let g = in_flat (λ h. place_of_id h us) ids n on in
    let p = has_place g.0 us n g.1.1 in
    record { update = p.0; at = p.1.0; on = subst (λ (h : List ℕ). IsIn h ids) (sym p.1.1) g.1.0 }

-- ---- one id more

named_by : (us : List Update) (ids : List (List ℕ)) (i : ℕ) (h : List ℕ) → i < length ids → h ≡ get_or ids i h → places_of us (take (i + 1) ids) ≡ places_of us (take i ids) ++ option_to_list (place_of_id h us)
named_by us ids i h lt is =
    let longer : take (i + 1) ids ≡ take i ids ++ h ∷ [] = rw add-one (take-suc ids i h lt ∙ ap (λ (k : List ℕ). take i ids ++ k ∷ []) (sym is)) in
    ap (places_of us) longer ∙ flat_push (λ (k : List ℕ). option_to_list (place_of_id k us)) (take i ids) h

-- an id that names an item
pub named_more : (us : List Update) (ids : List (List ℕ)) (i : ℕ) (h : List ℕ) (n : ℕ) (items : List ℕ) → i < length ids → h ≡ get_or ids i h → place_of_id h us ≡ Some n → items ≡ places_of us (take i ids) → items ++ n ∷ [] ≡ places_of us (take (i + 1) ids)
named_more us ids i h n items lt is place are = ap (λ (ns : List ℕ). ns ++ n ∷ []) are ∙ ap (λ (o : Option ℕ). places_of us (take i ids) ++ option_to_list o) (sym place) ∙ sym (named_by us ids i h lt is)

-- a place is inside
pub place_within : (us : List Update) (h : List ℕ) (n : ℕ) → place_of_id h us ≡ Some n → n < length us
place_within us h n e = let p = has_place h us n e in slice_get_within us n p.0 p.1.0

-- ---- covering

same_at : (us : List Update) (n : ℕ) (t u : Update) → slice_get us n ≡ Some t → slice_get us n ≡ Some u → t ≡ u
same_at us n t u one two = let both : Some t ≡ Some u = sym one ∙ two in cc

-- what is one of the items of these ids, or precedes one, is covered
pub covered : (us : List Update) (ids : List (List ℕ)) (item n : ℕ) (u : Update) → IsCausal [] us → slice_get us item ≡ Some u → IsIn n (places_of us ids) → IsUpToAt us item n → is_covered us ids u ≡ true
unfolding is_covered
covered us ids item n u c at on how =
    let named = named_is us ids n on in
    let l = named.update in
    let l_in = in_at us n l named.at in
    let up : (bytes_eq (id_of_update u) (id_of_update l) || has_id (past l us) (id_of_update u)) ≡ true = elim how [
      | inl same ↦
          let is : u ≡ l = same_at us n u l (ap (slice_get us) (sym same) ∙ at) named.at in
          or_left _ _ ((bytes_eq-Decides (id_of_update u) (id_of_update l)).1 (ap id_of_update is))
      | inr p ↦
          or_right _ _ (is_past us u l ((past_of_listed us l u c l_in).1 ((at_both us item n u l at named.at).0 p)))
    ] in
    any_from (λ (x : Update). is_among (id_of_update x) ids && (bytes_eq (id_of_update u) (id_of_update x) || has_id (past x us) (id_of_update u))) l us l_in
    (and_from _ _ (among_from (id_of_update l) ids named.on) up)

-- and nothing else
pub uncovered : (us : List Update) (ids : List (List ℕ)) (item : ℕ) (u : Update) → IsCausal [] us → slice_get us item ≡ Some u → ((n : ℕ) → IsIn n (places_of us ids) → IsUpToAt us item n → ⊥) → is_covered us ids u ≡ false
unfolding is_covered
uncovered us ids item u c at apart = false_from_ne_true _ (λ yes.
    let l = any_to (λ (x : Update). is_among (id_of_update x) ids && (bytes_eq (id_of_update u) (id_of_update x) || has_id (past x us) (id_of_update u))) us yes in
    let parts = and_parts (is_among (id_of_update l.0) ids) (bytes_eq (id_of_update u) (id_of_update l.0) || has_id (past l.0 us) (id_of_update u)) l.1.1 in
    let p = place_of us l.0 l.1.0 in
    let on : IsIn p.0 (places_of us ids) = flat_in (λ h. place_of_id h us) ids (id_of_update l.0) p.0 (among_to (id_of_update l.0) ids parts.0) (own_place us p.0 l.0 c p.1) in
    elim (or_cases (bytes_eq (id_of_update u) (id_of_update l.0)) (has_id (past l.0 us) (id_of_update u)) parts.1) [
      | inl same ↦ apart p.0 on (inl (one_place [] us item p.0 u l.0 c at p.1 ((bytes_eq-Decides (id_of_update u) (id_of_update l.0)).0 same)))
      | inr behind ↦ apart p.0 on (inr (u, (at, (l.0, (p.1, (past_of_listed us l.0 u c l.1.0).0 (has_past us u l.0 c (in_at us item u at) behind))))))
    ])

-- ---- joined rows

-- such a row counts an item exactly where that is covered
pub row_covers : (us : List Update) (ids : List (List ℕ)) (row : List ℕ) (item chain place : ℕ) (u : Update) → IsCausal [] us → slice_get us item ≡ Some u → IsSpotAt (prev_places us) item chain place → IsJoinedRow us (places_of us ids) row → is_covered us ids u ≡ nat_lt place (slice_index row chain)
row_covers us ids row item chain place u c at spot joined = by_test (nat_lt place (slice_index row chain)) refl where
  by_test : (told : Bool) → nat_lt place (slice_index row chain) ≡ told → is_covered us ids u ≡ told
  by_test true below = let p = joined.only item chain place spot (ltb-true place (slice_index row chain) below) in covered us ids item p.0 u c at p.1.0 p.1.1
  by_test false above = uncovered us ids item u c at (λ m on up. both_ways (nat_lt place (slice_index row chain)) above (lt-ltb place (slice_index row chain) (joined.counted m item chain place on spot up)))

-- and the row has an entry for its chain
pub chain_inside : (us : List Update) (row : List ℕ) (item chain place : ℕ) → length row ≡ chain_count (prev_places us) → IsSpotAt (prev_places us) item chain place → chain < length row
chain_inside us row item chain place long spot = let low = (all_placed (prev_places us)).chain item (record { chain = chain; place = place }) spot in omega (arith, low, long)

up_through : (us : List Update) (a b c : ℕ) → IsUpToAt us a b → IsUpToAt us b c → IsUpToAt us a c
up_through us a b c (inl same) up = subst (λ (n : ℕ). IsUpToAt us n c) (sym same) up
up_through us a b c (inr before) (inl same) = inr (subst (λ (n : ℕ). PrecedesAt us a n) same before)
up_through us a b c (inr before) (inr after) = inr (precedes_on us a b c before after)

-- and an item with all that precedes it, exactly where that is covered
pub row_counts_covered : (us : List Update) (ids : List (List ℕ)) (row : List ℕ) (item : ℕ) (u : Update) → IsCausal [] us → slice_get us item ≡ Some u → IsJoinedRow us (places_of us ids) row → (told : Bool)
    → (IsTrue told → CountsAllAt us item row) × (CountsAllAt us item row → IsTrue told) → is_covered us ids u ≡ told
row_counts_covered us ids row item u c at joined true tells =
    let s = at_place (spots (prev_places us)) item (omega (arith, spots_long us, slice_get_within us item u at)) in
    let below = tells.0 refl item s.0.chain s.0.place s.1 (inl refl) in
    let p = joined.only item s.0.chain s.0.place s.1 below in
    covered us ids item p.0 u c at p.1.0 p.1.1
row_counts_covered us ids row item u c at joined false tells =
    uncovered us ids item u c at (λ m on up. let hit = tells.1 (λ a chain place at_a up_a. joined.counted m a chain place on at_a (up_through us a item m up_a up)) in absurd cc)
