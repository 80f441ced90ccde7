-- Leaves in order by writer and id, one put in after the other.
use Rattle.std.proofs.Common.{◌≡◌, ℕ, ◌+◌, ◌<◌, Bool, true, false, cond, List, [], ◌∷◌, ◌++◌, length, map, take, get_or, Option, Some, unwrap_or, refl, sym, ap, subst, ◌∙◌, inl, inr}
use Rattle.std.specs.Prelude.{slice_get}
use Rattle.std.specs.List.{filter}
use Rattle.std.specs.declared.cmp.Ordering.{Ordering}
use Rattle.std.specs.declared.cmp.Ordering.TheVariants.{Less, Equal, Greater}
use Rattle.std.specs.Ordering.{nat_cmp, is_lt, ordering_then, ordering_reverse, match_ordering}
use Rattle.std.specs.Cmp.Lexicographic.{slice_cmp, nat_list_cmp_total}
use Rattle.std.specs.BTreeSet.{insert_key}
use Rattle.std.proofs.lemmas.Cmp.{nat_cmp_total}
use Rattle.std.proofs.lemmas.Map.Lookups.{exact_bytes}
use Rattle.depot_base.specs.declared.update.Update.{Update}
use Rattle.depot_model.specs.lists.Lists.{IsIn, is_among}
use Rattle.depot_model.specs.texts.Texts.{id_of_update}
use Rattle.depot_model.specs.updates.Order.{IsCausal}
use Rattle.depot_model.specs.updates.History.{is_lower, put_by_id, by_id}
use Rattle.depot_model.specs.lists.Items.{at, place_of_id, updates_at}
use Rattle.depot_model.proofs.lists.Elements.{in_at, one_more}
use Rattle.depot_model.proofs.lists.Members.{in_parts, in_left, in_right, in_map, from_map, from_filter, in_filter, among_from, among_to, all_at, all_from}
use Rattle.depot_model.proofs.of_updates.Orders.{one_of_id}
use Rattle.depot_model.proofs.lists.RisingLists.{HaveSame}
use Rattle.depot_model.proofs.lists.RisingUpdates.{HaveOwnIds, own_ids_from_causal, own_ids_filter, Rises, rises_by_id, from_by_id, in_by_id, same_by_id}
use Rattle.depot_graph.specs.declared.leaf.Leaf.{Leaf}
use Rattle.depot_graph.specs.PastLeaves.{leaf_in, updates_at_places}
use Rattle.depot_graph.proofs.ItemPlaces.{own_place}
use Rattle.depot_graph.proofs.Reaching.{of_places, at_places}

-- the order of leaves
abbrev pub leaf_cmp : Leaf → Leaf → Ordering
leaf_cmp a b = ordering_then (nat_cmp a.writer b.writer) (ordering_then (slice_cmp nat_cmp a.id b.id) (ordering_then (nat_cmp a.clock b.clock) (nat_cmp a.item b.item)))

-- which of the two comes first
pub decided : {X : Type 0} (p q rest : Ordering) (before same behind : X) → (q ≡ Equal → ⊥)
    → match_ordering (ordering_then (ordering_reverse p) (ordering_then (ordering_reverse q) rest)) before same behind ≡ cond (is_lt (ordering_then p q)) behind before
decided Less q rest before same behind apart = refl
decided Greater q rest before same behind apart = refl
decided Equal Less rest before same behind apart = refl
decided Equal Greater rest before same behind apart = refl
decided Equal Equal rest before same behind apart = absurd (apart refl)

-- a leaf is put in where its update is
pub insert_put : (us : List Update) (t : Update) (ts : List Update) → ((u : Update) → IsIn u ts → id_of_update u ≡ id_of_update t → ⊥)
    → insert_key leaf_cmp (map (leaf_in us) ts) (leaf_in us t) ≡ map (leaf_in us) (put_by_id t ts)
unfolding put_by_id
insert_put us t [] apart = refl
insert_put us t (u ∷ ts) apart =
    let rest = ordering_then (nat_cmp t.clock u.clock) (nat_cmp (leaf_in us t).item (leaf_in us u).item) in
    let before = leaf_in us t ∷ leaf_in us u ∷ map (leaf_in us) ts in
    let same = leaf_in us u ∷ map (leaf_in us) ts in
    let behind = leaf_in us u ∷ insert_key leaf_cmp (map (leaf_in us) ts) (leaf_in us t) in
    let ids = slice_cmp nat_cmp (id_of_update t) (id_of_update u) in
    let writers_turned : nat_cmp t.writer u.writer ≡ ordering_reverse (nat_cmp u.writer t.writer) = nat_cmp_total.antisymm t.writer u.writer in
    let ids_turned : slice_cmp nat_cmp (id_of_update t) (id_of_update u) ≡ ordering_reverse (slice_cmp nat_cmp (id_of_update u) (id_of_update t)) = nat_list_cmp_total.antisymm (id_of_update t) (id_of_update u) in
    ap (λ (o : Ordering). match_ordering (ordering_then o (ordering_then (slice_cmp nat_cmp (id_of_update t) (id_of_update u)) rest)) before same behind) writers_turned
    ∙ ap (λ (o : Ordering). match_ordering (ordering_then (ordering_reverse (nat_cmp u.writer t.writer)) (ordering_then o rest)) before same behind) ids_turned
    ∙ decided (nat_cmp u.writer t.writer) (slice_cmp nat_cmp (id_of_update u) (id_of_update t)) rest before same behind (λ e. apart u (inl refl) (exact_bytes (id_of_update u) (id_of_update t) e))
    ∙ through (is_lower u t) (insert_put us t ts (λ w on. apart w (inr on))) where
      through : (b : Bool) → insert_key leaf_cmp (map (leaf_in us) ts) (leaf_in us t) ≡ map (leaf_in us) (put_by_id t ts)
          → cond b (leaf_in us u ∷ insert_key leaf_cmp (map (leaf_in us) ts) (leaf_in us t)) (leaf_in us t ∷ leaf_in us u ∷ map (leaf_in us) ts) ≡ map (leaf_in us) (cond b (u ∷ put_by_id t ts) (t ∷ u ∷ ts))
      through true later = ap (λ (ls : List Leaf). leaf_in us u ∷ ls) later
      through false later = refl

-- ---- what is in already

-- the lower one comes first
stays_behind : {X : Type 0} (p q rest : Ordering) (before same behind : X) → is_lt (ordering_then p q) ≡ true
    → match_ordering (ordering_then (ordering_reverse p) (ordering_then (ordering_reverse q) rest)) before same behind ≡ behind
stays_behind Less q rest before same behind e = refl
stays_behind Greater q rest before same behind e = absurd cc
stays_behind Equal Less rest before same behind e = refl
stays_behind Equal Greater rest before same behind e = absurd cc
stays_behind Equal Equal rest before same behind e = absurd cc

-- an order of its own reverse is of equals
level : (o : Ordering) → o ≡ ordering_reverse o → o ≡ Equal
level Less e = absurd cc
level Equal e = refl
level Greater e = absurd cc

leaf_level : (l : Leaf) → leaf_cmp l l ≡ Equal
leaf_level l =
    let writers : nat_cmp l.writer l.writer ≡ Equal = level _ (nat_cmp_total.antisymm l.writer l.writer) in
    let ids : slice_cmp nat_cmp l.id l.id ≡ Equal = level _ (nat_list_cmp_total.antisymm l.id l.id) in
    let clocks : nat_cmp l.clock l.clock ≡ Equal = level _ (nat_cmp_total.antisymm l.clock l.clock) in
    let items : nat_cmp l.item l.item ≡ Equal = level _ (nat_cmp_total.antisymm l.item l.item) in
    rw (writers, ids, clocks, items) refl

-- a leaf that is there is put in nowhere
insert_same : (us : List Update) (t : Update) (ts : List Update) → Rises ts → IsIn t ts → insert_key leaf_cmp (map (leaf_in us) ts) (leaf_in us t) ≡ map (leaf_in us) ts
insert_same us t [] rise never = absurd never
insert_same us t (u ∷ ts) rise (inl here) =
    let before = leaf_in us t ∷ leaf_in us u ∷ map (leaf_in us) ts in
    let same = leaf_in us u ∷ map (leaf_in us) ts in
    let behind = leaf_in us u ∷ insert_key leaf_cmp (map (leaf_in us) ts) (leaf_in us t) in
    let level_here : leaf_cmp (leaf_in us t) (leaf_in us u) ≡ Equal = ap (λ (x : Update). leaf_cmp (leaf_in us t) (leaf_in us x)) here ∙ leaf_level (leaf_in us t) in
    ap (λ (o : Ordering). match_ordering o before same behind) level_here
insert_same us t (u ∷ ts) rise (inr there) =
    let rest = ordering_then (nat_cmp t.clock u.clock) (nat_cmp (leaf_in us t).item (leaf_in us u).item) in
    let before = leaf_in us t ∷ leaf_in us u ∷ map (leaf_in us) ts in
    let same = leaf_in us u ∷ map (leaf_in us) ts in
    let behind = leaf_in us u ∷ insert_key leaf_cmp (map (leaf_in us) ts) (leaf_in us t) in
    let writers_turned : nat_cmp t.writer u.writer ≡ ordering_reverse (nat_cmp u.writer t.writer) = nat_cmp_total.antisymm t.writer u.writer in
    let ids_turned : slice_cmp nat_cmp (id_of_update t) (id_of_update u) ≡ ordering_reverse (slice_cmp nat_cmp (id_of_update u) (id_of_update t)) = nat_list_cmp_total.antisymm (id_of_update t) (id_of_update u) in
    ap (λ (o : Ordering). match_ordering (ordering_then o (ordering_then (slice_cmp nat_cmp (id_of_update t) (id_of_update u)) rest)) before same behind) writers_turned
    ∙ ap (λ (o : Ordering). match_ordering (ordering_then (ordering_reverse (nat_cmp u.writer t.writer)) (ordering_then o rest)) before same behind) ids_turned
    ∙ stays_behind (nat_cmp u.writer t.writer) (slice_cmp nat_cmp (id_of_update u) (id_of_update t)) rest before same behind (all_at (λ (x : Update). is_lower u x ≡ true) ts t rise.0 there)
    ∙ ap (λ (ls : List Leaf). leaf_in us u ∷ ls) (insert_same us t ts rise.1 there)

-- ---- what is at some places

-- those that are at some places are the updates there
pub standing_is : (us : List Update) (places : List ℕ) (t : Update) → IsCausal [] us → IsIn t (updates_at_places us places) → IsIn t (updates_at us places)
standing_is us places t c on =
    let f = from_filter (λ (u : Update). is_among (id_of_update u) (map id_of_update (updates_at us places))) t us on in
    of_places us places t c f.0 (among_to (id_of_update t) (map id_of_update (updates_at us places)) f.1)

pub is_standing : (us : List Update) (places : List ℕ) (t : Update) → IsIn t (updates_at us places) → IsIn t (updates_at_places us places)
is_standing us places t on =
    in_filter (λ (u : Update). is_among (id_of_update u) (map id_of_update (updates_at us places))) t us (at_places us places t on)
    (among_from (id_of_update t) (map id_of_update (updates_at us places)) (in_map id_of_update t (updates_at us places) on))

pub standing_apart : (us : List Update) (places : List ℕ) → IsCausal [] us → HaveOwnIds (updates_at_places us places)
standing_apart us places c = own_ids_filter (λ (u : Update). is_among (id_of_update u) (map id_of_update (updates_at us places))) us (own_ids_from_causal [] us c)

-- what is sorted is of the list
pub sorted_within : (us : List Update) (places : List ℕ) (t : Update) → IsIn t (by_id (updates_at_places us places)) → IsIn t us
sorted_within us places t on = (from_filter (λ (u : Update). is_among (id_of_update u) (map id_of_update (updates_at us places))) t us (from_by_id t (updates_at_places us places) on)).0

-- ---- one place after the other

pub sort_begins : (us : List Update) (keys : List Leaf) → keys ≡ [] → keys ≡ map (leaf_in us) (by_id (updates_at_places us []))
unfolding by_id
sort_begins us keys none = none ∙ ap (λ (ts : List Update). map (leaf_in us) (by_id ts)) (sym (none_stands us)) where
  none_stands : (ts : List Update) → filter (λ (u : Update). is_among (id_of_update u) []) ts ≡ []
  none_stands [] = refl
  none_stands (t ∷ ts) = none_stands ts

-- the members then, where t came before and where it didn't
more_same : (us : List Update) (front more : List ℕ) (t : Update) → IsCausal [] us → updates_at us more ≡ updates_at us front ++ t ∷ [] → IsIn t (updates_at_places us front) → HaveSame (updates_at_places us front) (updates_at_places us more)
more_same us front more t c are there = record {
  to = λ u on. is_standing us more u (subst (λ (ts : List Update). IsIn u ts) (sym are) (in_left u (updates_at us front) (t ∷ []) (standing_is us front u c on)));
  back = λ u on. elim (in_parts u (updates_at us front) (t ∷ []) (subst (λ (ts : List Update). IsIn u ts) are (standing_is us more u c on))) [
    | inl old ↦ is_standing us front u old
    | inr new ↦ elim new [ inl here ↦ subst (λ (x : Update). IsIn x (updates_at_places us front)) here there | inr never ↦ absurd never ]
  ];
}

more_new : (us : List Update) (front more : List ℕ) (t : Update) → IsCausal [] us → updates_at us more ≡ updates_at us front ++ t ∷ [] → HaveSame (t ∷ updates_at_places us front) (updates_at_places us more)
more_new us front more t c are = record {
  to = λ u on. is_standing us more u (subst (λ (ts : List Update). IsIn u ts) (sym are) (elim on [
    | inl here ↦ in_right u (updates_at us front) (t ∷ []) (inl here)
    | inr old ↦ in_left u (updates_at us front) (t ∷ []) (standing_is us front u c old)
  ]));
  back = λ u on. elim (in_parts u (updates_at us front) (t ∷ []) (subst (λ (ts : List Update). IsIn u ts) are (standing_is us more u c on))) [
    | inl old ↦ inr (is_standing us front u old)
    | inr new ↦ elim new [ inl here ↦ inl here | inr never ↦ absurd never ]
  ];
}

pub sort_more : (us : List Update) (places : List ℕ) (i n : ℕ) (t : Update) (keys new : List Leaf) → IsCausal [] us → i < length places → n ≡ get_or places i 0 → slice_get us n ≡ Some t
    → keys ≡ map (leaf_in us) (by_id (updates_at_places us (take i places))) → new ≡ insert_key leaf_cmp keys (leaf_in us t) → new ≡ map (leaf_in us) (by_id (updates_at_places us (take (i + 1) places)))
unfolding by_id
sort_more us places i n t keys new c lt is at_n are now = by_test (is_among (id_of_update t) (map id_of_update (updates_at_places us (take i places)))) refl where
  old : List Update
  old = updates_at_places us (take i places)

  put : new ≡ insert_key leaf_cmp (map (leaf_in us) (by_id old)) (leaf_in us t)
  put = now ∙ ap (λ (ls : List Leaf). insert_key leaf_cmp ls (leaf_in us t)) are

  longer : updates_at us (take (i + 1) places) ≡ updates_at us (take i places) ++ t ∷ []
  longer = one_more us places i n t lt is at_n

  by_test : (b : Bool) → is_among (id_of_update t) (map id_of_update old) ≡ b → new ≡ map (leaf_in us) (by_id (updates_at_places us (take (i + 1) places)))
  by_test true there =
      let u = from_map id_of_update (id_of_update t) old (among_to (id_of_update t) (map id_of_update old) there) in
      let t_in = in_at us n t at_n in
      let same : u.0 ≡ t = one_of_id [] us u.0 t c (from_filter (λ (x : Update). is_among (id_of_update x) (map id_of_update (updates_at us (take i places)))) u.0 us u.1.0).0 t_in u.1.1 in
      let on : IsIn t old = subst (λ (x : Update). IsIn x old) same u.1.0 in
      put ∙ insert_same us t (by_id old) (rises_by_id old (standing_apart us (take i places) c)) (in_by_id t old on)
      ∙ ap (map (leaf_in us)) (same_by_id old (updates_at_places us (take (i + 1) places)) (standing_apart us (take i places) c) (standing_apart us (take (i + 1) places) c) (more_same us (take i places) (take (i + 1) places) t c longer on))
  by_test false new_id =
      let apart : (u : Update) → IsIn u old → id_of_update u ≡ id_of_update t → ⊥ = λ u on same. let hit = among_from (id_of_update t) (map id_of_update old) (subst (λ (h : List ℕ). IsIn h (map id_of_update old)) same (in_map id_of_update u old on)) in absurd cc in
      put ∙ insert_put us t (by_id old) (λ u on. apart u (from_by_id u old on))
      ∙ ap (map (leaf_in us)) (same_by_id (t ∷ old) (updates_at_places us (take (i + 1) places)) (all_from (λ (u : Update). id_of_update u ≡ id_of_update t → ⊥) old apart, standing_apart us (take i places) c) (standing_apart us (take (i + 1) places) c) (more_new us (take i places) (take (i + 1) places) t c longer))

-- ---- what is at a place

-- the leaf made at a place is that of the update there
pub made_at : (us : List Update) (n : ℕ) (t : Update) (id : List ℕ) → IsCausal [] us → slice_get us n ≡ Some t → id ≡ id_of_update t
    → record { writer = t.writer; id = id; clock = t.clock; item = n } ≡ leaf_in us t
made_at us n t id c at same =
    let place = own_place us n t c at in
    let item : unwrap_or (place_of_id (id_of_update t) us) 0 ≡ n = ap (λ (o : Option ℕ). unwrap_or o 0) place in
    rw (same, item) refl

-- what holds at a place holds of the update there
pub at_gives : (us : List Update) (n : ℕ) (t : Update) (P : Update → Type 0) → slice_get us n ≡ Some t → at us n P → P t
at_gives us n t P e here = let there : slice_get us n ≡ Some here.0 = here.1.0 in let same : here.0 ≡ t = cc in subst P same here.1.1

pub at_is : (us : List Update) (n : ℕ) (t : Update) (P : Update → Type 0) → slice_get us n ≡ Some t → P t → at us n P
at_is us n t P e here = (t, (e, here))
