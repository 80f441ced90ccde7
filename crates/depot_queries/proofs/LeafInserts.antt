-- Leaves with the places of their records, one put in after the other, and how a hello names them.
use Rattle.std.proofs.Common.{◌≡◌, ℕ, zero, suc, ◌+◌, ◌<◌, ◌≤◌, Bool, true, false, cond, not, List, [], ◌∷◌, ◌++◌, length, map, take, get_or, Option, Some, unwrap_or, refl, sym, ap, subst, ◌∙◌, arith, inl, inr, ◌⊎◌, nat_lt}
use Rattle.std.specs.Prelude.{slice_get, Result, Ok, Err, IfOk}
use Rattle.std.specs.List.{filter, position_or_len}
use Rattle.std.specs.BTreeSet.{insert_key}
use Rattle.std.specs.Cmp.Lexicographic.{slice_cmp, nat_list_cmp_total}
use Rattle.std.specs.Ordering.{nat_cmp, ordering_then, ordering_reverse, match_ordering}
use Rattle.std.specs.declared.cmp.Ordering.{Ordering}
use Rattle.std.proofs.lemmas.Bool.{lt-ltb, false_from_ne_true}
use Rattle.std.proofs.lemmas.Cmp.{nat_cmp_total}
use Rattle.std.proofs.lemmas.List.{take_all}
use Rattle.std.proofs.lemmas.Map.Lookups.{exact_bytes}
use Rattle.std.proofs.lemmas.Option.{slice_get-get_or}
use Rattle.depot_base.specs.declared.record.Record.{Record}
use Rattle.depot_base.specs.declared.update.Update.{Update}
use Rattle.depot_model.specs.exchange.Bundle.{records_where}
use Rattle.depot_model.specs.declared.hello.HelloLeaf.{HelloLeaf}
use Rattle.depot_model.specs.exchange.Hello.{record_place, named_leaf, leaves_named}
use Rattle.depot_model.specs.updates.History.{is_lower, put_by_id, by_id, leaves_of}
use Rattle.depot_model.specs.lists.Items.{AreDistinct, AreLeaves, updates_at}
use Rattle.depot_model.specs.journals.Journal.{accepted, accepted_by, has_id}
use Rattle.depot_model.specs.lists.Lists.{IsIn, is_among}
use Rattle.depot_model.specs.updates.Order.{IsCausal}
use Rattle.depot_model.specs.texts.Texts.{id_of_update}
use Rattle.depot_model.proofs.lists.Elements.{in_at, of_place, one_more}
use Rattle.depot_model.proofs.lists.Members.{all_at, all_from, in_left, in_parts, in_right}
use Rattle.depot_model.proofs.of_updates.Orders.{fresh, causal_behind}
use Rattle.depot_model.proofs.lists.RisingLists.{HaveSame}
use Rattle.depot_base.proofs.MembershipLaws.{in_read}
use Rattle.depot_graph.specs.OrderLaws.{one_place}
use Rattle.depot_laws.proofs.records.Causes.{none_or_one}
use Rattle.depot_model.proofs.lists.RisingUpdates.{HaveOwnIds, from_by_id, own_ids_filter, own_ids_from_causal, same_by_id}
use Rattle.depot_model.proofs.of_updates.NamedIds.{has_id_from, has_id_to}
use Rattle.depot_readings.specs.Places.{accepts, accept_places}
use Rattle.depot_graph.specs.PastLeaves.{updates_at_places}
use Rattle.depot_graph.proofs.ChainLeaves.{leaf_within, leaves_stand}
use Rattle.depot_graph.proofs.Sorting.{decided, is_standing, standing_apart, standing_is}
use Rattle.depot_queries.specs.ItemPlaces.{leaf_with_place, name_of}
use Rattle.depot_queries.specs.declared.leaf_order.OrderedLeaf.{OrderedLeaf}

-- ---- where a record accepts an update

no_id : (h : List ℕ) → has_id [] h ≡ false
unfolding has_id
no_id h = refl

-- one update alone has no other id than its own
other_id : (u : Update) (h : List ℕ) → (id_of_update u ≡ h → ⊥) → has_id (u ∷ []) h ≡ false
other_id u h other = false_from_ne_true (has_id (u ∷ []) h) (λ e.
    let w = has_id_to (u ∷ []) h e in
    elim w.1.0 [ inl same ↦ other (ap id_of_update same ∙ w.1.1) | inr never ↦ never ])

-- The place that belongs to an update, where the places begin at n, and that there is one.
record StandsBeside (n : ℕ) (J : List Record) (i : ℕ) (h : List ℕ) : Type 0 where
  pub place : slice_get (records_where accepts n J) i ≡ Some (n + position_or_len (λ r. has_id (accepted_by r) h) J)
  pub below : position_or_len (λ r. has_id (accepted_by r) h) J < length J

place_beside : (ids : List (List ℕ)) (n : ℕ) (J : List Record) (i : ℕ) (t : Update) → IsCausal ids (accepted J) → slice_get (accepted J) i ≡ Some t → StandsBeside n J i (id_of_update t)
unfolding records_where
place_beside ids n [] i t c at = absurd cc
place_beside ids n (r ∷ J) i t c at =
    let stands = by_updates (accepted_by r) (none_or_one r) i c at (λ others k d there. place_beside others (n + 1) J k t d there) in
    record { place = stands.0; below = stands.1 } where
      h : List ℕ
      h = id_of_update t

      later : ℕ
      later = position_or_len (λ q. has_id (accepted_by q) h) J

      behind : List ℕ
      behind = records_where accepts (n + 1) J

      by_updates : (us : List Update) → (us ≡ []) ⊎ ((u : Update) × (us ≡ u ∷ [])) → (k : ℕ) → IsCausal ids (us ++ accepted J) → slice_get (us ++ accepted J) k ≡ Some t
          → ((others : List (List ℕ)) (m : ℕ) → IsCausal others (accepted J) → slice_get (accepted J) m ≡ Some t → StandsBeside (n + 1) J m h)
          → (slice_get (cond (nat_lt 0 (length us)) (n ∷ behind) behind) k ≡ Some (n + cond (not (has_id us h)) (1 + later) 0)) × (cond (not (has_id us h)) (1 + later) 0 < suc (length J))
      by_updates [] which k d there rest =
          let stands = rest ids k d there in
          let next : n + 1 + later ≡ n + (1 + later) = omega arith in
          rw (no_id h) (stands.place ∙ ap (λ (m : ℕ). Some m) next, omega (arith, stands.below))
      by_updates (u ∷ []) which zero d there rest =
          let same : u ≡ t = cc in
          let first : n ≡ n + 0 = omega arith in
          rw (has_id_from (u ∷ []) h u (inl refl) (ap id_of_update same)) (ap (λ (m : ℕ). Some m) first, omega arith)
      by_updates (u ∷ []) which (suc k) d there rest =
          let after = causal_behind ids u (accepted J) d in
          let stands = rest (id_of_update u ∷ ids) k after there in
          let next : n + 1 + later ≡ n + (1 + later) = omega arith in
          rw (other_id u h (λ same. fresh (id_of_update u ∷ ids) (accepted J) t after (in_at (accepted J) k t there) (inl same)))
          (stands.place ∙ ap (λ (m : ℕ). Some m) next, omega (arith, stands.below))
      by_updates (u ∷ v ∷ us) (inl none) k d there rest = absurd cc
      by_updates (u ∷ v ∷ us) (inr one) k d there rest = absurd (omega (arith, ap length one.1))

-- the place that is kept for an item is that of its update's record
pub place_at : (J : List Record) (us : List Update) (places : List ℕ) (i : ℕ) (t : Update) (place : ℕ) → accepted J ≡ us → IsCausal [] us → places ≡ accept_places J → slice_get us i ≡ Some t → slice_get places i ≡ Some place
    → record_place J (id_of_update t) ≡ Some place
unfolding record_place
place_at J us places i t place all c are at there =
    let stands = place_beside [] 0 J i t (subst (λ (xs : List Update). IsCausal [] xs) (sym all) c) (ap (λ (xs : List Update). slice_get xs i) all ∙ at) in
    let same : Some (0 + position_or_len (λ r. has_id (accepted_by r) (id_of_update t)) J) ≡ Some place = sym stands.place ∙ (ap (λ (ns : List ℕ). slice_get ns i) (sym are) ∙ there) in
    let is : 0 + position_or_len (λ r. has_id (accepted_by r) (id_of_update t)) J ≡ place = cc in
    rw (lt-ltb _ _ stands.below) (ap (λ (k : ℕ). Some k) (omega (arith, is)))

-- ---- the order of leaves

abbrev pub leaf_cmp : OrderedLeaf → OrderedLeaf → Ordering
leaf_cmp a b = ordering_then (nat_cmp a.writer b.writer) (ordering_then (slice_cmp nat_cmp a.id b.id) (nat_cmp a.place b.place))

-- a leaf is put in where its update is
insert_leaf : (J : List Record) (t : Update) (ts : List Update) → ((u : Update) → IsIn u ts → id_of_update u ≡ id_of_update t → ⊥) → insert_key leaf_cmp (map (leaf_with_place J) ts) (leaf_with_place J t) ≡ map (leaf_with_place J) (put_by_id t ts)
unfolding put_by_id
insert_leaf J t [] apart = refl
insert_leaf J t (u ∷ ts) apart =
    let rest = nat_cmp (leaf_with_place J t).place (leaf_with_place J u).place in
    let before = leaf_with_place J t ∷ leaf_with_place J u ∷ map (leaf_with_place J) ts in
    let same = leaf_with_place J u ∷ map (leaf_with_place J) ts in
    let behind = leaf_with_place J u ∷ insert_key leaf_cmp (map (leaf_with_place J) ts) (leaf_with_place J t) in
    let writers_turned : nat_cmp t.writer u.writer ≡ ordering_reverse (nat_cmp u.writer t.writer) = nat_cmp_total.antisymm t.writer u.writer in
    let ids_turned : slice_cmp nat_cmp (id_of_update t) (id_of_update u) ≡ ordering_reverse (slice_cmp nat_cmp (id_of_update u) (id_of_update t)) = nat_list_cmp_total.antisymm (id_of_update t) (id_of_update u) in
    ap (λ (o : Ordering). match_ordering (ordering_then o (ordering_then (slice_cmp nat_cmp (id_of_update t) (id_of_update u)) rest)) before same behind) writers_turned
    ∙ ap (λ (o : Ordering). match_ordering (ordering_then (ordering_reverse (nat_cmp u.writer t.writer)) (ordering_then o rest)) before same behind) ids_turned
    ∙ decided (nat_cmp u.writer t.writer) (slice_cmp nat_cmp (id_of_update u) (id_of_update t)) rest before same behind (λ e. apart u (inl refl) (exact_bytes (id_of_update u) (id_of_update t) e))
    ∙ through (is_lower u t) (insert_leaf J t ts (λ w on. apart w (inr on))) where
      through : (b : Bool) → insert_key leaf_cmp (map (leaf_with_place J) ts) (leaf_with_place J t) ≡ map (leaf_with_place J) (put_by_id t ts)
          → cond b (leaf_with_place J u ∷ insert_key leaf_cmp (map (leaf_with_place J) ts) (leaf_with_place J t)) (leaf_with_place J t ∷ leaf_with_place J u ∷ map (leaf_with_place J) ts) ≡ map (leaf_with_place J) (cond b (u ∷ put_by_id t ts) (t ∷ u ∷ ts))
      through true later = ap (λ (ls : List OrderedLeaf). leaf_with_place J u ∷ ls) later
      through false later = refl

-- ---- one leaf after the other

-- what an index inside gives for want of an entry doesn't matter
same_entry : (ns : List ℕ) (i a b : ℕ) → i < length ns → get_or ns i a ≡ get_or ns i b
same_entry ns i a b low = let both : Some (get_or ns i a) ≡ Some (get_or ns i b) = sym (slice_get-get_or ns i a low) ∙ slice_get-get_or ns i b low in cc

-- a leaf is one of the items
pub leaf_inside : (us : List Update) (items : List ℕ) (i : ℕ) → AreLeaves us items → i < length items → get_or items i 0 < length us
leaf_inside us items i are lt = let n = get_or items i 0 in leaf_within us items n are (in_read n items i lt (same_entry items i n 0 lt))

-- numbers of which no two are one: the next is none of those before
none_before : (ns : List ℕ) (i n : ℕ) → AreDistinct ns → i < length ns → n ≡ get_or ns i 0 → IsIn n (take i ns) → ⊥
none_before [] i n once lt is on = absurd (omega (arith, lt))
none_before (m ∷ ns) zero n once lt is never = absurd never
none_before (m ∷ ns) (suc i) n once lt is (inl here) = all_at (λ (k : ℕ). k ≡ m → ⊥) ns n once.0 (in_read n ns i (omega (arith, lt)) (same_entry ns i n 0 (omega (arith, lt)) ∙ sym is)) (sym here)
none_before (m ∷ ns) (suc i) n once lt is (inr there) = none_before ns i n once.1 (omega (arith, lt)) is there

-- the members, with the update of one place more
one_stands : (us : List Update) (front more : List ℕ) (t : Update) → IsCausal [] us → updates_at us more ≡ updates_at us front ++ t ∷ [] → HaveSame (t ∷ updates_at_places us front) (updates_at_places us more)
one_stands us front more t c are = record {
  to = λ u on. is_standing us more u (subst (λ (ts : List Update). IsIn u ts) (sym are) (elim on [
    | inl here ↦ in_right u (updates_at us front) (t ∷ []) (inl here)
    | inr old ↦ in_left u (updates_at us front) (t ∷ []) (standing_is us front u c old)
  ]));
  back = λ u on. elim (in_parts u (updates_at us front) (t ∷ []) (subst (λ (ts : List Update). IsIn u ts) are (standing_is us more u c on))) [
    | inl old ↦ inr (is_standing us front u old)
    | inr new ↦ elim new [ inl here ↦ inl here | inr never ↦ absurd never ]
  ];
}

pub leaves_begin : (J : List Record) (us : List Update) (keys : List OrderedLeaf) → keys ≡ [] → keys ≡ map (leaf_with_place J) (by_id (updates_at_places us []))
unfolding by_id
leaves_begin J us keys none = none ∙ ap (λ (ts : List Update). map (leaf_with_place J) (by_id ts)) (sym (none_stands us)) where
  none_stands : (ts : List Update) → filter (λ (u : Update). is_among (id_of_update u) []) ts ≡ []
  none_stands [] = refl
  none_stands (t ∷ ts) = none_stands ts

-- the leaf that is put in is that of the update there
made_leaf : (J : List Record) (us : List Update) (places : List ℕ) (n : ℕ) (t : Update) (place : ℕ) (leaf : OrderedLeaf) → accepted J ≡ us → IsCausal [] us → places ≡ accept_places J → slice_get us n ≡ Some t → slice_get places n ≡ Some place
    → leaf ≡ record { writer = t.writer; id = id_of_update t; place = place } → leaf ≡ leaf_with_place J t
made_leaf J us places n t place leaf all c are at there made =
    let kept : place ≡ unwrap_or (record_place J (id_of_update t)) 0 = ap (λ (o : Option ℕ). unwrap_or o 0) (sym (place_at J us places n t place all c are at there)) in
    made ∙ ap (λ (p : ℕ). record { writer = t.writer; id = id_of_update t; place = p }) kept

-- with the next leaf
pub leaves_more : (J : List Record) (us : List Update) (places items : List ℕ) (i n : ℕ) (t : Update) (place : ℕ) (leaf : OrderedLeaf) (keys new : List OrderedLeaf) → accepted J ≡ us → IsCausal [] us → places ≡ accept_places J → AreDistinct items → i < length items → n ≡ get_or items i 0 → slice_get us n ≡ Some t
    → slice_get places n ≡ Some place → leaf ≡ record { writer = t.writer; id = id_of_update t; place = place } → keys ≡ map (leaf_with_place J) (by_id (updates_at_places us (take i items))) → new ≡ insert_key leaf_cmp keys leaf → new ≡ map (leaf_with_place J) (by_id (updates_at_places us (take (i + 1) items)))
unfolding by_id
leaves_more J us places items i n t place leaf keys new all c are once lt is at there made kept now =
    now ∙ ap (insert_key leaf_cmp keys) (made_leaf J us places n t place leaf all c are at there made) ∙ ap (λ (ls : List OrderedLeaf). insert_key leaf_cmp ls (leaf_with_place J t)) kept
    ∙ insert_leaf J t (by_id old) (λ u on. apart_from u (from_by_id u old on))
    ∙ ap (map (leaf_with_place J)) (same_by_id (t ∷ old) (updates_at_places us (take (i + 1) items)) (all_from (λ (u : Update). id_of_update u ≡ id_of_update t → ⊥) old apart_from, standing_apart us (take i items) c) (standing_apart us (take (i + 1) items) c)
    (one_stands us (take i items) (take (i + 1) items) t c (one_more us items i n t lt is at))) where
      old : List Update
      old = updates_at_places us (take i items)

      apart_from : (u : Update) → IsIn u old → id_of_update u ≡ id_of_update t → ⊥
      apart_from u on same =
          let p = of_place us (take i items) u (standing_is us (take i items) u c on) in
          none_before items i n once lt is (subst (λ (k : ℕ). IsIn k (take i items)) (one_place [] us p.0 n u t c p.1.1 at same) p.1.0)

leaves_apart : (us : List Update) → HaveOwnIds us → HaveOwnIds (leaves_of us)
unfolding leaves_of
leaves_apart us apart = own_ids_filter _ us apart

-- with all leaves
pub leaves_end : (J : List Record) (us : List Update) (items : List ℕ) (i : ℕ) (keys : List OrderedLeaf) → accepted J ≡ us → IsCausal [] us → AreLeaves us items → length items ≤ i → keys ≡ map (leaf_with_place J) (by_id (updates_at_places us (take i items))) → keys ≡ map (leaf_with_place J) (by_id (leaves_of (accepted J)))
leaves_end J us items i keys all c are past kept =
    kept ∙ ap (λ (ns : List ℕ). map (leaf_with_place J) (by_id (updates_at_places us ns))) (take_all i items past)
    ∙ ap (map (leaf_with_place J)) (same_by_id (updates_at_places us items) (leaves_of us) (standing_apart us items c) (leaves_apart us (own_ids_from_causal [] us c)) (leaves_stand us items c are))
    ∙ ap (λ (ts : List Update). map (leaf_with_place J) (by_id (leaves_of ts))) (sym all)

-- ---- their names

names_of : (J : List Record) (ts : List Update) → map name_of (map (leaf_with_place J) ts) ≡ map named_leaf ts
names_of J [] = refl
names_of J (t ∷ ts) = ap (λ (ls : List HelloLeaf). named_leaf t ∷ ls) (names_of J ts)

-- so it is with what a call gives
pub told_names : {E : Type 0} (J : List Record) (leaves : List OrderedLeaf) (result : Result (List HelloLeaf) E) → leaves ≡ map (leaf_with_place J) (by_id (leaves_of (accepted J)))
    → IfOk result (λ names. names ≡ map name_of leaves) → IfOk result (λ names. names ≡ leaves_named J)
told_names J leaves (Ok names) kept are = are ∙ ap (map name_of) kept ∙ names_of J (by_id (leaves_of (accepted J)))
told_names J leaves (Err e) kept are = tt
