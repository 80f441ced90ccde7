-- The leaves of a past on the chains of the forest by prev.
use Rattle.std.proofs.Common.{◌≡◌, ℕ, zero, suc, ◌+◌, ◌-◌, ◌<◌, ◌≤◌, nat_lt, slice_index, Bool, true, false, cond, not, List, [], ◌∷◌, ◌++◌, length, Option, Some, None, option_map, refl, sym, ap, subst, ◌∙◌, arith, inl, inr}
use Rattle.std.specs.Prelude.{slice_get}
use Rattle.std.specs.Str.{bytes_eq}
use Rattle.std.proofs.lemmas.Bool.{not-true, false_from_ne_true, ltb-true, ltb-false}
use Rattle.std.proofs.lemmas.List.{length-map}
use Rattle.std.proofs.lemmas.Option.{slice_get-map, slice_get_within}
use Rattle.depot_base.specs.Zeros.{zeros}
use Rattle.depot_base.specs.declared.update.Update.{Update}
use Rattle.depot_model.specs.lists.Lists.{IsIn, is_among}
use Rattle.depot_model.specs.texts.Texts.{id_of_update}
use Rattle.depot_model.specs.updates.Order.{IsCausal, Precedes, parents, prevs}
use Rattle.depot_model.specs.updates.History.{is_prev_in, leaves_of}
use Rattle.depot_model.specs.lists.Items.{AreLeaves, places_where, place_of_id, place_of_prev, children_of, children_by}
use Rattle.depot_model.proofs.lists.Elements.{in_at, both_at, of_place, at_its_place}
use Rattle.depot_model.proofs.lists.Members.{in_left, in_pushed, in_last, any_from, any_to, among_from, among_to, chosen_cases, chosen_front, chosen_behind, from_filter, in_filter}
use Rattle.depot_model.proofs.of_updates.Orders.{first_names_none, causal_behind}
use Rattle.depot_model.proofs.lists.RisingLists.{HaveSame}
use Rattle.depot_order.specs.Spots.{IsForest, IsTip, IsSpotAt, spots, chain_count}
use Rattle.depot_order.proofs.Placing.{all_placed, back_by, tip_is_highest}
use Rattle.depot_graph.specs.Kept.{prev_places}
use Rattle.depot_graph.specs.UpdateRows.{IsJoinedRow}
use Rattle.depot_graph.specs.OrderLaws.{one_place}
use Rattle.depot_base.proofs.GeneralLaws.{at_place}
use Rattle.depot_graph.proofs.ClockedItems.{place_of}
use Rattle.depot_graph.specs.Closure.{closure_of}
use Rattle.depot_graph.specs.PastLeaves.{updates_at_places}
use Rattle.depot_graph.specs.PastChains.{IsCovered, IsLastOfChain, AreLast, IsLastCounted}
use Rattle.depot_graph.proofs.ItemPlaces.{has_place, below_more}
use Rattle.depot_graph.proofs.Reaching.{closure_in, closure_precedes, precedes_closure}
use Rattle.depot_graph.proofs.Sorting.{standing_is, is_standing}

-- ---- the places where a test holds

-- an update that passes the test is there, this many places after the first, which has the number n
record IsWhere (test : Update → Bool) (n : ℕ) (us : List Update) (m : ℕ) : Type 0 where
  pub place : ℕ
  pub is : m ≡ n + place
  pub update : Update
  pub at : slice_get us place ≡ Some update
  pub passes : test update ≡ true

where_is : (test : Update → Bool) (n : ℕ) (us : List Update) (m : ℕ) → IsIn m (places_where test n us) → IsWhere test n us m
unfolding places_where
where_is test n [] m never = absurd never
where_is test n (x ∷ xs) m on = elim (chosen_cases (test x) m n (places_where test (n + 1) xs) on) [
  | inl here ↦ record { place = 0; is = omega (arith, here.1); update = x; at = refl; passes = here.0 }
  | inr there ↦ let p = where_is test (n + 1) xs m there in record { place = suc p.place; is = omega (arith, p.is); update = p.update; at = p.at; passes = p.passes }
]

where_in : (test : Update → Bool) (n : ℕ) (us : List Update) (i : ℕ) (u : Update) → slice_get us i ≡ Some u → test u ≡ true → IsIn (n + i) (places_where test n us)
unfolding places_where
where_in test n [] i u at e = absurd cc
where_in test n (x ∷ xs) zero u at e =
    let same : x ≡ u = cc in
    chosen_front (test x) (n + 0) n (places_where test (n + 1) xs) (ap test same ∙ e) (omega arith)
where_in test n (x ∷ xs) (suc i) u at e =
    let place : n + 1 + i ≡ n + suc i = omega arith in
    chosen_behind (test x) (n + suc i) n (places_where test (n + 1) xs) (subst (λ (m : ℕ). IsIn m (places_where test (n + 1) xs)) place (where_in test (n + 1) xs i u at e))

-- the same from the first place on
stands_where : (test : Update → Bool) (us : List Update) (n : ℕ) → IsIn n (places_where test 0 us) → (u : Update) × ((slice_get us n ≡ Some u) × (test u ≡ true))
stands_where test us n on =
    let w = where_is test 0 us n on in
    let same : n ≡ w.place = omega (arith, w.is) in
    (w.update, (ap (slice_get us) same ∙ w.at, w.passes))

where_stands : (test : Update → Bool) (us : List Update) (n : ℕ) (u : Update) → slice_get us n ≡ Some u → test u ≡ true → IsIn n (places_where test 0 us)
where_stands test us n u at e = let same : 0 + n ≡ n = omega arith in subst (λ (m : ℕ). IsIn m (places_where test 0 us)) same (where_in test 0 us n u at e)

-- ---- children

-- the update at c has that at p as its prev
pub record IsChild (us : List Update) (p c : ℕ) : Type 0 where
  pub above : Update
  pub below : Update
  pub at_above : slice_get us p ≡ Some above
  pub at_below : slice_get us c ≡ Some below
  pub named : IsIn (id_of_update above) (prevs below)

child_by : (us : List Update) (p c : ℕ) (o : Option Update) → slice_get us p ≡ o → IsIn c (children_by us o) → IsChild us p c
child_by us p c None at never = absurd never
child_by us p c (Some t) at on =
    let w = stands_where (λ (u : Update). is_among (id_of_update t) (prevs u)) us c on in
    record { above = t; below = w.0; at_above = at; at_below = w.1.0; named = among_to (id_of_update t) (prevs w.0) w.1.1 }

pub child_is : (us : List Update) (p c : ℕ) → IsIn c (children_of us p) → IsChild us p c
child_is us p c on = child_by us p c (slice_get us p) refl on

pub is_child : (us : List Update) (p c : ℕ) → IsChild us p c → IsIn c (children_of us p)
is_child us p c k =
    subst (λ (o : Option Update). IsIn c (children_by us o)) (sym k.at_above) (where_stands (λ (u : Update). is_among (id_of_update k.above) (prevs u)) us c k.below k.at_below (among_from (id_of_update k.above) (prevs k.below) k.named))

-- a parent occurs earlier
earlier : (ids : List (List ℕ)) (us : List Update) (p c : ℕ) (t u : Update) → IsCausal ids us → slice_get us p ≡ Some t → slice_get us c ≡ Some u → IsIn (id_of_update t) (parents u) → p < c
earlier ids [] p c t u causal at also named = absurd cc
earlier ids (x ∷ xs) zero zero t u causal at also named =
    let same : x ≡ u = cc in
    absurd (first_names_none ids x xs t causal (in_at (x ∷ xs) 0 t at) (subst (λ (y : Update). IsIn (id_of_update t) (parents y)) (sym same) named))
earlier ids (x ∷ xs) zero (suc c) t u causal at also named = omega arith
earlier ids (x ∷ xs) (suc p) zero t u causal at also named =
    let same : x ≡ u = cc in
    absurd (first_names_none ids x xs t causal (in_at (x ∷ xs) (suc p) t at) (subst (λ (y : Update). IsIn (id_of_update t) (parents y)) (sym same) named))
earlier ids (x ∷ xs) (suc p) (suc c) t u causal at also named = omega (arith, earlier (id_of_update x ∷ ids) xs p c t u (causal_behind ids x xs causal) at also named)

-- what is kept as the prev of an update is that
prev_is : (us : List Update) (c p : ℕ) → slice_get (prev_places us) c ≡ Some (Some p) → IsChild us p c
prev_is us c p kept = by_update (slice_get us c) refl (sym (slice_get-map (λ (u : Update). place_of_prev u.prev us) us c) ∙ kept) where
  by_test : (u : Update) (b : Bool) → bytes_eq u.prev zeros ≡ b → slice_get us c ≡ Some u → cond b None (place_of_id u.prev us) ≡ Some p → IsChild us p c
  by_test u true is at none = absurd cc
  by_test u false is at place =
      let t = has_place u.prev us p place in
      record { above = t.0; below = u; at_above = t.1.0; at_below = at; named = rw (is, t.1.1) (inl refl) }

  by_update : (o : Option Update) → slice_get us c ≡ o → option_map (λ (u : Update). place_of_prev u.prev us) o ≡ Some (Some p) → IsChild us p c
  by_update None at none = absurd cc
  by_update (Some u) at is = let place : place_of_prev u.prev us ≡ Some p = cc in by_test u (bytes_eq u.prev zeros) refl at place

-- each prev is an earlier item
pub prevs_are_earlier : (us : List Update) → IsCausal [] us → IsForest (prev_places us)
prevs_are_earlier us causal item p kept =
    let k = prev_is us item p kept in
    earlier [] us p item k.above k.below causal k.at_above k.at_below (in_left (id_of_update k.above) (prevs k.below) _ k.named)

-- ---- the leaves of all

-- the leaves are in the list
pub leaf_within : (us : List Update) (leaves : List ℕ) (n : ℕ) → AreLeaves us leaves → IsIn n leaves → n < length us
leaf_within us leaves n are on =
    let w = stands_where (λ t. not (is_prev_in us (id_of_update t))) us n (are.only n on) in
    slice_get_within us n w.0 w.1.0

-- they are the leaves
pub leaves_stand : (us : List Update) (leaves : List ℕ) → IsCausal [] us → AreLeaves us leaves → HaveSame (updates_at_places us leaves) (leaves_of us)
unfolding leaves_of
leaves_stand us leaves c are = record {
  to = λ t on.
      let p = of_place us leaves t (standing_is us leaves t c on) in
      let w = stands_where (λ t. not (is_prev_in us (id_of_update t))) us p.0 (are.only p.0 p.1.0) in
      let same : w.0 ≡ t = let both : Some w.0 ≡ Some t = sym w.1.0 ∙ p.1.1 in cc in
      in_filter (λ (t : Update). not (is_prev_in us (id_of_update t))) t us (in_at us p.0 t p.1.1) (subst (λ (x : Update). not (is_prev_in us (id_of_update x)) ≡ true) same w.1.1);
  back = λ t on.
      let f = from_filter (λ (t : Update). not (is_prev_in us (id_of_update t))) t us on in
      let p = place_of us t f.0 in
      is_standing us leaves t (at_its_place us leaves p.0 t (are.all p.0 (where_stands (λ t. not (is_prev_in us (id_of_update t))) us p.0 t p.1 f.1)) p.1);
}

-- ---- the leaves of a past

covered_in : (us : List Update) (items : List ℕ) (n : ℕ) (t : Update) → IsCausal [] us → slice_get us n ≡ Some t → IsCovered us items n → IsIn t (closure_of items us)
covered_in us items n t c at (m, (on, inl same)) = precedes_closure us items t c (inl (at_its_place us items m t on (ap (slice_get us) (sym same) ∙ at)))
covered_in us items n t c at (m, (on, inr before)) =
    let p = both_at us n m (Precedes us) before in
    let same : p.first ≡ t = let both : Some p.first ≡ Some t = sym p.at_first ∙ at in cc in
    precedes_closure us items t c (inr (p.second, (at_its_place us items m p.second on p.at_second, subst (λ (x : Update). Precedes us x p.second) same p.holds)))

in_covered : (us : List Update) (items : List ℕ) (n : ℕ) (t : Update) → IsCausal [] us → slice_get us n ≡ Some t → IsIn t (closure_of items us) → IsCovered us items n
in_covered us items n t c at on = elim (closure_precedes us items t c on) [
  | inl here ↦ let p = of_place us items t here in (p.0, (p.1.0, inl (one_place [] us n p.0 t t c at p.1.1 refl)))
  | inr p ↦ let q = of_place us items p.0 p.1.0 in (q.0, (q.1.0, inr (t, (at, (p.0, (q.1.1, p.1.1))))))
]

-- what is last is a leaf of the past
last_leaf : (us : List Update) (items : List ℕ) (n : ℕ) (t : Update) → IsCausal [] us → slice_get us n ≡ Some t → IsLastOfChain us items n → IsIn t (leaves_of (closure_of items us))
unfolding leaves_of
last_leaf us items n t c at last =
    in_filter (λ (x : Update). not (is_prev_in (closure_of items us) (id_of_update x))) t (closure_of items us) (covered_in us items n t c at last.covered) (ap not (false_from_ne_true _ (λ e.
    let w = any_to (λ (u : Update). is_among (id_of_update t) (prevs u)) (closure_of items us) e in
    let p = place_of us w.0 (closure_in us items w.0 w.1.0) in
    last.childless p.0 (is_child us n p.0 (record { above = t; below = w.0; at_above = at; at_below = p.1; named = among_to (id_of_update t) (prevs w.0) w.1.1 })) (in_covered us items p.0 w.0 c p.1 w.1.0))))

leaf_last : (us : List Update) (items : List ℕ) (n : ℕ) (t : Update) → IsCausal [] us → slice_get us n ≡ Some t → IsIn t (leaves_of (closure_of items us)) → IsLastOfChain us items n
unfolding leaves_of
leaf_last us items n t c at on =
    let f = from_filter (λ (x : Update). not (is_prev_in (closure_of items us) (id_of_update x))) t (closure_of items us) on in
    record {
      covered = in_covered us items n t c at f.0;
      childless = λ child there covered.
          let k = child_is us n child there in
          let same : k.above ≡ t = let both : Some k.above ≡ Some t = sym k.at_above ∙ at in cc in
          let named = subst (λ (x : Update). IsIn (id_of_update x) (prevs k.below)) same k.named in
          let hit = any_from (λ (u : Update). is_among (id_of_update t) (prevs u)) k.below (closure_of items us) (covered_in us items child k.below c k.at_below covered) (among_from (id_of_update t) (prevs k.below) named) in
          let not_hit = not-true _ f.1 in
          absurd cc;
    }

-- what is at the last places is the leaves of the past
pub last_are_leaves : (us : List Update) (items found : List ℕ) → IsCausal [] us → AreLast us items found → HaveSame (updates_at_places us found) (leaves_of (closure_of items us))
unfolding leaves_of
last_are_leaves us items found c are = record {
  to = λ t on.
      let p = of_place us found t (standing_is us found t c on) in
      last_leaf us items p.0 t c p.1.1 ((are p.0 (slice_get_within us p.0 t p.1.1)).0 p.1.0);
  back = λ t on.
      let p = place_of us t (closure_in us items t (from_filter (λ (x : Update). not (is_prev_in (closure_of items us) (id_of_update x))) t (closure_of items us) on).0) in
      is_standing us found t (at_its_place us found p.0 t ((are p.0 (slice_get_within us p.0 t p.1)).1 (leaf_last us items p.0 t c p.1 on)) p.1);
}

-- ---- chains

pub spots_long : (us : List Update) → length (spots (prev_places us)) ≡ length us
spots_long us = (all_placed (prev_places us)).size ∙ length-map us (λ (t : Update). place_of_prev t.prev us)

-- what is in a chain is one of the updates
pub at_within : (us : List Update) (n chain place : ℕ) → IsSpotAt (prev_places us) n chain place → n < length us
at_within us n chain place at = omega (arith, slice_get_within (spots (prev_places us)) n _ at, spots_long us)

-- an item at the next place is a child
next_is_child : (us : List Update) (n m chain place : ℕ) → IsSpotAt (prev_places us) n chain place → IsSpotAt (prev_places us) m chain (suc place) → IsChild us n m
next_is_child us n m chain place at next =
    let b = (all_placed (prev_places us)).back m chain place next in
    let same : b.prev ≡ n = (all_placed (prev_places us)).once b.prev n (record { chain = chain; place = place }) b.spot at in
    subst (λ (k : ℕ). IsChild us k m) same (prev_is us m b.prev b.is)

-- the way back on a chain, from its last item: none that comes before the place was passed
pub record IsReached (us : List Update) (chain count n : ℕ) : Type 0 where
  pub place : ℕ
  pub at : IsSpotAt (prev_places us) n chain place
  pub last : (m other : ℕ) → IsSpotAt (prev_places us) m chain other → other < count → other ≤ place

pub tip_is_reached : (us : List Update) (chain count tip : ℕ) → IsCausal [] us → IsTip (spots (prev_places us)) chain tip → IsReached us chain count tip
tip_is_reached us chain count tip causal t = record { place = t.place; at = t.own; last = λ m other at low. tip_is_highest (prev_places us) chain tip (prevs_are_earlier us causal) t m other at }

-- the item before one that is at the place or after it
pub before_is_reached : (us : List Update) (chain count n : ℕ) → (count ≡ 0 → ⊥) → (r : IsReached us chain count n) → count ≤ r.place → (p : ℕ) × ((slice_get (prev_places us) n ≡ Some (Some p)) × IsReached us chain count p)
before_is_reached us chain count n some r high = by_place r.place r.at high r.last where
  by_place : (place : ℕ) → IsSpotAt (prev_places us) n chain place → count ≤ place → ((m other : ℕ) → IsSpotAt (prev_places us) m chain other → other < count → other ≤ place) → (p : ℕ) × ((slice_get (prev_places us) n ≡ Some (Some p)) × IsReached us chain count p)
  by_place zero at high last = absurd (some (omega (arith, high)))
  by_place (suc place) at high last =
      let b = (all_placed (prev_places us)).back n chain place at in
      (b.prev, (b.is, record { place = place; at = b.spot; last = λ m other at_m low. omega (arith, low, high) }))

-- the last of a chain that a row counts is the only one that can be a leaf
pub last_is_counted : (us : List Update) (items row : List ℕ) (chain m n place : ℕ) → IsJoinedRow us items row → IsLastCounted us chain (slice_index row chain) m → IsSpotAt (prev_places us) n chain place → IsLastOfChain us items n → m ≡ n
last_is_counted us items row chain m n place joined counted at last =
    let covered = last.covered in
    let low = joined.counted covered.0 n chain place covered.1.0 at covered.1.1 in
    by_test (nat_lt place counted.place) refl (counted.last n place at low) where
      by_test : (b : Bool) → nat_lt place counted.place ≡ b → place ≤ counted.place → m ≡ n
      by_test false is le =
          let same : counted.place ≡ place = omega (arith, le, ltb-false place counted.place is) in
          (all_placed (prev_places us)).once m n (record { chain = chain; place = place }) (subst (λ (k : ℕ). IsSpotAt (prev_places us) m chain k) same counted.at) at
      by_test true is le =
          let lower = ltb-true place counted.place is in
          let steps : counted.place ≡ (counted.place - suc place) + suc place = omega (arith, lower) in
          let x = back_by (prev_places us) (spots (prev_places us)) (all_placed (prev_places us)) (counted.place - suc place) m chain (suc place) (subst (λ (k : ℕ). IsSpotAt (prev_places us) m chain k) steps counted.at) in
          let child = is_child us n x.from (next_is_child us n x.from chain place at x.spot) in
          absurd (last.childless x.from child (joined.only x.from chain (suc place) x.spot (omega (arith, lower, counted.counted))))

-- a row that counts nothing of a chain leaves it without a leaf
pub none_is_counted : (us : List Update) (items row : List ℕ) (chain n place : ℕ) → IsJoinedRow us items row → slice_index row chain ≡ 0 → IsSpotAt (prev_places us) n chain place → IsLastOfChain us items n → ⊥
none_is_counted us items row chain n place joined none at last =
    let covered = last.covered in
    let low = joined.counted covered.0 n chain place covered.1.0 at covered.1.1 in
    omega (arith, low, none)

-- ---- one chain after the other

-- what is found once this many chains were looked at
pub record AreFound (us : List Update) (items found : List ℕ) (i : ℕ) : Type 0 where
  pub only : (n : ℕ) → IsIn n found → IsLastOfChain us items n
  pub all : (chain : ℕ) → chain < i → (n place : ℕ) → IsSpotAt (prev_places us) n chain place → IsLastOfChain us items n → IsIn n found

pub found_none : (us : List Update) (items found : List ℕ) (i : ℕ) → AreFound us items found i → ((n place : ℕ) → IsSpotAt (prev_places us) n i place → IsLastOfChain us items n → ⊥) → AreFound us items found (i + 1)
found_none us items found i f none = record {
  only = f.only;
  all = below_more (λ chain. (n place : ℕ) → IsSpotAt (prev_places us) n chain place → IsLastOfChain us items n → IsIn n found) i f.all (λ n place at last. absurd (none n place at last));
}

pub found_one : (us : List Update) (items found : List ℕ) (i m : ℕ) → AreFound us items found i → IsLastOfChain us items m → ((n place : ℕ) → IsSpotAt (prev_places us) n i place → IsLastOfChain us items n → m ≡ n) → AreFound us items (found ++ m ∷ []) (i + 1)
found_one us items found i m f here one = record {
  only = λ n on. elim (in_pushed n found m on) [ inl old ↦ f.only n old | inr new ↦ subst (IsLastOfChain us items) new here ];
  all = below_more (λ chain. (n place : ℕ) → IsSpotAt (prev_places us) n chain place → IsLastOfChain us items n → IsIn n (found ++ m ∷ [])) i (λ chain below n place at last. in_left n found (m ∷ []) (f.all chain below n place at last)) (λ n place at last. subst (λ (k : ℕ). IsIn k (found ++ m ∷ [])) (one n place at last) (in_last found m));
}

-- once all were
pub found_all : (us : List Update) (items found : List ℕ) (i : ℕ) → chain_count (prev_places us) ≤ i → AreFound us items found i → AreLast us items found
found_all us items found i whole f n lt = (
  f.only n,
  (λ last.
      let s = at_place (spots (prev_places us)) n (omega (arith, lt, spots_long us)) in
      f.all s.0.chain (omega (arith, (all_placed (prev_places us)).chain n s.0 s.1, whole)) n s.0.place s.1 last),
)
