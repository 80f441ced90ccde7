-- The items that a row doesn't count: chain by chain, and then in order.
use Rattle.std.proofs.Common.{◌≡◌, ℕ, zero, suc, ◌+◌, ◌-◌, ◌<◌, ◌≤◌, nat_lt, get_or, Bool, true, false, not, ◌&&◌, List, [], ◌∷◌, ◌++◌, length, Some, refl, sym, ap, subst, ◌∙◌, arith}
use Rattle.std.specs.Prelude.{slice_get, slice_index}
use Rattle.std.specs.List.{AllByRecursion, Contains}
use Rattle.std.proofs.lemmas.Bool.{ltb-true, ltb-false}
use Rattle.std.proofs.lemmas.List.{length-map}
use Rattle.std.proofs.lemmas.Option.{slice_get-get_or, slice_get_within}
use Rattle.depot_base.specs.declared.update.Update.{Update}
use Rattle.depot_base.proofs.GeneralLaws.{at_place}
use Rattle.depot_base.proofs.MembershipLaws.{to_contains}
use Rattle.depot_model.specs.exchange.Bundle.{is_candidate, is_covered}
use Rattle.depot_model.specs.lists.Items.{place_of_prev, places_of}
use Rattle.depot_model.specs.lists.Lists.{IsIn}
use Rattle.depot_model.specs.updates.Order.{IsCausal}
use Rattle.depot_model.proofs.lists.Members.{all_push, in_last, in_left}
use Rattle.depot_order.specs.declared.chains.Spot.{Spot}
use Rattle.depot_order.specs.Spots.{IsSpotAt, IsTip, spots}
use Rattle.depot_order.proofs.Placing.{all_placed, tip_is_highest}
use Rattle.depot_graph.specs.Kept.{prev_places}
use Rattle.depot_graph.specs.UpdateRows.{IsJoinedRow}
use Rattle.depot_graph.proofs.ChainLeaves.{at_within, prevs_are_earlier}
use Rattle.depot_graph.proofs.CoveredItems.{row_covers}
use Rattle.depot_queries.specs.Tails.{HoldsBehind, HasTail}
use Rattle.depot_queries.proofs.BesidePlaces.{IsSoFar, so_far_same}

-- ---- back on a chain

-- On the way back on a chain: the item is at the place or after it, and those after it were added.
pub record IsPassed (us : List Update) (chain from : ℕ) (old found : List ℕ) (item : ℕ) : Type 0 where
  pub place : ℕ
  pub at : IsSpotAt (prev_places us) item chain place
  pub high : from ≤ place
  pub kept : (m : ℕ) → IsIn m old → IsIn m found
  pub above : (m other : ℕ) → IsSpotAt (prev_places us) m chain other → place < other → IsIn m found
  pub inside : AllByRecursion (λ m. m < length us) old → AllByRecursion (λ m. m < length us) found

-- it begins at the last item
pub passed_tip : (us : List Update) (chain from : ℕ) (old : List ℕ) (tip : ℕ) → IsCausal [] us → (t : IsTip (spots (prev_places us)) chain tip) → from ≤ t.place → IsPassed us chain from old old tip
passed_tip us chain from old tip causal t high = record {
  place = t.place;
  at = t.own;
  high = high;
  kept = λ m on. on;
  above = λ m other at later. absurd (let low = tip_is_highest (prev_places us) chain tip (prevs_are_earlier us causal) t m other at in omega (arith, low, later));
  inside = λ all. all;
}

-- with this item all at its place or after it are added
added_at : (us : List Update) (chain from : ℕ) (old found : List ℕ) (item : ℕ) (p : IsPassed us chain from old found item) (m other : ℕ) → IsSpotAt (prev_places us) m chain other → p.place ≤ other → IsIn m (found ++ item ∷ [])
added_at us chain from old found item p m other at high = by_test (nat_lt p.place other) refl where
  by_test : (b : Bool) → nat_lt p.place other ≡ b → IsIn m (found ++ item ∷ [])
  by_test true is = in_left m found (item ∷ []) (p.above m other at (ltb-true p.place other is))
  by_test false is =
      let same : other ≡ p.place = omega (arith, high, ltb-false p.place other is) in
      let one : item ≡ m = (all_placed (prev_places us)).once item m (record { chain = chain; place = p.place }) p.at (subst (λ (k : ℕ). IsSpotAt (prev_places us) m chain k) same at) in
      subst (λ (k : ℕ). IsIn k (found ++ item ∷ [])) one (in_last found item)

inside_at : (us : List Update) (chain from : ℕ) (old found : List ℕ) (item : ℕ) (p : IsPassed us chain from old found item) → AllByRecursion (λ m. m < length us) old → AllByRecursion (λ m. m < length us) (found ++ item ∷ [])
inside_at us chain from old found item p all = all_push (λ m. m < length us) found item (p.inside all) (at_within us item chain p.place p.at)

-- and continues at the item before, where one is at the place or after it
pub passed_next : (us : List Update) (chain from : ℕ) (old found new : List ℕ) (item : ℕ) (p : IsPassed us chain from old found item) → from < p.place → new ≡ found ++ item ∷ [] → (b : ℕ) × ((slice_get (prev_places us) item ≡ Some (Some b)) × IsPassed us chain from old new b)
passed_next us chain from old found new item p later is = by_place p.place refl where
  by_place : (place : ℕ) → p.place ≡ place → (b : ℕ) × ((slice_get (prev_places us) item ≡ Some (Some b)) × IsPassed us chain from old new b)
  by_place zero none = absurd (omega (arith, later, none))
  by_place (suc place) here =
      let b = (all_placed (prev_places us)).back item chain place (subst (λ (k : ℕ). IsSpotAt (prev_places us) item chain k) here p.at) in (
        b.prev,
        (
          b.is,
          record {
            place = place;
            at = b.spot;
            high = omega (arith, later, here);
            kept = λ m on. subst (IsIn m) (sym is) (in_left m found (item ∷ []) (p.kept m on));
            above = λ m other at high. subst (IsIn m) (sym is) (added_at us chain from old found item p m other at (omega (arith, high, here)));
            inside = λ all. subst (AllByRecursion (λ m. m < length us)) (sym is) (inside_at us chain from old found item p all);
          },
        ),
      )

-- at the place itself all are added
pub passed_all : (us : List Update) (chain from : ℕ) (old found new : List ℕ) (item : ℕ) (p : IsPassed us chain from old found item) → p.place ≤ from → new ≡ found ++ item ∷ [] → HasTail us chain from old new
passed_all us chain from old found new item p low is = record {
  kept = λ m on. subst (IsIn m) (sym is) (in_left m found (item ∷ []) (p.kept m on));
  all = λ m other at high. subst (IsIn m) (sym is) (added_at us chain from old found item p m other at (omega (arith, low, high)));
  inside = λ all. subst (AllByRecursion (λ m. m < length us)) (sym is) (inside_at us chain from old found item p all);
}

-- a chain that ends before the place adds none
pub no_tail : (us : List Update) (chain from : ℕ) (old : List ℕ) (tip : ℕ) → IsCausal [] us → (t : IsTip (spots (prev_places us)) chain tip) → t.place < from → HasTail us chain from old old
no_tail us chain from old tip causal t low = record {
  kept = λ m on. on;
  all = λ m other at high. absurd (let below = tip_is_highest (prev_places us) chain tip (prevs_are_earlier us causal) t m other at in omega (arith, low, high, below));
  inside = λ all. all;
}

-- ---- one chain after the other

-- what the first chains have after the row is among these, which are items
pub record AreBehind (us : List Update) (row : List ℕ) (count : ℕ) (found : List ℕ) : Type 0 where
  pub all : (item chain place : ℕ) → IsSpotAt (prev_places us) item chain place → chain < count → slice_index row chain ≤ place → IsIn item found
  pub inside : AllByRecursion (λ item. item < length us) found

pub behind_next : (us : List Update) (row : List ℕ) (count from : ℕ) (found new : List ℕ) → from ≡ slice_index row count → AreBehind us row count found → HasTail us count from found new → AreBehind us row (count + 1) new
behind_next us row count from found new is a t = record {
  all = λ item chain place at low high. by_test item chain place at low high (nat_lt chain count) refl;
  inside = t.inside a.inside;
} where
  by_test : (item chain place : ℕ) → IsSpotAt (prev_places us) item chain place → chain < count + 1 → slice_index row chain ≤ place → (b : Bool) → nat_lt chain count ≡ b → IsIn item new
  by_test item chain place at low high true lower = t.kept item (a.all item chain place at (ltb-true chain count lower) high)
  by_test item chain place at low high false not_lower =
      let same : chain ≡ count = omega (arith, low, ltb-false chain count not_lower) in
      t.all item place (subst (λ (k : ℕ). IsSpotAt (prev_places us) item k place) same at) (omega (arith, is, ap (slice_index row) same, high))

pub all_behind : (us : List Update) (row : List ℕ) (count : ℕ) (found : List ℕ) → length row ≤ count → ((item chain place : ℕ) → IsSpotAt (prev_places us) item chain place → chain < length row) → AreBehind us row count found → HoldsBehind us row found
all_behind us row count found many inside a = λ item chain place at high. a.all item chain place at (omega (arith, many, inside item chain place at)) high

-- ---- what isn't among them

-- an item that isn't one of these is lacked by no reader
pub not_lacked : (us : List Update) (ids : List (List ℕ)) (row items : List ℕ) (reader item : ℕ) (u : Update) → IsCausal [] us → IsJoinedRow us (places_of us ids) row → HoldsBehind us row items → slice_get us item ≡ Some u → (IsIn item items → ⊥) → is_candidate us ids reader u ≡ false
not_lacked us ids row items reader item u causal joined behind at apart = by_test (nat_lt s.0.place (slice_index row s.0.chain)) refl where
  long : length (spots (prev_places us)) ≡ length us
  long = (all_placed (prev_places us)).size ∙ length-map us (λ (t : Update). place_of_prev t.prev us)

  s : (x : Spot) × (slice_get (spots (prev_places us)) item ≡ Some x)
  s = at_place (spots (prev_places us)) item (omega (arith, long, slice_get_within us item u at))

  none : (b c : Bool) → c ≡ true → (b && not c) ≡ false
  none true c is = ap not is
  none false c is = refl

  by_test : (b : Bool) → nat_lt s.0.place (slice_index row s.0.chain) ≡ b → is_candidate us ids reader u ≡ false
  by_test true is = none _ (is_covered us ids u) (row_covers us ids row item s.0.chain s.0.place u causal at s.1 joined ∙ is)
  by_test false is = absurd (apart (behind item s.0.chain s.0.place s.1 (ltb-false s.0.place (slice_index row s.0.chain) is)))

-- what an index inside gives for want of an entry doesn't matter
same_entry : (ns : List ℕ) (i a b : ℕ) → i < length ns → get_or ns i a ≡ get_or ns i b
same_entry ns i a b low = let both : Some (get_or ns i a) ≡ Some (get_or ns i b) = sym (slice_get-get_or ns i a low) ∙ slice_get-get_or ns i b low in cc

-- Of items in order the first ones were looked at, and all that were come before this place.
pub record AreLooked (us : List Update) (items : List ℕ) (count next : ℕ) : Type 0 where
  pub before : (k : ℕ) → k < count → get_or items k 0 < next
  pub low : next ≤ length us

-- one that is at the place or after it is still to come
still_comes : (us : List Update) (items : List ℕ) (count next m : ℕ) → AreLooked us items count next → next ≤ m → IsIn m items → (j : ℕ) × ((count ≤ j) × ((j < length items) × (get_or items j 0 ≡ m)))
still_comes us items count next m looked high on = by_test (nat_lt c.0 count) refl where
  c : Contains items m
  c = to_contains m items on

  is : get_or items c.0 0 ≡ m
  is = same_entry items c.0 0 m c.1 ∙ c.2

  by_test : (b : Bool) → nat_lt c.0 count ≡ b → (j : ℕ) × ((count ≤ j) × ((j < length items) × (get_or items j 0 ≡ m)))
  by_test true lower = absurd (omega (arith, looked.before c.0 (ltb-true c.0 count lower), is, high))
  by_test false later = (c.0, (ltb-false c.0 count later, (c.1, is)))

-- one that comes before the place is passed over
pub looked_same : (us : List Update) (items : List ℕ) (count next item : ℕ) → item ≡ get_or items count 0 → item < next → AreLooked us items count next → AreLooked us items (count + 1) next
looked_same us items count next item is low looked = record {
  before = λ k lt. by_test k lt (nat_lt k count) refl;
  low = looked.low;
} where
  by_test : (k : ℕ) → k < count + 1 → (b : Bool) → nat_lt k count ≡ b → get_or items k 0 < next
  by_test k lt true lower = looked.before k (ltb-true k count lower)
  by_test k lt false last =
      let same : k ≡ count = omega (arith, lt, ltb-false k count last) in
      omega (arith, low, is, ap (λ (i : ℕ). get_or items i 0) same)

-- another is looked at
pub looked_more : (us : List Update) (items : List ℕ) (count next item : ℕ) → item ≡ get_or items count 0 → next ≤ item → item < length us → AreLooked us items count next → AreLooked us items (count + 1) (item + 1)
looked_more us items count next item is high inside looked =
    looked_same us items count (item + 1) item is (omega arith) (record { before = λ k lt. omega (arith, looked.before k lt, high); low = omega (arith, inside) })

-- ---- over what isn't lacked

-- from one place to a later one, where the updates between don't pass
pub over_gap : (test : Update → Bool) (us : List Update) (ns : List ℕ) (steps i : ℕ) (found : List ℕ) → length ns ≡ length us → i + steps ≤ length us → ((k : ℕ) (u : Update) → i ≤ k → k < i + steps → slice_get us k ≡ Some u → test u ≡ false) → IsSoFar test us ns i found → IsSoFar test us ns (i + steps) found
over_gap test us ns zero i found long low none before = subst (λ (k : ℕ). IsSoFar test us ns k found) (omega arith) before
over_gap test us ns (suc steps) i found long low none before =
    let u = at_place us i (omega (arith, low)) in
    let n = at_place ns i (omega (arith, low, long)) in
    let more = so_far_same test us ns i u.0 n.0 found u.1 n.1 (none i u.0 (omega arith) (omega arith) u.1) before in
    subst (λ (k : ℕ). IsSoFar test us ns k found) (omega arith) (over_gap test us ns steps (i + 1) found long (omega (arith, low)) (λ k v above below. none k v (omega (arith, above)) (omega (arith, below))) more)

-- what was found before the next place is found before this item, where each that is to come is there or after
pub so_far_to : (us : List Update) (ns row items : List ℕ) (ids : List (List ℕ)) (reader count next item : ℕ) (found : List ℕ) → IsCausal [] us → IsJoinedRow us (places_of us ids) row → HoldsBehind us row items → AreLooked us items count next → length ns ≡ length us → next ≤ item → item ≤ length us
    → ((j : ℕ) → count ≤ j → j < length items → item ≤ get_or items j 0) → IsSoFar (is_candidate us ids reader) us ns next found → IsSoFar (is_candidate us ids reader) us ns item found
so_far_to us ns row items ids reader count next item found causal joined behind looked long low inside later before =
    let there : next + (item - next) ≡ item = omega (arith, low) in
    subst (λ (k : ℕ). IsSoFar (is_candidate us ids reader) us ns k found) there
    (over_gap (is_candidate us ids reader) us ns (item - next) next found long (omega (arith, there, inside))
    (λ k u above below at. not_lacked us ids row items reader k u causal joined behind at (λ on.
    let j = still_comes us items count next k looked above on in
    absurd (let high = later j.0 j.1.0 j.1.1.0 in omega (arith, high, j.1.1.1, below, there)))) before)
