-- The rows of clocks are those of the updates.
use Rattle.std.proofs.Common.{◌≡◌, ℕ, zero, suc, ◌<◌, List, [], ◌∷◌, length, Some, Bool, IsTrue, Result, Ok, Err, IfOk, option_map, EachIndex, slice_index, refl, sym, ap, subst, ◌∙◌, arith, inl, inr, slice_get}
use Rattle.std.proofs.lemmas.Option.{slice_get-map, slice_get_within}
use Rattle.depot_base.specs.declared.update.Update.{Update}
use Rattle.depot_model.specs.lists.Lists.{IsIn}
use Rattle.depot_model.specs.updates.Order.{IsCausal, Precedes}
use Rattle.depot_model.proofs.lists.Elements.{both_at}
use Rattle.depot_order.specs.declared.chains.Spot.{Spot}
use Rattle.depot_order.specs.Spots.{spots, chains_of, IsSpotAt as SpotIsAt}
use Rattle.depot_order.proofs.Placing.{all_placed}
use Rattle.depot_order.specs.ChainItems.{ChainItem, IsUpTo, IsCount, IsOfPast, IsTrueOf, CountsAll, IsWithin, number_of_chains, JoinsUpTo, IsRowJoined}
use Rattle.depot_order.proofs.ItemPaths.{Standing, standing}
use Rattle.depot_graph.specs.Clocked.{clock_items}
use Rattle.depot_graph.specs.Kept.{prev_places}
use Rattle.depot_graph.specs.UpdateRows.{IsUpToAt, IsOfPastAt, IsCountAt, CountsAllAt, IsWithinAt, IsJoinedRow}
use Rattle.depot_graph.proofs.ClockedItems.{spotted_at, spotted_length}
use Rattle.depot_graph.proofs.ClockedUpdates.{clock_spotted, clock_long, clock_number, clock_precedes}

-- ---- items and their spots

-- an item is in the forest where its clocks say
to_spot : (us : List Update) (a : ℕ) (x : ChainItem) → IsCausal [] us → slice_get (clock_items us) a ≡ Some x → SpotIsAt (prev_places us) a x.chain x.place
to_spot us a x c at =
    let f : ChainItem → Spot = λ y. record { chain = y.chain; place = y.place } in
    ap (λ (l : List Spot). slice_get l a) (sym (clock_spotted us c)) ∙ (slice_get-map f (clock_items us) a ∙ ap (option_map f) at)

from_spot : (us : List Update) (a chain place : ℕ) → IsCausal [] us → SpotIsAt (prev_places us) a chain place → Standing (clock_items us) a chain place
from_spot us a chain place c at = standing (clock_items us) a chain place (spotted_at (clock_items us) (spots (prev_places us)) a chain place (clock_spotted us c) at)

low_at : (us : List Update) (a : ℕ) (x : ChainItem) → IsCausal [] us → slice_get (clock_items us) a ≡ Some x → a < length us
low_at us a x c at = let low = slice_get_within (clock_items us) a x at in omega (arith, low, clock_long us c)

-- ---- what an item is up to

up_to : (us : List Update) (a b : ℕ) → IsCausal [] us → a < length us → b < length us → IsUpTo (clock_items us) a b → IsUpToAt us a b
up_to us a b c low_a low_b (zero, same) = inl (sym same)
up_to us a b c low_a low_b (suc steps, leads) = inr ((clock_precedes us a b c low_a low_b).0 (steps, leads))

up_from : (us : List Update) (a b : ℕ) → IsCausal [] us → a < length us → b < length us → IsUpToAt us a b → IsUpTo (clock_items us) a b
up_from us a b c low_a low_b (inl same) = (0, sym same)
up_from us a b c low_a low_b (inr p) = let q = (clock_precedes us a b c low_a low_b).1 p in (suc q.0, q.1)

-- ---- counts and rows

module _ (us : List Update) (c : IsCausal [] us) (item : ℕ) (low : item < length us) where
  count_at : (chain n : ℕ) → IsCount (clock_items us) chain item n → IsCountAt us chain item n
  count_at chain n k = record {
    there = omega (arith, k.there, spotted_length (clock_items us) (spots (prev_places us)) chain (clock_spotted us c));
    counted = λ a place at up.
        let x = from_spot us a chain place c at in
        let low_a = low_at us a x.it c x.at in
        let below = k.counted a x.it x.at x.of_chain (up_from us a item c low_a low up) in
        omega (arith, below, x.at_place);
    only = λ a place at below.
        let x = from_spot us a chain place c at in
        up_to us a item c (low_at us a x.it c x.at) low (k.only a x.it x.at x.of_chain (omega (arith, below, x.at_place)));
  }

  count_from : (chain n : ℕ) → IsCountAt us chain item n → IsCount (clock_items us) chain item n
  count_from chain n k = record {
    there = omega (arith, k.there, spotted_length (clock_items us) (spots (prev_places us)) chain (clock_spotted us c));
    counted = λ a x at is up. k.counted a x.place (subst (λ (d : ℕ). SpotIsAt (prev_places us) a d x.place) is (to_spot us a x c at)) (up_to us a item c (low_at us a x c at) low up);
    only = λ a x at is below. up_from us a item c (low_at us a x c at) low (k.only a x.place (subst (λ (d : ℕ). SpotIsAt (prev_places us) a d x.place) is (to_spot us a x c at)) below);
  }

  many_at : (chain n : ℕ) → IsTrueOf (IsOfPast (clock_items us) chain item) n → IsTrueOf (IsOfPastAt us chain item) n
  many_at chain n k = record {
    numbers = k.numbers;
    all = λ a is.
        let x = from_spot us a chain is.0.0 c is.0.1 in
        k.all a (record { it = x.it; at = x.at; of_chain = x.of_chain; up_to = up_from us a item c (low_at us a x.it c x.at) low is.1 });
    only = λ a on.
        let is = k.only a on in
        let low_a = low_at us a is.it c is.at in
        ((is.it.place, subst (λ (d : ℕ). SpotIsAt (prev_places us) a d is.it.place) is.of_chain (to_spot us a is.it c is.at)), up_to us a item c low_a low is.up_to);
    apart = k.apart;
    many = k.many;
  }

  -- ---- over items that are those of the updates

  pub row_counts : (items : List ChainItem) (row : List ℕ) → items ≡ clock_items us → EachIndex row (λ chain. IsCount items chain item (slice_index row chain)) → EachIndex row (λ chain. IsCountAt us chain item (slice_index row chain))
  row_counts items row clocked each chain inside = count_at chain (slice_index row chain) (subst (λ (xs : List ChainItem). IsCount xs chain item (slice_index row chain)) clocked (each chain inside))

  pub row_many : (items : List ChainItem) (row : List ℕ) → items ≡ clock_items us → EachIndex row (λ chain. IsTrueOf (IsOfPast items chain item) (slice_index row chain)) → EachIndex row (λ chain. IsTrueOf (IsOfPastAt us chain item) (slice_index row chain))
  row_many items row clocked each chain inside = many_at chain (slice_index row chain) (subst (λ (xs : List ChainItem). IsTrueOf (IsOfPast xs chain item) (slice_index row chain)) clocked (each chain inside))

  pub within_rows : (items : List ChainItem) (row : List ℕ) (told : Bool) → items ≡ clock_items us → (IsTrue told → IsWithin items item row) × (IsWithin items item row → IsTrue told) → (IsTrue told → IsWithinAt us item row) × (IsWithinAt us item row → IsTrue told)
  within_rows items row told clocked tells = (
    (λ yes_ chain n k. tells.0 yes_ chain n (subst (λ (xs : List ChainItem). IsCount xs chain item n) (sym clocked) (count_from chain n k))),
    (λ is. tells.1 (λ chain n k. is chain n (count_at chain n (subst (λ (xs : List ChainItem). IsCount xs chain item n) clocked k)))),
  )

  pub within_counts : (items : List ChainItem) (row : List ℕ) (told : Bool) → items ≡ clock_items us → (IsTrue told → CountsAll items item row) × (CountsAll items item row → IsTrue told) → (IsTrue told → CountsAllAt us item row) × (CountsAllAt us item row → IsTrue told)
  within_counts items row told clocked tells = (
    (λ yes_ a chain place at up.
        let x = from_spot us a chain place c at in
        let up_x = up_from us a item c (low_at us a x.it c x.at) low up in
        let below : x.it.place < slice_index row x.it.chain = subst (λ (xs : List ChainItem). CountsAll xs item row) clocked (tells.0 yes_) a x.it x.at up_x in
        let here : x.it.place < slice_index row chain = subst (λ (d : ℕ). x.it.place < slice_index row d) x.of_chain below in
        omega (arith, here, x.at_place)),
    (λ all. tells.1 (subst (λ (xs : List ChainItem). CountsAll xs item row) (sym clocked) (λ a x at up. all a x.chain x.place (to_spot us a x c at) (up_to us a item c (low_at us a x c at) low up)))),
  )

pub row_long : (us : List Update) (items : List ChainItem) (row : List ℕ) → IsCausal [] us → items ≡ clock_items us → length row ≡ chains_of (spots (prev_places us)) → length row ≡ number_of_chains items
row_long us items row c clocked long = long ∙ (sym (clock_number us c) ∙ ap number_of_chains (sym clocked))

-- ---- joined rows

place_in : (items : List ℕ) (m : ℕ) → IsIn m items → (k : ℕ) × ((k < length items) × (slice_index items k ≡ m))
place_in [] m never = absurd never
place_in (n ∷ ns) m (inl here) = (0, (omega arith, here))
place_in (n ∷ ns) m (inr there) = let p = place_in ns m there in (suc p.0, (omega (arith, p.1.0), p.1.1))

in_place : (items : List ℕ) (k : ℕ) → k < length items → IsIn (slice_index items k) items
in_place [] k low = absurd (omega arith)
in_place (n ∷ ns) zero low = inl refl
in_place (n ∷ ns) (suc k) low = inr (in_place ns k (omega arith))

-- the joined row of clocks that are those of the updates
joined_row_is : (us : List Update) (items : List ChainItem) (ms row : List ℕ) → IsCausal [] us → items ≡ clock_items us → ((k : ℕ) → k < length ms → slice_index ms k < length us) → IsRowJoined items ms row → IsJoinedRow us ms row
joined_row_is us items ms row c clocked inside joined =
    let long : length row ≡ chains_of (spots (prev_places us)) = joined.long ∙ (ap number_of_chains clocked ∙ clock_number us c) in
    let joins : (chain : ℕ) → chain < length row → JoinsUpTo (clock_items us) ms (length ms) chain (slice_index row chain) = λ chain low. subst (λ (xs : List ChainItem). JoinsUpTo xs ms (length ms) chain (slice_index row chain)) clocked (joined.joins chain low) in
    let there : (a chain place : ℕ) → SpotIsAt (prev_places us) a chain place → chain < length row = λ a chain place at. let low = (all_placed (prev_places us)).chain a (record { chain = chain; place = place }) at in omega (arith, low, long) in
    record {
      long = long;
      there = λ chain low. omega (arith, (joins chain low).there, spotted_length (clock_items us) (spots (prev_places us)) chain (clock_spotted us c));
      counted = λ m a chain place on at up.
          let k = place_in ms m on in
          let x = from_spot us a chain place c at in
          let low_a = low_at us a x.it c x.at in
          let low_m : slice_index ms k.0 < length us = inside k.0 k.1.0 in
          let up_k : IsUpToAt us a (slice_index ms k.0) = subst (IsUpToAt us a) (sym k.1.1) up in
          let below = (joins chain (there a chain place at)).counted a x.it k.0 x.at x.of_chain k.1.0 (up_from us a (slice_index ms k.0) c low_a low_m up_k) in
          omega (arith, below, x.at_place);
      only = λ a chain place at below.
          let x = from_spot us a chain place c at in
          let k = (joins chain (there a chain place at)).only a x.it x.at x.of_chain (omega (arith, below, x.at_place)) in
          (slice_index ms k.0, (in_place ms k.0 k.1.0, up_to us a (slice_index ms k.0) c (low_at us a x.it c x.at) (inside k.0 k.1.0) k.1.1));
    }

-- what another is up to, or is up to another, is among them
up_inside : (us : List Update) (a m : ℕ) → a < length us → IsUpToAt us a m → m < length us
up_inside us a m low (inl same) = omega (arith, low, same)
up_inside us a m low (inr p) = let both = both_at us a m (Precedes us) p in slice_get_within us m both.second both.at_second

item_inside : (items : List ChainItem) (a m : ℕ) → a < length items → IsUpTo items a m → m < length items
item_inside items a m low (zero, same) = omega (arith, low, same)
item_inside items a m low (suc steps, (p, (leads, rest))) = slice_get_within items m leads.0 leads.1.0

-- a joined row of the updates is one of clocks that are theirs
pub joined_row_from : (us : List Update) (items : List ChainItem) (ms row : List ℕ) → IsCausal [] us → items ≡ clock_items us → IsJoinedRow us ms row → IsRowJoined items ms row
joined_row_from us items ms row c clocked joined = subst (λ (xs : List ChainItem). IsRowJoined xs ms row) (sym clocked) (record {
  long = joined.long ∙ sym (clock_number us c);
  joins = λ chain low. record {
    there = omega (arith, joined.there chain low, spotted_length (clock_items us) (spots (prev_places us)) chain (clock_spotted us c));
    counted = λ a x k at is low_k up.
        let low_a = low_at us a x c at in
        let low_m = item_inside (clock_items us) a (slice_index ms k) (slice_get_within (clock_items us) a x at) up in
        let spot = subst (λ (d : ℕ). SpotIsAt (prev_places us) a d x.place) is (to_spot us a x c at) in
        joined.counted (slice_index ms k) a chain x.place (in_place ms k low_k) spot (up_to us a (slice_index ms k) c low_a (omega (arith, low_m, clock_long us c)) up);
    only = λ a x at is below.
        let low_a = low_at us a x c at in
        let spot = subst (λ (d : ℕ). SpotIsAt (prev_places us) a d x.place) is (to_spot us a x c at) in
        let m = joined.only a chain x.place spot below in
        let k = place_in ms m.0 m.1.0 in
        let up : IsUpToAt us a (slice_index ms k.0) = subst (IsUpToAt us a) (sym k.1.1) m.1.1 in
        (k.0, (k.1.0, up_from us a (slice_index ms k.0) c low_a (up_inside us a (slice_index ms k.0) low_a up) up));
  };
})

-- where memory was reserved for it
pub joined_row_if : {T E : Type 0} (us : List Update) (items : List ChainItem) (ms : List ℕ) (view : T → List ℕ) (r : Result T E) → IsCausal [] us → items ≡ clock_items us → ((k : ℕ) → k < length ms → slice_index ms k < length us)
    → IfOk r (λ v. IsRowJoined items ms (view v)) → IfOk r (λ v. IsJoinedRow us ms (view v))
joined_row_if us items ms view (Ok v) c clocked inside joined = joined_row_is us items ms (view v) c clocked inside joined
joined_row_if us items ms view (Err e) c clocked inside joined = tt
