-- The items of updates, one update more at a time.
use Rattle.std.proofs.Common.{◌≡◌, ℕ, ◌-◌, ◌<◌, ◌≤◌, List, [], ◌∷◌, ◌++◌, length, map, Option, Some, None, Bool, true, false, cond, refl, sym, ap, subst, ◌∙◌, arith, inl, inr, Contains, All, IsTrue, slice_get, append_assoc, append-nil}
use Rattle.std.specs.List.{flat_map}
use Rattle.std.specs.Option.{option_to_list}
use Rattle.std.specs.Str.{bytes_eq}
use Rattle.std.proofs.lemmas.List.{map-append}
use Rattle.std.proofs.lemmas.List.Quantifiers.{position-Some}
use Rattle.std.proofs.lemmas.Option.{same_Some}
use Rattle.depot_base.specs.Zeros.{zeros}
use Rattle.depot_base.specs.declared.update.Update.{Update}
use Rattle.depot_model.specs.lists.Lists.{IsIn}
use Rattle.depot_model.specs.texts.Texts.{id_of_update}
use Rattle.depot_model.specs.updates.Order.{parents, IsCausal}
use Rattle.depot_model.specs.lists.Items.{place_of_id, place_of_prev, PrecedesAt}
use Rattle.depot_model.proofs.of_updates.Orders.{causal_front}
use Rattle.depot_order.specs.declared.chains.Spot.{Spot}
use Rattle.depot_order.specs.Spots.{next_spot, spots, spots_behind, chains_of}
use Rattle.depot_order.proofs.Placing.{spots_next}
use Rattle.depot_order.proofs.ChainLengths.{next_place as spot_place, next_chain_low, next_behind}
use Rattle.depot_order.specs.ChainItems.{ChainItem, IsLinked, chain_length, number_of_chains, ItemPrecedes}
use Rattle.depot_base.proofs.MembershipLaws.{from_contains, to_contains}
use Rattle.depot_order.proofs.ItemLists.{all_of_in}
use Rattle.depot_graph.specs.Kept.{prev_places}
use Rattle.depot_graph.specs.Clocked.{parent_places, clock_item, clock_items_behind, clock_items}
use Rattle.depot_graph.proofs.ItemPlaces.{has_place, own_place}
use Rattle.depot_graph.proofs.AddLaws.{prev_places-push}
use Rattle.depot_graph.proofs.ClockedItems.{AreClocked, AreSpotted, clocked_none, clocked_next, spotted_length, spotted_number, spotted_at, clocked_precedes}

-- ---- the places of parents

-- what these ids name is the item of one of them
pub in_flat : (f : List ℕ → Option ℕ) (hs : List (List ℕ)) (a : ℕ) → IsIn a (flat_map (λ h. option_to_list (f h)) hs) → (h : List ℕ) × (IsIn h hs × (f h ≡ Some a))
in_flat f [] a never = absurd never
in_flat f (h ∷ hs) a on = go (f h) refl on (in_flat f hs a) where
  go : (o : Option ℕ) → f h ≡ o → IsIn a (option_to_list o ++ flat_map (λ h. option_to_list (f h)) hs) → (IsIn a (flat_map (λ h. option_to_list (f h)) hs) → (k : List ℕ) × (IsIn k hs × (f k ≡ Some a))) → (k : List ℕ) × (IsIn k (h ∷ hs) × (f k ≡ Some a))
  go None e on rest = let r = rest on in (r.0, (inr r.1.0, r.1.1))
  go (Some b) e (inl here) rest = (h, (inl refl, e ∙ ap (λ (n : ℕ). Some n) here))
  go (Some b) e (inr on) rest = let r = rest on in (r.0, (inr r.1.0, r.1.1))

pub flat_in : (f : List ℕ → Option ℕ) (hs : List (List ℕ)) (h : List ℕ) (a : ℕ) → IsIn h hs → f h ≡ Some a → IsIn a (flat_map (λ h. option_to_list (f h)) hs)
flat_in f [] h a never e = absurd never
flat_in f (k ∷ hs) h a (inl here) e = go (f k) (ap f here ∙ e) where
  go : (o : Option ℕ) → o ≡ Some a → IsIn a (option_to_list o ++ flat_map (λ h. option_to_list (f h)) hs)
  go None e = absurd cc
  go (Some b) e = let same : b ≡ a = cc in inl same
flat_in f (k ∷ hs) h a (inr on) e = behind (f k) (flat_in f hs h a on e) where
  behind : (o : Option ℕ) → IsIn a (flat_map (λ h. option_to_list (f h)) hs) → IsIn a (option_to_list o ++ flat_map (λ h. option_to_list (f h)) hs)
  behind None there = there
  behind (Some b) there = inr there

-- the place of an id is that of its update
id_at : (h : List ℕ) (us : List Update) (a : ℕ) (t : Update) → slice_get us a ≡ Some t → place_of_id h us ≡ Some a → id_of_update t ≡ h
id_at h us a t at e = let p = has_place h us a e in ap id_of_update (same_Some t p.0 (sym at ∙ p.1.0)) ∙ p.1.1

pub parents_low : (us : List Update) (u : Update) (p : ℕ) → Contains (parent_places us u) p → p < length us
parents_low us u p on =
    let r = in_flat (λ h. place_of_id h us) (parents u) p (from_contains p (parent_places us u) on) in
    (position-Some (λ (t : Update). bytes_eq (id_of_update t) r.0) us p u r.1.1).0

pub parents_named : (us : List Update) (u t : Update) (a : ℕ) → IsCausal [] us → slice_get us a ≡ Some t → (Contains (parent_places us u) a → IsIn (id_of_update t) (parents u)) × (IsIn (id_of_update t) (parents u) → Contains (parent_places us u) a)
parents_named us u t a c at = (
  (λ on.
      let r = in_flat (λ h. place_of_id h us) (parents u) a (from_contains a (parent_places us u) on) in
      subst (λ (h : List ℕ). IsIn h (parents u)) (sym (id_at r.0 us a t at r.1.1)) r.1.0),
  (λ named. to_contains a (parent_places us u) (flat_in (λ h. place_of_id h us) (parents u) (id_of_update t) a named (own_place us a t c at))),
)

-- the prev is one of the parents
pub prev_is_parent : (us : List Update) (u : Update) (p : ℕ) → place_of_prev u.prev us ≡ Some p → Contains (parent_places us u) p
prev_is_parent us u p e = to_contains p (parent_places us u) (go (bytes_eq u.prev zeros) e) where
  go : (b : Bool) → cond b None (place_of_id u.prev us) ≡ Some p → IsIn p (flat_map (λ h. option_to_list (place_of_id h us)) (cond b [] (u.prev ∷ []) ++ map (λ d. d.id) u.deps))
  go true e = absurd cc
  go false e = flat_in (λ h. place_of_id h us) (u.prev ∷ map (λ d. d.id) u.deps) u.prev p (inl refl) e

-- ---- one update more

pub clock_items_behind-push : (front us : List Update) (u : Update) → clock_items_behind front (us ++ u ∷ []) ≡ clock_items_behind front us ++ clock_item (front ++ us) u ∷ []
unfolding clock_items_behind
clock_items_behind-push front [] u = ap (λ (ws : List Update). clock_item ws u ∷ []) (sym (append-nil front))
clock_items_behind-push front (t ∷ us) u =
    ap (λ (items : List ChainItem). clock_item front t ∷ items)
    (clock_items_behind-push (front ++ t ∷ []) us u ∙ ap (λ (ws : List Update). clock_items_behind (front ++ t ∷ []) us ++ clock_item ws u ∷ []) (append_assoc front (t ∷ []) us))

pub clock_items-push : (us : List Update) (u : Update) → clock_items (us ++ u ∷ []) ≡ clock_items us ++ clock_item us u ∷ []
clock_items-push us u = clock_items_behind-push [] us u

-- what holds of the items of some updates, and of those after
record IsKept (us : List Update) (items : List ChainItem) : Type 0 where
  pub clocked : AreClocked us items
  pub spotted : AreSpotted items (spots (prev_places us))

kept_next : (us : List Update) (u : Update) (items : List ChainItem) → IsCausal [] (us ++ u ∷ []) → IsKept us items → IsKept (us ++ u ∷ []) (items ++ clock_item us u ∷ [])
kept_next us u items c old = record {
  clocked = clocked_next us u items (clock_item us u) c old.clocked (parents_low us u) (λ a t at. parents_named us u t a (causal_front [] us (u ∷ []) c) at);
  spotted = map-append spot_of items (clock_item us u ∷ []) ∙ (ap (λ (l : List Spot). l ++ spot_of (clock_item us u) ∷ []) old.spotted ∙ sym (ap spots (prev_places-push us u c) ∙ spots_next (prev_places us) (place_of_prev u.prev us)));
}
  where
    spot_of : ChainItem → Spot
    spot_of x = record { chain = x.chain; place = x.place }

kept_behind : (front us : List Update) (items : List ChainItem) → IsCausal [] (front ++ us) → IsKept front items → IsKept (front ++ us) (items ++ clock_items_behind front us)
unfolding clock_items_behind
kept_behind front [] items c k = subst (λ (ws : List Update). IsKept ws (items ++ [])) (sym (append-nil front)) (subst (IsKept front) (sym (append-nil items)) k)
kept_behind front (u ∷ us) items c k =
    let whole : (front ++ u ∷ []) ++ us ≡ front ++ u ∷ us = append_assoc front (u ∷ []) us in
    let causal : IsCausal [] ((front ++ u ∷ []) ++ us) = subst (IsCausal []) (sym whole) c in
    let next = kept_next front u items (causal_front [] (front ++ u ∷ []) us causal) k in
    let all = kept_behind (front ++ u ∷ []) us (items ++ clock_item front u ∷ []) causal next in
    subst (λ (ws : List Update). IsKept ws (items ++ clock_item front u ∷ clock_items_behind (front ++ u ∷ []) us)) whole
    (subst (IsKept ((front ++ u ∷ []) ++ us)) (append_assoc items (clock_item front u ∷ []) (clock_items_behind (front ++ u ∷ []) us)) all)

none_kept : IsKept [] []
unfolding spots spots_behind
none_kept = record { clocked = clocked_none; spotted = refl }

all_kept : (us : List Update) → IsCausal [] us → IsKept us (clock_items us)
all_kept us c = kept_behind [] us [] c none_kept

-- ---- what a graph asks of its clocks

pub clock_long : (us : List Update) → IsCausal [] us → length (clock_items us) ≡ length us
clock_long us c = (all_kept us c).clocked.long

-- the items are where their updates are in the forest by prev
pub clock_spotted : (us : List Update) → IsCausal [] us → AreSpotted (clock_items us) (spots (prev_places us))
clock_spotted us c = (all_kept us c).spotted

-- an item precedes another exactly where its update precedes the other's
pub clock_precedes : (us : List Update) (a b : ℕ) → IsCausal [] us → a < length us → b < length us → (ItemPrecedes (clock_items us) a b → PrecedesAt us a b) × (PrecedesAt us a b → ItemPrecedes (clock_items us) a b)
clock_precedes us a b c low_a low_b = clocked_precedes us (clock_items us) a b (all_kept us c).clocked low_a low_b

-- the same for items that are those of the updates
pub item_low : (us : List Update) (items : List ChainItem) (a : ℕ) → IsCausal [] us → items ≡ clock_items us → a < length us → a < length items
item_low us items a c clocked low = omega (arith, low, ap length clocked, clock_long us c)

pub item_precedes : (us : List Update) (items : List ChainItem) (a b : ℕ) (told : Bool) → IsCausal [] us → items ≡ clock_items us → a < length us → b < length us → (IsTrue told → ItemPrecedes items a b) × (ItemPrecedes items a b → IsTrue told)
    → (IsTrue told → PrecedesAt us a b) × (PrecedesAt us a b → IsTrue told)
item_precedes us items a b told c clocked low_a low_b tells =
    let both = clock_precedes us a b c low_a low_b in (
      (λ yes_. both.0 (subst (λ (xs : List ChainItem). ItemPrecedes xs a b) clocked (tells.0 yes_))),
      (λ p. tells.1 (subst (λ (xs : List ChainItem). ItemPrecedes xs a b) (sym clocked) (both.1 p))),
    )

-- there is one entry of a row for each chain of the forest by prev
pub clock_number : (us : List Update) → IsCausal [] us → number_of_chains (clock_items us) ≡ chains_of (spots (prev_places us))
clock_number us c = spotted_number (clock_items us) (spots (prev_places us)) (all_kept us c).spotted

pub clock_chain : (us : List Update) (u : Update) → IsCausal [] us → (clock_item us u).chain ≤ number_of_chains (clock_items us)
clock_chain us u c = omega (arith, next_chain_low (prev_places us) (place_of_prev u.prev us), clock_number us c)

pub clock_place : (us : List Update) (u : Update) → IsCausal [] us → (clock_item us u).place ≡ chain_length (clock_items us) (clock_item us u).chain
clock_place us u c = spot_place (prev_places us) (place_of_prev u.prev us) ∙ sym (spotted_length (clock_items us) (spots (prev_places us)) (clock_item us u).chain (all_kept us c).spotted)

-- the item before the next one in its chain is the prev, and so a parent
pub clock_linked : (us : List Update) (u : Update) → IsCausal [] us → IsLinked (clock_items us) (clock_item us u).chain (clock_item us u).place (parent_places us u)
clock_linked us u c later =
    let r = next_behind (prev_places us) (place_of_prev u.prev us) later in
    (r.0, (spotted_at (clock_items us) (spots (prev_places us)) r.0 (clock_item us u).chain ((clock_item us u).place - 1) (all_kept us c).spotted r.1.1, prev_is_parent us u r.0 r.1.0))

-- ---- what the next item brings to them

-- the items are those of the updates, and u follows them at this spot, with these parents
pub record IsNextIn (us : List Update) (u : Update) (items : List ChainItem) (spot : Spot) (parents : List ℕ) : Type 0 where
  pub causal : IsCausal [] us
  pub clocked : items ≡ clock_items us
  pub stands : spot ≡ next_spot (prev_places us) (spots (prev_places us)) (place_of_prev u.prev us)
  pub follows : parents ≡ parent_places us u

module _ (us : List Update) (u : Update) (items : List ChainItem) (spot : Spot) (parents : List ℕ) (next : IsNextIn us u items spot parents) where
  -- what holds of the items of the updates, and of u as one, holds of these
  carried : (P : List ChainItem → Spot → List ℕ → Type 0) → P (clock_items us) (next_spot (prev_places us) (spots (prev_places us)) (place_of_prev u.prev us)) (parent_places us u) → P items spot parents
  carried P holds =
      subst (λ (xs : List ChainItem). P xs spot parents) (sym next.clocked) (subst (λ (s : Spot). P (clock_items us) s parents) (sym next.stands)
      (subst (P (clock_items us) (next_spot (prev_places us) (spots (prev_places us)) (place_of_prev u.prev us))) (sym next.follows) holds))

  pub next_few : length us < 4294967295 → length items < 4294967295
  next_few few = omega (arith, few, ap length next.clocked, clock_long us next.causal)

  pub next_parents : All (λ p. p < length items) parents
  next_parents = carried (λ xs s ps. All (λ p. p < length xs) ps)
      (all_of_in (λ p. p < length (clock_items us)) (parent_places us u) (λ p on. omega (arith, parents_low us u p (to_contains p (parent_places us u) on), clock_long us next.causal)))

  pub next_chain : spot.chain ≤ number_of_chains items
  next_chain = carried (λ xs s ps. s.chain ≤ number_of_chains xs) (clock_chain us u next.causal)

  pub next_place : spot.place ≡ chain_length items spot.chain
  next_place = carried (λ xs s ps. s.place ≡ chain_length xs s.chain) (clock_place us u next.causal)

  pub next_linked : IsLinked items spot.chain spot.place parents
  next_linked = carried (λ xs s ps. IsLinked xs s.chain s.place ps) (clock_linked us u next.causal)

  pub next_clocked : (new : List ChainItem) → new ≡ items ++ record { chain = spot.chain; place = spot.place; parents = parents } ∷ [] → new ≡ clock_items (us ++ u ∷ [])
  next_clocked new e = e ∙ (carried (λ xs s ps. xs ++ record { chain = s.chain; place = s.place; parents = ps } ∷ [] ≡ clock_items us ++ clock_item us u ∷ []) refl ∙ sym (clock_items-push us u))
