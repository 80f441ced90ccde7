-- What is sorted in the listed order rises strictly, if no id occurs twice.
use Rattle.std.proofs.Common.{◌≡◌, ℕ, ◌+◌, ◌<◌, List, [], ◌∷◌, length, get_or, Bool, true, false, not, ◌&&◌, cond, map, reverse, refl, sym, ap, subst, ◌∙◌, arith, inl, inr}
use Rattle.std.specs.List.{AllByRecursion, IsDistinct}
use Rattle.std.specs.List.Sorted.{IsPermutation, IsSortedBy, IsStrictlySortedBy}
use Rattle.std.specs.Borrow.{Bor}
use Rattle.std.specs.Fn.{ComparesAs, Called, Mut}
use Rattle.std.specs.Cmp.{IsStrictWeakOrder}
use Rattle.std.proofs.lemmas.Fn.{always_returns_same}
use Rattle.std.specs.Cmp.Lexicographic.{slice_cmp}
use Rattle.std.specs.Str.{bytes_eq}
use Rattle.std.specs.Ordering.{nat_cmp, is_lt}
use Rattle.std.specs.declared.cmp.Ordering.{Ordering}
use Rattle.std.specs.declared.cmp.Ordering.TheVariants.{Less}
use Rattle.std.proofs.lemmas.Cmp.{nat_list_cmp_total}
use Rattle.std.proofs.lemmas.List.{get_or-map, length-map}
use Rattle.std.proofs.lemmas.List.Sorted.{ranks_by, IsPermutation-map, IsPermutation-reverse, IsPermutation-trans, IsPermutation-sym}
use Rattle.std.proofs.lemmas.Map.Keys.{IsDistinct-IsPermutation, apart_from_distinct, sorted_head, sorted_tail, sorted_from_all_adjacent}
use Rattle.std.proofs.lemmas.Slice.Eq.{bytes_eq-Decides}
use Rattle.depot_base.specs.declared.update.Update.{Update}
use Rattle.depot_model.specs.lists.Lists.{IsIn}
use Rattle.depot_model.specs.texts.Texts.{id_of_update}
use Rattle.depot_model.specs.updates.Order.{listed, RisesStrictly, AreLatestIn, IsCausal}
use Rattle.depot_model.proofs.lists.Members.{in_permuted}
use Rattle.depot_model.proofs.of_updates.LatestLaws.{rank, one_rank}
use Rattle.depot_model.proofs.of_updates.Orders.{fresh, causal_behind}
use Rattle.depot_model.proofs.of_updates.ContradictionLaws.{below_or_above}
use Rattle.depot_base.proofs.GeneralLaws.{bytes_eq_comm, less_is}
use Rattle.depot_scan.specs.Bodies.{updates}
use Rattle.depot_model.specs.texts.Contents.{writes as writes_key}
use Rattle.depot_scan.specs.Covered.{covers, uncovered}
use Rattle.depot_scan.specs.declared.body.Body.{Body}
use Rattle.depot_scan.proofs.CoveredLaws.{uncovered_in, latest_from_uncovered, uncovered_from_latest}

abbrev compared : List ℕ → List ℕ → Ordering
compared = slice_cmp nat_cmp

-- the order that the closure computes
abbrev stands_before : Body → Body → Bool
stands_before a b = is_lt (listed a.update b.update)

-- from what a sort ensures, where each call of its closure compares in the listed order
pub sorted_by_listed : {F : Type 0} {g : Mut F (Bor Body × (Bor Body × Unit {0})) Ordering} {f : F} (bs : List Body) → ((lt : Body → Body → Bool) → IsStrictWeakOrder lt → ComparesAs g lt f → IsSortedBy lt bs)
    → ((a : Bor Body × (Bor Body × Unit {0})) (r : Ordering) (f' : F) → Called g f a r f' → (r ≡ listed a.0.now.update a.1.0.now.update) × (f' ≡ f)) → IsSortedBy stands_before bs
sorted_by_listed {g = g} {f = f} bs sorted each =
    sorted stands_before (ranks_by nat_list_cmp_total (λ (b : Body). rank b.update))
    (always_returns_same g (λ a r. is_lt r ≡ stands_before a.0.now a.1.0.now) f (λ a r f' k. (ap is_lt (each a r f' k).0, (each a r f' k).1)))

-- ---- ranks that differ

abbrev ranks : List Update → List (List ℕ)
ranks us = map (λ u. rank u) us

not_rank : (t : Update) (us : List Update) → ((u : Update) → IsIn u us → id_of_update t ≡ id_of_update u → ⊥) → AllByRecursion (λ (r : List ℕ). bytes_eq (rank t) r ≡ false) (ranks us)
not_rank t [] apart = tt
not_rank t (u ∷ us) apart = (differs (bytes_eq (rank t) (rank u)) refl, not_rank t us (λ v on. apart v (inr on))) where
  differs : (b : Bool) → bytes_eq (rank t) (rank u) ≡ b → b ≡ false
  differs true e = absurd (apart u (inl refl) (one_rank t u ((bytes_eq-Decides (rank t) (rank u)).0 e)))
  differs false e = refl

distinct_ranks : (key : List ℕ) (ids : List (List ℕ)) (us : List Update) → IsCausal ids us → IsDistinct bytes_eq (ranks (uncovered key us))
unfolding uncovered IsDistinct
distinct_ranks key ids [] c = tt
distinct_ranks key ids (x ∷ xs) c = pick (writes_key key x && not (covers key xs (id_of_update x))) (distinct_ranks key (id_of_update x ∷ ids) xs (causal_behind ids x xs c)) where
  pick : (b : Bool) → IsDistinct bytes_eq (ranks (uncovered key xs)) → IsDistinct bytes_eq (ranks (cond b (x ∷ uncovered key xs) (uncovered key xs)))
  pick true behind = (not_rank x (uncovered key xs) (λ u on same. fresh (id_of_update x ∷ ids) xs u (causal_behind ids x xs c) (uncovered_in key xs u on).0 (inl same)), behind)
  pick false behind = behind

-- ---- a sorted list

below : (a b : List ℕ) → is_lt (compared b a) ≡ false → bytes_eq a b ≡ false → compared a b ≡ Less
below a b not_above apart = less_is _ (below_or_above b a not_above (bytes_eq_comm b a ∙ apart))

-- the ranks of sorted bodies, one after the other
adjacent : (bs : List Body) → IsSortedBy stands_before bs → IsDistinct bytes_eq (ranks (updates bs)) → (k : ℕ) → k + 1 < length (ranks (updates bs)) → compared (get_or (ranks (updates bs)) k []) (get_or (ranks (updates bs)) (k + 1) []) ≡ Less
adjacent [] sorted distinct k lt = absurd (omega arith)
adjacent (b ∷ bs) sorted distinct k lt =
    let n : length (ranks (updates (b ∷ bs))) ≡ length (b ∷ bs) = length-map (updates (b ∷ bs)) rank ∙ length-map (b ∷ bs) (λ (x : Body). x.update) in
    let at : (i : ℕ) → i < length (b ∷ bs) → get_or (ranks (updates (b ∷ bs))) i [] ≡ rank (get_or (b ∷ bs) i b).update = λ i i_lt.
    get_or-map rank (updates (b ∷ bs)) i b.update [] (omega (arith, i_lt, length-map (b ∷ bs) (λ (x : Body). x.update))) ∙ ap rank (get_or-map (λ (x : Body). x.update) (b ∷ bs) i b b.update i_lt) in
    let one = at k (omega (arith, lt, n)) in
    let two = at (k + 1) (omega (arith, lt, n)) in
    let not_above : is_lt (compared (get_or (ranks (updates (b ∷ bs))) (k + 1) []) (get_or (ranks (updates (b ∷ bs))) k [])) ≡ false = rw (one, two) (sorted k b (omega arith) (omega (arith, lt, n))) in
    below (get_or (ranks (updates (b ∷ bs))) k []) (get_or (ranks (updates (b ∷ bs))) (k + 1) []) not_above (apart_from_distinct bytes_eq (ranks (updates (b ∷ bs))) k (k + 1) [] distinct (omega arith) lt)

listed_below : (t : Update) (us : List Update) → AllByRecursion (λ (r : List ℕ). compared (rank t) r ≡ Less) (ranks us) → AllByRecursion (λ u. is_lt (listed t u) ≡ true) us
listed_below t [] all = tt
listed_below t (u ∷ us) all = (ap is_lt all.0, listed_below t us all.1)

rises_from_ranks : (us : List Update) → IsStrictlySortedBy compared (ranks us) → RisesStrictly us
rises_from_ranks [] s = tt
rises_from_ranks (t ∷ ts) s = (listed_below t ts (sorted_head compared (rank t) (ranks ts) s), rises_from_ranks ts (sorted_tail compared (rank t) (ranks ts) s))

-- ---- the answer

-- what was found, sorted, are the latest writes
pub sorted_are_latest : (key : List ℕ) (us : List Update) (found sorted : List Body) → IsCausal [] us → updates found ≡ reverse (uncovered key us) → IsPermutation found sorted → IsSortedBy stands_before sorted → AreLatestIn key us (updates sorted)
sorted_are_latest key us found sorted c is moved in_order =
    let turned_round : IsPermutation (uncovered key us) (updates found) = subst (λ (vs : List Update). IsPermutation (uncovered key us) vs) (sym is) (IsPermutation-reverse (uncovered key us)) in
    let p : IsPermutation (uncovered key us) (updates sorted) = IsPermutation-trans (uncovered key us) (updates found) (updates sorted) turned_round (IsPermutation-map (λ (b : Body). b.update) found sorted moved) in
    let distinct = IsDistinct-IsPermutation bytes_eq bytes_eq_comm (ranks (uncovered key us)) (ranks (updates sorted)) (IsPermutation-map rank (uncovered key us) (updates sorted) p) (distinct_ranks key [] us c) in
    record {
      all = λ u latest. in_permuted u (uncovered key us) (updates sorted) p (uncovered_from_latest key us u latest);
      only = λ u on. latest_from_uncovered key us u c (in_permuted u (updates sorted) (uncovered key us) (IsPermutation-sym (uncovered key us) (updates sorted) p) on);
      rising = rises_from_ranks (updates sorted) (sorted_from_all_adjacent nat_list_cmp_total (ranks (updates sorted)) [] (adjacent sorted in_order distinct));
    }
