-- How many leaves of other writers there are with one update more.
use Rattle.std.proofs.Common.{◌≡◌, ℕ, suc, ◌+◌, Bool, true, false, not, ◌&&◌, ◌||◌, cond, eqb, List, [], ◌∷◌, ◌++◌, map, length, refl, sym, ap, subst, ◌∙◌, arith, length-append, inl, inr}
use Rattle.std.specs.List.{AllByRecursion, filter, list_any}
use Rattle.std.specs.Str.{bytes_eq}
use Rattle.std.proofs.lemmas.List.Elements.{filter-append, filter_agree}
use Rattle.std.proofs.lemmas.List.Filters.{length-filter_both}
use Rattle.std.proofs.lemmas.Slice.Eq.{bytes_eq-Decides}
use Rattle.std.proofs.lemmas.Bool.{both_ways, false_from_ne_true, iff_false, or_from}
use Rattle.depot_base.specs.Zeros.{zeros}
use Rattle.depot_base.specs.declared.update.Update.{Update}
use Rattle.depot_base.specs.declared.update.Dep.{Dep}
use Rattle.depot_model.specs.lists.Lists.{IsIn, is_among}
use Rattle.depot_model.specs.texts.Texts.{id_of_update}
use Rattle.depot_model.specs.updates.Order.{prevs, IsCausal}
use Rattle.depot_model.specs.updates.History.{is_prev_in, leaves_of}
use Rattle.depot_model.specs.journals.Journal.{has_id}
use Rattle.depot_model.proofs.lists.Members.{in_left, in_map, any_to, among_to, all_at, from_filter, in_filter}
use Rattle.depot_model.proofs.of_updates.Orders.{parent_is_there}
use Rattle.depot_base.proofs.GeneralLaws.{same_test, any_push}
use Rattle.std.proofs.Math.Bool.{or-false}
use Rattle.depot_laws.specs.Leaves.{follows_leaf}
use Rattle.depot_model.proofs.of_updates.NamedIds.{has_id_from, has_id_to, new_id}
use Rattle.depot_laws.proofs.records.Causes.{Joins}
use Rattle.depot_model.proofs.lists.RisingUpdates.{HaveOwnIds, own_ids_from_causal, own_ids_filter}

-- ---- filters

-- two tests in turn
filter_turn : {X : Type 0} (a b : X → Bool) (xs : List X) → filter (λ x. not (a x || b x)) xs ≡ filter (λ x. not (b x)) (filter (λ x. not (a x)) xs)
filter_turn a b [] = refl
filter_turn a b (x ∷ xs) = step (a x) (b x) refl refl (filter_turn a b xs) where
  step : (s t : Bool) → a x ≡ s → b x ≡ t → filter (λ y. not (a y || b y)) xs ≡ filter (λ y. not (b y)) (filter (λ y. not (a y)) xs)
      → cond (not (s || t)) (x ∷ filter (λ y. not (a y || b y)) xs) (filter (λ y. not (a y || b y)) xs) ≡ filter (λ y. not (b y)) (cond (not s) (x ∷ filter (λ y. not (a y)) xs) (filter (λ y. not (a y)) xs))
  step true t is_s is_t rest = rest
  step false true is_s is_t rest = rw is_t rest
  step false false is_s is_t rest = rw is_t (ap (λ (ys : List _). x ∷ ys) rest)

-- in either order
filter_swap : {X : Type 0} (p q : X → Bool) (xs : List X) → filter p (filter q xs) ≡ filter q (filter p xs)
filter_swap p q [] = refl
filter_swap p q (x ∷ xs) = step (p x) (q x) refl refl (filter_swap p q xs) where
  step : (s t : Bool) → p x ≡ s → q x ≡ t → filter p (filter q xs) ≡ filter q (filter p xs) → filter p (cond t (x ∷ filter q xs) (filter q xs)) ≡ filter q (cond s (x ∷ filter p xs) (filter p xs))
  step true true is_s is_t rest = rw (is_s, is_t) (ap (λ (ys : List _). x ∷ ys) rest)
  step true false is_s is_t rest = rw is_t rest
  step false true is_s is_t rest = rw is_s rest
  step false false is_s is_t rest = rest

-- ---- one update more

-- its id is the prev of none
no_prev : (us : List Update) (u : Update) → IsCausal [] us → Joins us u → is_prev_in (us ++ u ∷ []) (id_of_update u) ≡ false
no_prev us u c j =
    let known : IsIn (id_of_update u) (map id_of_update us) → ⊥ = new_id us (id_of_update u) j.new in
    let old : list_any (λ t. is_among (id_of_update u) (prevs t)) us ≡ false = false_from_ne_true _ (λ e.
    let a = any_to (λ (t : Update). is_among (id_of_update u) (prevs t)) us e in
    let named_by = in_left (id_of_update u) (prevs a.0) (map (λ (d : Dep). d.id) a.0.deps) (among_to (id_of_update u) (prevs a.0) a.1.1) in
    elim (parent_is_there [] us a.0 (id_of_update u) c a.1.0 named_by) [
      | inl never ↦ never
      | inr there ↦ known (subst (λ (h : List ℕ). IsIn h (map id_of_update us)) there.1.1 (in_map id_of_update there.0 us there.1.0))
    ]) in
    let itself : is_among (id_of_update u) (prevs u) ≡ false = false_from_ne_true _ (λ e.
    let there = j.there (id_of_update u) (in_left (id_of_update u) (prevs u) (map (λ (d : Dep). d.id) u.deps) (among_to (id_of_update u) (prevs u) e)) in
    known (subst (λ (h : List ℕ). IsIn h (map id_of_update us)) there.id (in_map id_of_update there.update us there.on))) in
    any_push (λ (t : Update). is_among (id_of_update u) (prevs t)) us u ∙ or_from _ _ old itself

-- the test that the prev of u is an update
abbrev pub is_before : Update → Update → Bool
is_before u t = is_among (id_of_update t) (prevs u)

-- the leaves with it: those before that aren't its prev, and itself
pub leaves_push : (us : List Update) (u : Update) → IsCausal [] us → Joins us u → leaves_of (us ++ u ∷ []) ≡ filter (λ t. not (is_before u t)) (leaves_of us) ++ u ∷ []
unfolding leaves_of
leaves_push us u c j =
    let test : Update → Bool = λ t. not (is_prev_in (us ++ u ∷ []) (id_of_update t)) in
    let other : Update → Bool = λ t. not (is_prev_in us (id_of_update t) || is_before u t) in
    let agree : (t : Update) → test t ≡ other t = λ t. ap not (any_push (λ (w : Update). is_among (id_of_update t) (prevs w)) us u) in
    let front : filter test us ≡ filter (λ t. not (is_before u t)) (filter (λ t. not (is_prev_in us (id_of_update t))) us) = filter_agree test other agree us ∙ filter_turn (λ (t : Update). is_prev_in us (id_of_update t)) (is_before u) us in
    let last : filter test (u ∷ []) ≡ u ∷ [] = rw (no_prev us u c j) refl in
    filter-append test us (u ∷ []) ∙ rw (front, last) refl

-- the test that an update is another's
abbrev pub is_other : ℕ → Update → Bool
is_other me t = not (eqb t.writer me)

-- The leaves of other writers with it, and those that it replaces, are those before, and itself if it is another's.
pub leaves_count : (me : ℕ) (us : List Update) (u : Update) → IsCausal [] us → Joins us u
    → length (filter (is_other me) (leaves_of (us ++ u ∷ []))) + length (filter (is_before u) (filter (is_other me) (leaves_of us))) ≡ length (filter (is_other me) (leaves_of us)) + cond (is_other me u) 1 0
leaves_count me us u c j =
    let left = filter (λ (t : Update). not (is_before u t)) (leaves_of us) in
    let both = length-filter_both (λ (t : Update). not (is_before u t)) (is_before u) (λ t. twice (is_before u t)) (filter (is_other me) (leaves_of us)) in
    let swap : filter (is_other me) left ≡ filter (λ t. not (is_before u t)) (filter (is_other me) (leaves_of us)) = filter_swap (is_other me) (λ (t : Update). not (is_before u t)) (leaves_of us) in
    let whole : filter (is_other me) (leaves_of (us ++ u ∷ [])) ≡ filter (is_other me) left ++ filter (is_other me) (u ∷ []) = ap (filter (is_other me)) (leaves_push us u c j) ∙ filter-append (is_other me) left (u ∷ []) in
    let long : length (filter (is_other me) (leaves_of (us ++ u ∷ []))) ≡ length (filter (is_other me) left) + length (filter (is_other me) (u ∷ [])) = ap length whole ∙ length-append (filter (is_other me) left) (filter (is_other me) (u ∷ [])) in
    omega (arith, both, ap length swap, long, one (is_other me u)) where
      twice : (b : Bool) → b ≡ not (not b)
      twice true = refl
      twice false = refl

      one : (b : Bool) → length (cond b (u ∷ []) []) ≡ cond b 1 0
      one true = refl
      one false = refl

-- ---- the leaf that it replaces

abbrev one_if : Bool → ℕ
one_if b = cond b 1 0

filter_none : (K : List Update) → length (filter (λ (t : Update). false) K) ≡ 0
filter_none [] = refl
filter_none (t ∷ ts) = filter_none ts

no_id : (t : Update) (ts : List Update) (h : List ℕ) → AllByRecursion (λ u. id_of_update u ≡ id_of_update t → ⊥) ts → id_of_update t ≡ h → has_id ts h ≡ false
no_id t ts h other e = false_from_ne_true (has_id ts h) (λ has. let x = has_id_to ts h has in all_at (λ (u : Update). id_of_update u ≡ id_of_update t → ⊥) ts x.0 other x.1.0 (x.1.1 ∙ sym e))

-- where no id occurs twice, one update has an id, or none
count_id : (K : List Update) (h : List ℕ) → HaveOwnIds K → length (filter (λ t. bytes_eq (id_of_update t) h) K) ≡ cond (has_id K h) 1 0
unfolding has_id
count_id [] h apart = refl
count_id (t ∷ ts) h apart = step (bytes_eq (id_of_update t) h) refl (count_id ts h apart.1) where
  step : (b : Bool) → bytes_eq (id_of_update t) h ≡ b → length (filter (λ u. bytes_eq (id_of_update u) h) ts) ≡ cond (has_id ts h) 1 0
      → length (cond b (t ∷ filter (λ u. bytes_eq (id_of_update u) h) ts) (filter (λ u. bytes_eq (id_of_update u) h) ts)) ≡ cond (b || has_id ts h) 1 0
  step true is rest =
      let none : has_id ts h ≡ false = no_id t ts h apart.0 ((bytes_eq-Decides (id_of_update t) h).0 is) in
      let zero_left : length (filter (λ (u : Update). bytes_eq (id_of_update u) h) ts) ≡ 0 = rest ∙ ap one_if none in
      ap suc zero_left
  step false is rest = rest

before_if : (b : Bool) (h : List ℕ) (K : List Update) → HaveOwnIds K → length (filter (λ t. is_among (id_of_update t) (cond b [] (h ∷ []))) K) ≡ cond (not b && has_id K h) 1 0
before_if true h K apart = filter_none K
before_if false h K apart = ap length (filter_agree (λ (t : Update). is_among (id_of_update t) (h ∷ [])) (λ (t : Update). bytes_eq (id_of_update t) h) (λ t. or-false (bytes_eq (id_of_update t) h)) K) ∙ count_id K h apart

-- how many it replaces
before_count : (K : List Update) (u : Update) → HaveOwnIds K → length (filter (is_before u) K) ≡ cond (not (bytes_eq u.prev zeros) && has_id K u.prev) 1 0
before_count K u apart = before_if (bytes_eq u.prev zeros) u.prev K apart

leaves_apart : (us : List Update) → IsCausal [] us → HaveOwnIds (leaves_of us)
unfolding leaves_of
leaves_apart us c = own_ids_filter _ us (own_ids_from_causal [] us c)

named_not : (h : List ℕ) → bytes_eq h zeros ≡ false → h ≡ zeros → ⊥
named_not h e = iff_false (bytes_eq-Decides h zeros) e

-- where the update of the prev is another's, its being a leaf is its being a leaf of another
same_leaf : (me : ℕ) (us : List Update) (u : Update) → ((t : Update) → IsIn t (leaves_of us) → id_of_update t ≡ u.prev → (u.prev ≡ zeros → ⊥) → is_other me t ≡ true)
    → (not (bytes_eq u.prev zeros) && has_id (filter (is_other me) (leaves_of us)) u.prev) ≡ follows_leaf us u
unfolding follows_leaf
same_leaf me us u theirs = step (bytes_eq u.prev zeros) refl where
  step : (b : Bool) → bytes_eq u.prev zeros ≡ b → (not b && has_id (filter (is_other me) (leaves_of us)) u.prev) ≡ (not b && has_id (leaves_of us) u.prev)
  step true is = refl
  step false is = same_test _ _
      (λ e. let t = has_id_to (filter (is_other me) (leaves_of us)) u.prev e in has_id_from (leaves_of us) u.prev t.0 (from_filter (is_other me) t.0 (leaves_of us) t.1.0).0 t.1.1)
      (λ e. let t = has_id_to (leaves_of us) u.prev e in has_id_from (filter (is_other me) (leaves_of us)) u.prev t.0 (in_filter (is_other me) t.0 (leaves_of us) t.1.0 (theirs t.0 t.1.0 t.1.1 (named_not u.prev is))) t.1.1)

-- where it is the node's own, it isn't
own_leaf : (me : ℕ) (us : List Update) (u : Update) → ((t : Update) → IsIn t (leaves_of us) → id_of_update t ≡ u.prev → (u.prev ≡ zeros → ⊥) → is_other me t ≡ false)
    → (not (bytes_eq u.prev zeros) && has_id (filter (is_other me) (leaves_of us)) u.prev) ≡ false
own_leaf me us u mine = step (bytes_eq u.prev zeros) refl where
  step : (b : Bool) → bytes_eq u.prev zeros ≡ b → (not b && has_id (filter (is_other me) (leaves_of us)) u.prev) ≡ false
  step true is = refl
  step false is = false_from_ne_true _ (λ e.
      let t = has_id_to (filter (is_other me) (leaves_of us)) u.prev e in
      let f = from_filter (is_other me) t.0 (leaves_of us) t.1.0 in
      both_ways (is_other me t.0) (mine t.0 f.0 t.1.1 (named_not u.prev is)) f.1)

less_one : (b : Bool) (n m : ℕ) → n + cond b 1 0 ≡ m + 1 → n ≡ m + cond b 0 1
less_one true n m e = omega arith
less_one false n m e = omega arith

-- an update of another
pub others_count : (me : ℕ) (us : List Update) (u : Update) → IsCausal [] us → Joins us u → is_other me u ≡ true
    → ((t : Update) → IsIn t (leaves_of us) → id_of_update t ≡ u.prev → (u.prev ≡ zeros → ⊥) → is_other me t ≡ true)
    → length (filter (is_other me) (leaves_of (us ++ u ∷ []))) ≡ length (filter (is_other me) (leaves_of us)) + cond (follows_leaf us u) 0 1
others_count me us u c j other theirs =
    let count = leaves_count me us u c j in
    let taken = before_count (filter (is_other me) (leaves_of us)) u (own_ids_filter (is_other me) (leaves_of us) (leaves_apart us c)) ∙ ap one_if (same_leaf me us u theirs) in
    let new : one_if (is_other me u) ≡ 1 = ap one_if other in
    less_one (follows_leaf us u) _ _ (omega (arith, count, taken, new))

-- an own update
pub own_count : (me : ℕ) (us : List Update) (u : Update) → IsCausal [] us → Joins us u → is_other me u ≡ false
    → ((t : Update) → IsIn t (leaves_of us) → id_of_update t ≡ u.prev → (u.prev ≡ zeros → ⊥) → is_other me t ≡ false)
    → length (filter (is_other me) (leaves_of (us ++ u ∷ []))) ≡ length (filter (is_other me) (leaves_of us))
own_count me us u c j own mine =
    let count = leaves_count me us u c j in
    let taken = before_count (filter (is_other me) (leaves_of us)) u (own_ids_filter (is_other me) (leaves_of us) (leaves_apart us c)) ∙ ap one_if (own_leaf me us u mine) in
    let new : one_if (is_other me u) ≡ 0 = ap one_if own in
    omega (arith, count, taken, new)
