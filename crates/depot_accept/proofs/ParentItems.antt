-- The items of the parents of an update.
use Rattle.std.proofs.Common.{◌≡◌, ℕ, zero, suc, ◌+◌, ◌<◌, ◌≤◌, Bool, true, false, cond, not, List, [], ◌∷◌, ◌++◌, length, map, drop, get_or, Some, None, refl, sym, ap, subst, ◌∙◌, arith}
use Rattle.std.specs.Prelude.{Option, slice_get, nat_le, nat_lt}
use Rattle.std.specs.List.{AllByRecursion}
use Rattle.std.specs.Option.{option_to_list}
use Rattle.std.specs.Str.{bytes_eq}
use Rattle.std.proofs.Math.Seq.{drop-cons}
use Rattle.std.proofs.lemmas.List.{drop_all, map-append}
use Rattle.std.proofs.lemmas.Bool.Decides.{nat_tests}
use Rattle.std.proofs.lemmas.List.Concat.{flat_map-append}
use Rattle.std.proofs.lemmas.Option.{slice_get_within}
use Rattle.depot_base.specs.Zeros.{zeros}
use Rattle.depot_base.specs.declared.check.Check.{Check}
use Rattle.depot_base.specs.declared.check.Check.TheVariants as check
use Rattle.depot_base.specs.declared.update.Dep.{Dep}
use Rattle.depot_base.specs.declared.update.Update.{Update}
use Rattle.depot_model.specs.lists.Lists.{when, first}
use Rattle.depot_model.specs.texts.Texts.{id_of_update}
use Rattle.depot_model.specs.updates.Order.{prevs, parents}
use Rattle.depot_model.specs.updates.History.{history_hash}
use Rattle.depot_model.specs.journals.Journal.{named, prev_of}
use Rattle.depot_model.specs.lists.Items.{at, place_of_id, updates_at, places_of, AreItemsOf}
use Rattle.depot_model.specs.checks.Checks.{Sight, sight, lost, missing, not_above, clock_low, greatest_of, clock_far, bad_history}
use Rattle.depot_graph.specs.Closure.{reached, closure_of}
use Rattle.depot_graph.proofs.ItemPlaces.{has_place, places_within}
use Rattle.depot_graph.proofs.Reaching.{past_is_reached}
use Rattle.depot_accept.proofs.FirstFound.{first_front, first_behind, none_front, none_behind}
use Rattle.depot_accept.proofs.NamedUpdates.{named_found, named_lost, prev_named, each_parent}

-- the first of some ids that no update has
abbrev pub first_lost : List Update → List (List ℕ) → Option Check
first_lost us hs = first (map (λ h. lost h (named us h)) hs)

-- ---- what was looked up

-- what isn't lost has a place
has_item : (us : List Update) (h : List ℕ) → lost h (named us h) ≡ None → (n : ℕ) × (place_of_id h us ≡ Some n)
has_item us h e = by_place (place_of_id h us) refl where
  by_place : (o : Option ℕ) → place_of_id h us ≡ o → (n : ℕ) × (place_of_id h us ≡ Some n)
  by_place None is = let gone : lost h None ≡ None = subst (λ (o : Option Update). lost h o ≡ None) (named_lost us h is) e in absurd cc
  by_place (Some n) is = (n, is)

-- where none is lost, each id has its place
none_lost : (us : List Update) (hs : List (List ℕ)) → first_lost us hs ≡ None → AreItemsOf us hs (places_of us hs)
none_lost us [] e = refl
none_lost us (h ∷ hs) e =
    let rest = map (λ k. lost k (named us k)) hs in
    let p = has_item us h (none_front (lost h (named us h)) rest e) in
    ap (λ (o : Option ℕ). o ∷ map (λ k. place_of_id k us) hs) p.1
    ∙ ap (λ (os : List (Option ℕ)). Some p.0 ∷ os) (none_lost us hs (none_behind (lost h (named us h)) rest e))
    ∙ ap (λ (o : Option ℕ). map (λ n. Some n) (option_to_list o ++ places_of us hs)) (sym p.1)

-- the missing parent is the first that is lost
missing_is : (us : List Update) (u : Update) → missing u (sight us u) ≡ first_lost us (parents u)
missing_is us u = ap (λ (os : List (Option Check)). first os) (each_parent lost us u)

lost_both : (us : List Update) (hs ks : List (List ℕ)) → first_lost us (hs ++ ks) ≡ first (map (λ h. lost h (named us h)) hs ++ map (λ h. lost h (named us h)) ks)
lost_both us hs ks = ap (λ (os : List (Option Check)). first os) (map-append (λ h. lost h (named us h)) hs ks)

-- the prev is lost
pub missing_prev : (us : List Update) (u : Update) (c : Check) → Some c ≡ first_lost us (prevs u) → Some c ≡ missing u (sight us u)
missing_prev us u c e =
    sym (missing_is us u ∙ lost_both us (prevs u) (map (λ d. d.id) u.deps) ∙ first_front (map (λ h. lost h (named us h)) (prevs u)) (map (λ h. lost h (named us h)) (map (λ d. d.id) u.deps)) c (sym e))

-- it isn't, and the entries are looked up
pub missing_entry : (us : List Update) (u : Update) (ds : List Dep) (r : Option Check) → ds ≡ u.deps → None ≡ first_lost us (prevs u) → r ≡ first_lost us (map (λ d. d.id) ds) → r ≡ missing u (sight us u)
missing_entry us u ds r same none e =
    e ∙ ap (λ (xs : List Dep). first_lost us (map (λ d. d.id) xs)) same
    ∙ sym (missing_is us u ∙ lost_both us (prevs u) (map (λ d. d.id) u.deps) ∙ first_behind (map (λ h. lost h (named us h)) (prevs u)) (map (λ h. lost h (named us h)) (map (λ d. d.id) u.deps)) (sym none))

-- where none is missing, what was put together is the items of the parents
pub parents_found : (us : List Update) (u : Update) (ds : List Dep) (none some items : List ℕ) → ds ≡ u.deps → none ≡ [] → some ≡ none ++ places_of us (prevs u) → items ≡ some ++ places_of us (map (λ d. d.id) ds) → missing u (sight us u) ≡ None → AreItemsOf us (parents u) items
parents_found us u ds none some items same empty first_are are here =
    none_lost us (parents u) (sym (missing_is us u) ∙ here)
    ∙ ap (λ (ks : List ℕ). map (λ n. Some n) ks) (sym (
    are ∙ ap (λ (ks : List ℕ). ks ++ places_of us (map (λ d. d.id) ds)) (first_are ∙ ap (λ (ks : List ℕ). ks ++ places_of us (prevs u)) empty)
    ∙ ap (λ (xs : List Dep). places_of us (prevs u) ++ places_of us (map (λ d. d.id) xs)) same
    ∙ sym (flat_map-append (λ h. option_to_list (place_of_id h us)) (prevs u) (map (λ d. d.id) u.deps))))

-- ---- the updates at the items

-- what is asked of the updates with these ids is asked of those at their places
at_places : {X : Type 0} (g : List ℕ → Option Update → X) (us : List Update) (hs : List (List ℕ)) (ns : List ℕ) → AreItemsOf us hs ns → map (λ h. g h (named us h)) hs ≡ map (λ t. g (id_of_update t) (Some t)) (updates_at us ns)
at_places g us [] [] e = refl
at_places g us [] (n ∷ ns) e = absurd cc
at_places g us (h ∷ hs) [] e = absurd cc
at_places {X = X} g us (h ∷ hs) (n ∷ ns) e =
    let place : place_of_id h us ≡ Some n = cc in
    let rest : AreItemsOf us hs ns = cc in
    let p = has_place h us n place in
    ap (λ (o : Option Update). g h o ∷ map (λ k. g k (named us k)) hs) (named_found us h n p.0 place p.1.0)
    ∙ ap (λ (k : List ℕ). g k (Some p.0) ∷ map (λ j. g j (named us j)) hs) (sym p.1.1)
    ∙ ap (λ (xs : List X). g (id_of_update p.0) (Some p.0) ∷ xs) (at_places g us hs ns rest)
    ∙ ap (λ (o : Option Update). map (λ t. g (id_of_update t) (Some t)) (option_to_list o ++ updates_at us ns)) (sym p.1.0)

within_at : (k : ℕ) (ns : List ℕ) (i : ℕ) → AllByRecursion (λ n. n < k) ns → i < length ns → get_or ns i 0 < k
within_at k [] i all lt = absurd (omega arith)
within_at k (n ∷ ns) zero all lt = all.0
within_at k (n ∷ ns) (suc i) all lt = within_at k ns i all.1 (omega arith)

-- and so is the one at an index
pub place_within : (us : List Update) (hs : List (List ℕ)) (ns : List ℕ) (i : ℕ) → AreItemsOf us hs ns → i < length ns → get_or ns i 0 < length us
place_within us hs ns i e lt = within_at (length us) ns i (places_within us hs ns e) lt

-- ---- the prev

-- it has the first item
prev_first : (us : List Update) (h : List ℕ) (hs : List (List ℕ)) (ns : List ℕ) → AreItemsOf us (h ∷ hs) ns → (n : ℕ) × ((ns ≡ n ∷ drop 1 ns) × (place_of_id h us ≡ Some n))
prev_first us h hs [] e = absurd cc
prev_first us h hs (n ∷ ns) e = let place : place_of_id h us ≡ Some n = cc in (n, (refl, place))

where_named : (us : List Update) (u : Update) (ns : List ℕ) → bytes_eq u.prev zeros ≡ false → AreItemsOf us (parents u) ns → AreItemsOf us (u.prev ∷ map (λ d. d.id) u.deps) ns
where_named us u ns named_is e = subst (λ (b : Bool). AreItemsOf us (cond b [] (u.prev ∷ []) ++ map (λ d. d.id) u.deps) ns) named_is e

pub prev_at_item : (us : List Update) (u t : Update) (ns : List ℕ) (n : ℕ) → bytes_eq u.prev zeros ≡ false → AreItemsOf us (parents u) ns → n ≡ get_or ns 0 0 → slice_get us n ≡ Some t → Some t ≡ prev_of us u.prev
prev_at_item us u t ns n named_is e is there =
    let p = prev_first us u.prev (map (λ d. d.id) u.deps) ns (where_named us u ns named_is e) in
    let same : n ≡ p.0 = is ∙ ap (λ (ks : List ℕ). get_or ks 0 0) p.1.0 in
    sym (prev_named us u.prev named_is ∙ named_found us u.prev n t (p.1.1 ∙ ap (λ (k : ℕ). Some k) (sym same)) there)

-- ---- the entries

-- the item at a place is that of the entry there
pub entry_at : (us : List Update) (ds : List Dep) (ns : List ℕ) (i : ℕ) (d : Dep) (n : ℕ) → AreItemsOf us (map (λ x. x.id) ds) ns → i < length ds → d ≡ get_or ds i d → n ≡ get_or ns i 0 → place_of_id d.id us ≡ Some n
entry_at us [] ns i d n e lt is at = absurd (omega arith)
entry_at us (x ∷ ds) [] i d n e lt is at = absurd cc
entry_at us (x ∷ ds) (m ∷ ns) zero d n e lt is at =
    let place : place_of_id x.id us ≡ Some m = cc in
    ap (λ (y : Dep). place_of_id y.id us) is ∙ place ∙ ap (λ (k : ℕ). Some k) (sym at)
entry_at us (x ∷ ds) (m ∷ ns) (suc i) d n e lt is at =
    let rest : AreItemsOf us (map (λ y. y.id) ds) ns = cc in
    entry_at us ds ns i d n rest (omega arith) is at

-- and the update at this item is the one that it names
pub entry_named : (us : List Update) (ds : List Dep) (ns : List ℕ) (i : ℕ) (d : Dep) (n : ℕ) (t : Update) → AreItemsOf us (map (λ x. x.id) ds) ns → i < length ds → d ≡ get_or ds i d → n ≡ get_or ns i 0 → slice_get us n ≡ Some t → Some t ≡ named us d.id
entry_named us ds ns i d n t e lt is at there = sym (named_found us d.id n t (entry_at us ds ns i d n e lt is at) there)

-- it is one of the list
pub entry_within : (us : List Update) (ds : List Dep) (ns : List ℕ) (i : ℕ) (d : Dep) (n : ℕ) → AreItemsOf us (map (λ x. x.id) ds) ns → i < length ds → d ≡ get_or ds i d → n ≡ get_or ns i 0 → n < length us
entry_within us ds ns i d n e lt is at = let p = has_place d.id us n (entry_at us ds ns i d n e lt is at) in slice_get_within us n p.0 p.1.0

-- ---- a check of each parent, from a place on

-- the update at this item fails it
pub fails_here : (f : Update → Option Check) (us : List Update) (ns : List ℕ) (i n : ℕ) (t : Update) (c : Check) → i < length ns → n ≡ get_or ns i 0 → slice_get us n ≡ Some t → f t ≡ Some c → first (map f (updates_at us (drop i ns))) ≡ Some c
fails_here f us ns i n t c lt is there e = rw (drop-cons ns i 0 lt, ← is, there, e) refl

-- none is left
pub fails_nowhere_else : (f : Update → Option Check) (us : List Update) (ns : List ℕ) (i : ℕ) → length ns ≤ i → first (map f (updates_at us (drop i ns))) ≡ None
fails_nowhere_else f us ns i past = rw (drop_all i ns past) refl

-- the check of the clock against one parent
abbrev pub low_against : Update → Update → Option Check
low_against u t = not_above u (id_of_update t) (Some t)

-- and against all
pub low_at_items : (us : List Update) (u : Update) (ns : List ℕ) → AreItemsOf us (parents u) ns → clock_low u (sight us u) ≡ first (map (low_against u) (updates_at us ns))
low_at_items us u ns e = ap (λ (os : List (Option Check)). first os) (each_parent (not_above u) us u ∙ at_places (not_above u) us (parents u) ns e)

-- the update at an item has this id, and its clock isn't below
pub low_told : (us : List Update) (u t : Update) (n : ℕ) (id : List ℕ) → slice_get us n ≡ Some t → at us n (λ x. id_of_update x ≡ id) → u.clock ≤ t.clock → low_against u t ≡ Some (check.ClockLow id)
low_told us u t n id there is low =
    let one : t ≡ is.0 = cc (there, is.1.0) in
    let same : id_of_update t ≡ id = ap id_of_update one ∙ is.1.1 in
    let holds : nat_le u.clock t.clock ≡ true = grind (arith, nat_tests) in
    ap (λ (h : List ℕ). not_above u h (Some t)) same ∙ ap (λ (b : Bool). when b (check.ClockLow id)) holds

-- ---- the greatest clock

each_itself : {X : Type 0} (xs : List X) → map (λ x. x) xs ≡ xs
each_itself [] = refl
each_itself {X = X} (x ∷ xs) = ap (λ (ys : List X). x ∷ ys) (each_itself xs)

-- that of the items is that of the parents
pub greatest_at_items : (us : List Update) (u : Update) (ns : List ℕ) → AreItemsOf us (parents u) ns → greatest_of (map (λ t. Some t) (updates_at us ns)) ≡ greatest_of ((sight us u).before ++ map (λ e. e.1) (sight us u).entries)
greatest_at_items us u ns e =
    ap (λ (os : List (Option Update)). greatest_of os)
    (sym (at_places (λ h o. o) us (parents u) ns e) ∙ sym (each_parent (λ h o. o) us u) ∙ ap (λ (os : List (Option Update)). os ++ map (λ x. x.1) (sight us u).entries) (each_itself (sight us u).before))

-- the clock is compared with it
pub far_above : (us : List Update) (u : Update) (ns : List ℕ) (g : ℕ) (b : Bool) → AreItemsOf us (parents u) ns → g ≡ greatest_of (map (λ t. Some t) (updates_at us ns)) → b ≡ nat_lt (g + 65536) u.clock → when b (check.ClockFar g) ≡ clock_far u (sight us u)
far_above us u ns g b e is far =
    ap (λ (x : Bool). when x (check.ClockFar g)) far
    ∙ ap (λ (k : ℕ). when (nat_lt (k + 65536) u.clock) (check.ClockFar k)) (is ∙ greatest_at_items us u ns e)

-- ---- the history

-- what the items of the parents hash to, with all that precedes them, is the right history
pub right_history : (us : List Update) (u : Update) (ns right : List ℕ) → AreItemsOf us (parents u) ns → right ≡ history_hash (closure_of ns us) → right ≡ (sight us u).history
unfolding sight closure_of
right_history us u ns right e is =
    is ∙ ap (λ (hs : List (List ℕ)). history_hash (reached hs us)) (sym (at_places (λ h o. h) us (parents u) ns e) ∙ each_itself (parents u))
    ∙ ap (λ (ts : List Update). history_hash ts) (sym (past_is_reached u us))

-- the update has another
pub history_differs : (u : Update) (seen : Sight) (right : List ℕ) → right ≡ seen.history → not (bytes_eq u.history right) ≡ true → Some (check.BadHistory u.history right) ≡ bad_history u seen
history_differs u seen right is e = rw (← is, e) refl

-- it has this one
pub history_same : (u : Update) (seen : Sight) (right : List ℕ) → right ≡ seen.history → not (bytes_eq u.history right) ≡ false → None ≡ bad_history u seen
history_same u seen right is e = rw (← is, e) refl
