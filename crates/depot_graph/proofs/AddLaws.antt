-- What an update more changes.
use Rattle.std.proofs.Common.{◌≡◌, ℕ, zero, suc, ◌<◌, ◌≤◌, ◌+◌, List, [], ◌∷◌, ◌++◌, length, map, get_or, set, filter, Option, Some, None, Bool, true, false, not, cond, ◌||◌, ◌&&◌, refl, sym, ap, subst, ◌∙◌, inl, inr, ◌⊎◌, arith, slice_get, append-nil, eq-eqb, eqb, nat_lt, Result, Ok, Err, IsOk, OnOk}
use Rattle.std.specs.List.{list_any, position_or_len}
use Rattle.std.specs.Map.{keys_of}
use Rattle.std.specs.Str.{bytes_eq}
use Rattle.std.proofs.lemmas.Slice.Eq.{bytes_eq-Decides}
use Rattle.std.proofs.lemmas.Bool.{and_from, or_from, or_left, cases_order, cases_lt, lt-ltb, le-ltb, ne_eqb, false_from_ne_true, not_from_false}
use Rattle.std.proofs.lemmas.List.{map-append, length_push, length-map}
use Rattle.std.proofs.lemmas.List.Folds.{position_or_len_push}
use Rattle.std.proofs.lemmas.List.Sums.{prefix_len-le-length}
use Rattle.std.proofs.Math.Bool.{or-false}
use Rattle.std.proofs.lemmas.List.Quantifiers.{position-Some}
use Rattle.std.proofs.lemmas.Option.{slice_get-get_or, same_Some}
use Rattle.indexmap.specs.IndexMap.{insert_entry}
use Rattle.depot_base.specs.Zeros.{zeros}
use Rattle.depot_base.specs.declared.update.Update.{Update}
use Rattle.depot_model.specs.lists.Lists.{IsIn, is_among}
use Rattle.depot_model.specs.texts.Texts.{id_of_update}
use Rattle.depot_model.specs.updates.Order.{parents, prevs, IsCausal}
use Rattle.depot_model.specs.updates.History.{is_prev_in}
use Rattle.depot_model.specs.lists.Items.{place_of_id, place_of_prev, places_where}
use Rattle.depot_model.proofs.lists.Members.{in_left, in_last, in_pushed, from_map, among_to, all_among_from}
use Rattle.depot_model.proofs.of_updates.Orders.{causal_front, parent_is_there, parents_of_last}
use Rattle.depot_model.proofs.lists.Elements.{in_at}
use Rattle.depot_base.proofs.GeneralLaws.{get_last, any_push}
use Rattle.depot_graph.specs.Causal.{is_causal}
use Rattle.depot_graph.specs.Kept.{updates_in, child_lists, leaf_places, prev_places}
use Rattle.depot_graph.specs.Kin.{is_place, siblings_of, with_siblings}
use Rattle.depot_graph.proofs.Front.{apart}
use Rattle.depot_graph.specs.OrderLaws.{one_place}
use Rattle.depot_graph.proofs.ItemPlaces.{has_no_place}

-- ---- the map

-- the id of the last is none's before it
pub is_fresh : (us : List Update) (u : Update) → IsCausal [] (us ++ u ∷ []) → IsIn (id_of_update u) (map id_of_update us) → ⊥
is_fresh us u c on = let t = from_map id_of_update (id_of_update u) us on in apart [] us (u ∷ []) t.0 u c t.1.0 (inl refl) t.1.1

insert_chosen : {X : Type 0} (b : Bool) (e : List ℕ × X) (es ins : List (List ℕ × X)) (k : List ℕ) (x : X) → (b ≡ true → ⊥) → ins ≡ es ++ (k, x) ∷ [] → cond b ((e.0, x) ∷ es) (e ∷ ins) ≡ e ∷ (es ++ (k, x) ∷ [])
insert_chosen true e es ins k x new rest = absurd (new refl)
insert_chosen {X = X} false e es ins k x new rest = ap (λ (ys : List (List ℕ × X)). e ∷ ys) rest

-- a new key goes last
pub inserted_last : {X : Type 0} (es : List (List ℕ × X)) (k : List ℕ) (x : X) → (IsIn k (keys_of es) → ⊥) → insert_entry bytes_eq es k x ≡ es ++ (k, x) ∷ []
inserted_last [] k x new = refl
inserted_last (e ∷ es) k x new = insert_chosen (bytes_eq k e.0) e es (insert_entry bytes_eq es k x) k x (λ same. new (inl (sym ((bytes_eq-Decides k e.0).0 same)))) (inserted_last es k x (λ on. new (inr on)))

-- what is in the order of acceptance passes the test
pub causal_to_test : (ids : List (List ℕ)) (us : List Update) → IsCausal ids us → is_causal ids us ≡ true
unfolding IsCausal
causal_to_test ids [] c = refl
causal_to_test ids (u ∷ us) c = and_from _ _ (all_among_from (parents u) ids c.0) (and_from _ _ (not_from_false _ (false_from_ne_true _ (λ e. c.1.0 (among_to (id_of_update u) ids e)))) (causal_to_test (id_of_update u ∷ ids) us c.1.1))

-- ---- the prev

apart_places : (us : List Update) (p k : ℕ) (w t : Update) → IsCausal [] us → slice_get us p ≡ Some w → slice_get us k ≡ Some t → id_of_update w ≡ id_of_update t → (p < k) ⊎ (k < p) → ⊥
apart_places us p k w t c at_p at_k e (inl lt) = let same = one_place [] us p k w t c at_p at_k e in omega (arith, lt, same)
apart_places us p k w t c at_p at_k e (inr gt) = let same = one_place [] us p k w t c at_p at_k e in omega (arith, gt, same)

is_it : (h : List ℕ) (us : List Update) (k : ℕ) (t : Update) → IsCausal [] us → slice_get us k ≡ Some t → (o : Option ℕ) → place_of_id h us ≡ o → (bytes_eq (id_of_update t) h || false) ≡ is_place o k
is_it h us k t c at_k None none = or_from (bytes_eq (id_of_update t) h) false (false_from_ne_true _ (λ e. has_no_place h us t none (in_at us k t at_k) ((bytes_eq-Decides (id_of_update t) h).0 e))) refl
is_it h us k t c at_k (Some p) found =
    let at = position-Some (λ (u : Update). bytes_eq (id_of_update u) h) us p t found in
    let w = get_or us p t in
    let at_p : slice_get us p ≡ Some w = slice_get-get_or us p t at.0 in
    let named : id_of_update w ≡ h = (bytes_eq-Decides (id_of_update w) h).0 at.1 in
    elim (cases_order p k) [
      | inl same ↦
          let one : w ≡ t = same_Some w t (sym at_p ∙ (ap (slice_get us) same ∙ at_k)) in
          or_left (bytes_eq (id_of_update t) h) false ((bytes_eq-Decides (id_of_update t) h).1 (ap id_of_update (sym one) ∙ named)) ∙ sym (eq-eqb p k same)
      | inr other ↦
          or_from (bytes_eq (id_of_update t) h) false (false_from_ne_true _ (λ e. apart_places us p k w t c at_p at_k (named ∙ sym ((bytes_eq-Decides (id_of_update t) h).0 e)) other)) refl
          ∙ sym (ne_eqb p k (λ same. elim other [ inl lt ↦ omega (arith, lt, same) | inr gt ↦ omega (arith, gt, same) ]))
    ]

-- the update at a place is the prev where its place is that of the prev
prev_is_place : (us : List Update) (u : Update) (k : ℕ) (t : Update) → IsCausal [] us → slice_get us k ≡ Some t → is_among (id_of_update t) (prevs u) ≡ is_place (place_of_prev u.prev us) k
prev_is_place us u k t c at_k = go (bytes_eq u.prev zeros) where
  go : (b : Bool) → is_among (id_of_update t) (cond b [] (u.prev ∷ [])) ≡ is_place (cond b None (place_of_id u.prev us)) k
  go true = refl
  go false = is_it u.prev us k t c at_k (place_of_id u.prev us) refl

-- the prev, where there is one, is one of them
pub prev_inside : (us : List Update) (u : Update) (place : ℕ) → place_of_prev u.prev us ≡ Some place → place < length us
prev_inside us u place = go (bytes_eq u.prev zeros) where
  go : (b : Bool) → cond b None (place_of_id u.prev us) ≡ Some place → place < length us
  go true e = absurd cc
  go false e = (position-Some (λ (t : Update). bytes_eq (id_of_update t) u.prev) us place u e).0

-- nothing has the last as its prev
last_is_no_prev : (us : List Update) (u v : Update) → IsCausal [] (us ++ u ∷ []) → IsIn v (us ++ u ∷ []) → is_among (id_of_update u) (prevs v) ≡ false
last_is_no_prev us u v c on = false_from_ne_true _ (λ e.
    let named : IsIn (id_of_update u) (parents v) = in_left (id_of_update u) (prevs v) (map (λ d. d.id) v.deps) (among_to (id_of_update u) (prevs v) e) in
    elim (in_pushed v us u on) [
      | inl before ↦ elim (parent_is_there [] us v (id_of_update u) (causal_front [] us (u ∷ []) c) before named) [
        | inl never ↦ never
        | inr found ↦ apart [] us (u ∷ []) found.0 u c found.1.0 (inl refl) found.1.1
      ]
      | inr is_u ↦ elim (parents_of_last [] us u (id_of_update u) c (subst (λ (w : Update). IsIn (id_of_update u) (parents w)) (sym is_u) named)) [
        | inl never ↦ never
        | inr among ↦ is_fresh us u c among
      ]
    ])

-- ---- tests over a list and one more

any_none : {X : Type 0} (test : X → Bool) (xs : List X) → ((x : X) → IsIn x xs → test x ≡ false) → list_any test xs ≡ false
any_none test [] none = refl
any_none test (x ∷ xs) none = or_from (test x) (list_any test xs) (none x (inl refl)) (any_none test xs (λ y on. none y (inr on)))

-- ---- places of a list and one more

places_where-push : (test : Update → Bool) (n : ℕ) (us : List Update) (u : Update) → places_where test n (us ++ u ∷ []) ≡ places_where test n us ++ cond (test u) ((n + length us) ∷ []) []
unfolding places_where
places_where-push test n [] u = let same : n ≡ n + 0 = omega arith in ap (λ (m : ℕ). cond (test u) (m ∷ []) []) same
places_where-push test n (t ∷ us) u =
    let same : (n + 1) + length us ≡ n + suc (length us) = omega arith in
    let rest : places_where test (n + 1) (us ++ u ∷ []) ≡ places_where test (n + 1) us ++ cond (test u) ((n + suc (length us)) ∷ []) [] =
    places_where-push test (n + 1) us u ∙ ap (λ (m : ℕ). places_where test (n + 1) us ++ cond (test u) (m ∷ []) []) same in
    ap (λ (ms : List ℕ). cond (test t) (n ∷ ms) ms) rest ∙ behind (test t) n (places_where test (n + 1) us) (cond (test u) ((n + suc (length us)) ∷ []) []) where
      behind : (b : Bool) (n : ℕ) (xs ys : List ℕ) → cond b (n ∷ (xs ++ ys)) (xs ++ ys) ≡ cond b (n ∷ xs) xs ++ ys
      behind true n xs ys = refl
      behind false n xs ys = refl

places_none : (test : Update → Bool) (n : ℕ) (us : List Update) → ((v : Update) → IsIn v us → test v ≡ false) → places_where test n us ≡ []
unfolding places_where
places_none test n [] none = refl
places_none test n (t ∷ us) none = ap (λ (b : Bool). cond b (n ∷ places_where test (n + 1) us) (places_where test (n + 1) us)) (none t (inl refl)) ∙ places_none test (n + 1) us (λ v on. none v (inr on))

filter_step : (keep : ℕ → Bool) (a b : Bool) (n : ℕ) (xs ys : List ℕ) → a ≡ (b && keep n) → xs ≡ filter keep ys → cond a (n ∷ xs) xs ≡ filter keep (cond b (n ∷ ys) ys)
filter_step keep a true n xs ys e rest = ap (λ (c : Bool). cond c (n ∷ xs) xs) e ∙ ap (λ (ms : List ℕ). cond (keep n) (n ∷ ms) ms) rest
filter_step keep a false n xs ys e rest = ap (λ (c : Bool). cond c (n ∷ xs) xs) e ∙ rest

-- what passes a narrower test are those of the places that are kept
places_kept : (test wide : Update → Bool) (keep : ℕ → Bool) (n : ℕ) (us : List Update) → ((k : ℕ) (t : Update) → slice_get us k ≡ Some t → test t ≡ (wide t && keep (n + k))) → places_where test n us ≡ filter keep (places_where wide n us)
unfolding places_where
places_kept test wide keep n [] each = refl
places_kept test wide keep n (t ∷ us) each =
    let none : n + 0 ≡ n = omega arith in
    filter_step keep (test t) (wide t) n (places_where test (n + 1) us) (places_where wide (n + 1) us) (each 0 t refl ∙ ap (λ (m : ℕ). wide t && keep m) none)
    (places_kept test wide keep (n + 1) us (λ k v at_k. let same : n + suc k ≡ (n + 1) + k = omega arith in each (suc k) v at_k ∙ ap (λ (m : ℕ). wide v && keep m) same))

not_either : (a b : Bool) → not (a || b) ≡ (not a && not b)
not_either true b = refl
not_either false b = refl

-- the leaves are those that aren't the prev, and the last
pub leaf_places-push : (us : List Update) (u : Update) → IsCausal [] (us ++ u ∷ []) → leaf_places (us ++ u ∷ []) ≡ filter (λ n. not (is_place (place_of_prev u.prev us) n)) (leaf_places us) ++ length us ∷ []
leaf_places-push us u c =
    let test : Update → Bool = λ t. not (is_prev_in (us ++ u ∷ []) (id_of_update t)) in
    let wide : Update → Bool = λ t. not (is_prev_in us (id_of_update t)) in
    let keep : ℕ → Bool = λ n. not (is_place (place_of_prev u.prev us) n) in
    let front : places_where test 0 us ≡ filter keep (places_where wide 0 us) = places_kept test wide keep 0 us (λ k t at_k.
    let here : k ≡ 0 + k = omega arith in
    ap not (any_push (λ (v : Update). is_among (id_of_update t) (prevs v)) us u)
    ∙ (not_either (is_prev_in us (id_of_update t)) (is_among (id_of_update t) (prevs u))
    ∙ (ap (λ (b : Bool). not (is_prev_in us (id_of_update t)) && not b) (prev_is_place us u k t (causal_front [] us (u ∷ []) c) at_k) ∙ ap (λ (m : ℕ). wide t && keep m) here))) in
    let last : test u ≡ true = ap not (any_none (λ (v : Update). is_among (id_of_update u) (prevs v)) (us ++ u ∷ []) (λ v on. last_is_no_prev us u v c on)) in
    let place : 0 + length us ≡ length us = omega arith in
    places_where-push test 0 us u
    ∙ (ap (λ (b : Bool). places_where test 0 us ++ cond b ((0 + length us) ∷ []) []) last
    ∙ (ap (λ (ns : List ℕ). ns ++ (0 + length us) ∷ []) front ∙ ap (λ (n : ℕ). filter keep (places_where wide 0 us) ++ n ∷ []) place))

-- ---- children

same_images : {X Y : Type 0} (f g : X → Y) (xs : List X) → ((k : ℕ) (x : X) → slice_get xs k ≡ Some x → f x ≡ g x) → map f xs ≡ map g xs
same_images f g [] each = refl
same_images {Y = Y} f g (x ∷ xs) each = ap (λ (y : Y). y ∷ map f xs) (each 0 x refl) ∙ ap (λ (ys : List Y). g x ∷ ys) (same_images f g xs (λ k y at_k. each (suc k) y at_k))

-- one image changes
one_changes : (f g : Update → List ℕ) (n : ℕ) (us : List Update) (p : ℕ) → p < length us → ((k : ℕ) (t : Update) → slice_get us k ≡ Some t → k ≡ p → g t ≡ f t ++ n ∷ []) → ((k : ℕ) (t : Update) → slice_get us k ≡ Some t → (k ≡ p → ⊥) → g t ≡ f t)
    → set (map f us) p (get_or (map f us) p [] ++ n ∷ []) ≡ map g us
one_changes f g n [] p lt hit miss = absurd (omega arith)
one_changes f g n (t ∷ us) zero lt hit miss =
    ap (λ (ns : List ℕ). ns ∷ map f us) (sym (hit 0 t refl refl)) ∙ ap (λ (ls : List (List ℕ)). g t ∷ ls) (same_images f g us (λ k v at_k. sym (miss (suc k) v at_k (λ e. omega (arith, e)))))
one_changes f g n (t ∷ us) (suc p) lt hit miss =
    ap (λ (ns : List ℕ). ns ∷ set (map f us) p (get_or (map f us) p [] ++ n ∷ [])) (sym (miss 0 t refl (λ e. omega (arith, e))))
    ∙ ap (λ (ls : List (List ℕ)). g t ∷ ls) (one_changes f g n us p (omega arith) (λ k v at_k e. hit (suc k) v at_k (ap suc e)) (λ k v at_k ne. miss (suc k) v at_k (λ e. ne (omega (arith, e)))))

-- the lists of children, once the last is added at its prev
pub child_lists-push : (us : List Update) (u : Update) → IsCausal [] (us ++ u ∷ [])
    → with_siblings (place_of_prev u.prev us) (siblings_of (place_of_prev u.prev us) (length us) (child_lists us)) (child_lists us) ++ [] ∷ [] ≡ child_lists (us ++ u ∷ [])
child_lists-push us u c =
    let f : Update → List ℕ = λ t. places_where (λ v. is_among (id_of_update t) (prevs v)) 0 us in
    let g : Update → List ℕ = λ t. places_where (λ v. is_among (id_of_update t) (prevs v)) 0 (us ++ u ∷ []) in
    let front = causal_front [] us (u ∷ []) c in
    let last : g u ≡ [] = places_none (λ v. is_among (id_of_update u) (prevs v)) 0 (us ++ u ∷ []) (λ v on. last_is_no_prev us u v c on) in
    let step : (k : ℕ) (t : Update) → slice_get us k ≡ Some t → g t ≡ f t ++ cond (is_place (place_of_prev u.prev us) k) ((0 + length us) ∷ []) [] = λ k t at_k.
    places_where-push (λ v. is_among (id_of_update t) (prevs v)) 0 us u ∙ ap (λ (b : Bool). f t ++ cond b ((0 + length us) ∷ []) []) (prev_is_place us u k t front at_k) in
    sym (map-append g us (u ∷ []) ∙ ap (λ (ns : List ℕ). map g us ++ ns ∷ []) last ∙ ap (λ (ls : List (List ℕ)). ls ++ [] ∷ []) (sym (changed f g us (length us) (place_of_prev u.prev us) (λ p e. prev_inside us u p e) step)))
  where
    changed : (f g : Update → List ℕ) (us : List Update) (n : ℕ) (o : Option ℕ) → ((p : ℕ) → o ≡ Some p → p < length us) → ((k : ℕ) (t : Update) → slice_get us k ≡ Some t → g t ≡ f t ++ cond (is_place o k) ((0 + n) ∷ []) [])
        → with_siblings o (siblings_of o n (map f us)) (map f us) ≡ map g us
    changed f g us n None inside step = same_images f g us (λ k t at_k. sym (step k t at_k ∙ append-nil (f t)))
    changed f g us n (Some p) inside step = one_changes f g n us p (inside p refl)
        (λ k t at_k e. let plain : 0 + n ≡ n = omega arith in step k t at_k ∙ (ap (λ (b : Bool). f t ++ cond b ((0 + n) ∷ []) []) (eq-eqb p k (sym e)) ∙ ap (λ (m : ℕ). f t ++ m ∷ []) plain))
        (λ k t at_k ne. step k t at_k ∙ (ap (λ (b : Bool). f t ++ cond b ((0 + n) ∷ []) []) (ne_eqb p k (λ e. ne (sym e))) ∙ append-nil (f t)))

-- ---- chains

at_most_length : (test : Update → Bool) (us : List Update) → position_or_len test us ≤ length us
at_most_length test us = prefix_len-le-length (λ (v : Update). not (test v)) us

same_place : (n len : ℕ) → n ≤ len → cond (nat_lt (cond (eqb n len) (len + 1) n) (len + 1)) (Some (cond (eqb n len) (len + 1) n)) None ≡ cond (nat_lt n len) (Some n) None
same_place n len le = elim (cases_lt n len) [
  | inl lt ↦
      ap (λ (b : Bool). cond (nat_lt (cond b (len + 1) n) (len + 1)) (Some (cond b (len + 1) n)) None) (ne_eqb n len (λ e. omega (arith, e, lt)))
      ∙ (ap (λ (b : Bool). cond b (Some n) None) (lt-ltb n (len + 1) (omega (arith, lt))) ∙ sym (ap (λ (b : Bool). cond b (Some n) None) (lt-ltb n len lt)))
  | inr ge ↦
      ap (λ (b : Bool). cond (nat_lt (cond b (len + 1) n) (len + 1)) (Some (cond b (len + 1) n)) None) (eq-eqb n len (omega (arith, le, ge)))
      ∙ (ap (λ (b : Bool). cond b (Some (len + 1)) None) (le-ltb (len + 1) (len + 1) (omega arith)) ∙ sym (ap (λ (b : Bool). cond b (Some n) None) (le-ltb n len ge)))
]

-- where an id that isn't the last's is
place_of_id-push : (h : List ℕ) (us : List Update) (u : Update) → bytes_eq (id_of_update u) h ≡ false → place_of_id h (us ++ u ∷ []) ≡ place_of_id h us
place_of_id-push h us u other =
    let test : Update → Bool = λ v. bytes_eq (id_of_update v) h in
    let n = position_or_len test us in
    let len = length us in
    let moved : position_or_len test (us ++ u ∷ []) ≡ cond (eqb n len) (len + 1) n = position_or_len_push test us u ∙ ap (λ (b : Bool). cond (eqb n len) (len + cond b 0 1) n) other in
    ap (λ (m : ℕ). cond (nat_lt m (length (us ++ u ∷ []))) (Some m) None) moved
    ∙ (ap (λ (m : ℕ). cond (nat_lt (cond (eqb n len) (len + 1) n) m) (Some (cond (eqb n len) (len + 1) n)) None) (length_push us u) ∙ same_place n len (at_most_length test us))

-- the prev of none is the last
prev_stays : (us : List Update) (u v : Update) → IsCausal [] (us ++ u ∷ []) → IsIn v (us ++ u ∷ []) → place_of_prev v.prev (us ++ u ∷ []) ≡ place_of_prev v.prev us
prev_stays us u v c on = go (bytes_eq v.prev zeros) (last_is_no_prev us u v c on) where
  go : (b : Bool) → is_among (id_of_update u) (cond b [] (v.prev ∷ [])) ≡ false → cond b None (place_of_id v.prev (us ++ u ∷ [])) ≡ cond b None (place_of_id v.prev us)
  go true e = refl
  go false e = place_of_id-push v.prev us u (sym (or-false (bytes_eq (id_of_update u) v.prev)) ∙ e)

pub prev_places-push : (us : List Update) (u : Update) → IsCausal [] (us ++ u ∷ []) → prev_places (us ++ u ∷ []) ≡ prev_places us ++ place_of_prev u.prev us ∷ []
prev_places-push us u c =
    let then : Update → Option ℕ = λ v. place_of_prev v.prev (us ++ u ∷ []) in
    let before : Update → Option ℕ = λ v. place_of_prev v.prev us in
    map-append then us (u ∷ [])
    ∙ (ap (λ (ps : List (Option ℕ)). ps ++ then u ∷ []) (same_images then before us (λ k t at_k. prev_stays us u t c (in_left t us (u ∷ []) (in_at us k t at_k))))
    ∙ ap (λ (p : Option ℕ). prev_places us ++ p ∷ []) (prev_stays us u u c (in_last us u)))

-- ---- what is found before the first write

pub leaves_from : (us : List Update) (u : Update) (o : Option ℕ) (n : ℕ) (old new : List ℕ) → IsCausal [] (us ++ u ∷ []) → o ≡ place_of_prev u.prev us → n ≡ length us → old ≡ leaf_places us
    → new ≡ filter (λ m. not (is_place o m)) old ++ n ∷ [] → new ≡ leaf_places (us ++ u ∷ [])
leaves_from us u o n old new c prev count kept e =
    e ∙ (ap (λ (p : Option ℕ). filter (λ m. not (is_place p m)) old ++ n ∷ []) prev
    ∙ (ap (λ (ns : List ℕ). filter (λ m. not (is_place (place_of_prev u.prev us) m)) ns ++ n ∷ []) kept
    ∙ (ap (λ (m : ℕ). filter (λ m. not (is_place (place_of_prev u.prev us) m)) (leaf_places us) ++ m ∷ []) count ∙ sym (leaf_places-push us u c))))

pub children_from : (us : List Update) (u : Update) (o : Option ℕ) (n : ℕ) (old : List (List ℕ)) (siblings none : List ℕ) → IsCausal [] (us ++ u ∷ []) → o ≡ place_of_prev u.prev us → n ≡ length us → old ≡ child_lists us
    → siblings ≡ siblings_of o n old → none ≡ [] → with_siblings o siblings (child_lists us) ++ none ∷ [] ≡ child_lists (us ++ u ∷ [])
children_from us u o n old siblings none c prev count kept e empty =
    ap (λ (ns : List ℕ). with_siblings o siblings (child_lists us) ++ ns ∷ []) empty
    ∙ (ap (λ (ns : List ℕ). with_siblings o ns (child_lists us) ++ [] ∷ []) (e ∙ (ap (siblings_of o n) kept ∙ ap (λ (m : ℕ). siblings_of o m (child_lists us)) count))
    ∙ (ap (λ (p : Option ℕ). with_siblings p (siblings_of p (length us) (child_lists us)) (child_lists us) ++ [] ∷ []) prev ∙ child_lists-push us u c))

-- ---- what is kept then

-- what is said of an Ok, where it is one
pub said_of_ok : {T E : Type 0} (r : Result T E) (P : Type 0) → IsOk r → OnOk r P → P
said_of_ok (Ok x) P ok on = on
said_of_ok (Err e) P ok on = absurd (no ok) where
  no : false ≡ true → ⊥
  no h = cc

pub updates_then : (es : List (List ℕ × Update)) (k : List ℕ) (u : Update) → updates_in (es ++ (k, u) ∷ []) ≡ updates_in es ++ u ∷ []
updates_then es k u = map-append (λ (e : List ℕ × Update). e.1) es ((k, u) ∷ [])

pub keys_then : (es : List (List ℕ × Update)) (k : List ℕ) (u : Update) → keys_of es ≡ map id_of_update (updates_in es) → k ≡ id_of_update u → keys_of (es ++ (k, u) ∷ []) ≡ map id_of_update (updates_in (es ++ (k, u) ∷ []))
keys_then es k u ids e =
    map-append (λ (e : List ℕ × Update). e.0) es ((k, u) ∷ [])
    ∙ (ap (λ (ks : List (List ℕ)). ks ++ k ∷ []) ids ∙ (ap (λ (h : List ℕ). map id_of_update (updates_in es) ++ h ∷ []) e
    ∙ (sym (map-append id_of_update (updates_in es) (u ∷ [])) ∙ ap (map id_of_update) (sym (updates_then es k u)))))

-- what the map holds then
pub entries_then : (es new : List (List ℕ × Update)) (k : List ℕ) (u : Update) → keys_of es ≡ map id_of_update (updates_in es) → k ≡ id_of_update u → IsCausal [] (updates_in es ++ u ∷ [])
    → new ≡ insert_entry bytes_eq es k u → new ≡ es ++ (k, u) ∷ []
entries_then es new k u ids key c e =
    e ∙ inserted_last es k u (λ on. is_fresh (updates_in es) u c (subst (λ (h : List ℕ). IsIn h (map id_of_update (updates_in es))) key (subst (λ (ks : List (List ℕ)). IsIn k ks) ids on)))

module _ (es new : List (List ℕ × Update)) (k : List ℕ) (u : Update) (last : new ≡ es ++ (k, u) ∷ []) where
  pub updates_kept : updates_in new ≡ updates_in es ++ u ∷ []
  updates_kept = ap updates_in last ∙ updates_then es k u

  pub count_kept : length (updates_in es) < 4294967295 → length new < 4294967296
  count_kept lt = omega (arith, ap length last, length_push es (k, u), length-map es (λ (e : List ℕ × Update). e.1), lt)

  pub long_then : length new ≡ length (updates_in es) + 1
  long_then = omega (arith, ap length last, length_push es (k, u), length-map es (λ (e : List ℕ × Update). e.1))

  -- the last of them
  pub last_is : (n : ℕ) (key : List ℕ) (v : Update) → n ≡ length (updates_in es) → slice_get new n ≡ Some (key, v) → v ≡ u
  last_is n key v count at =
      let here : n ≡ length es = count ∙ length-map es (λ (e : List ℕ × Update). e.1) in
      let both : Some (key, v) ≡ Some (k, u) = sym at ∙ (ap (λ (xs : List (List ℕ × Update)). slice_get xs n) last ∙ (ap (slice_get (es ++ (k, u) ∷ [])) here ∙ get_last es (k, u))) in
      ap (λ (e : List ℕ × Update). e.1) (same_Some (key, v) (k, u) both)

  pub ids_kept : keys_of es ≡ map id_of_update (updates_in es) → k ≡ id_of_update u → keys_of new ≡ map id_of_update (updates_in new)
  ids_kept ids key = subst (λ (xs : List (List ℕ × Update)). keys_of xs ≡ map id_of_update (updates_in xs)) (sym last) (keys_then es k u ids key)

  pub causal_kept : IsCausal [] (updates_in es ++ u ∷ []) → is_causal [] (updates_in new) ≡ true
  causal_kept c = ap (is_causal []) updates_kept ∙ causal_to_test [] (updates_in es ++ u ∷ []) c

  pub kin_kept : (old lists : List (List ℕ)) (prev : Option ℕ) (siblings none : List ℕ) → old ≡ child_lists (updates_in es) → lists ≡ with_siblings prev siblings old ++ none ∷ []
      → with_siblings prev siblings (child_lists (updates_in es)) ++ none ∷ [] ≡ child_lists (updates_in es ++ u ∷ []) → lists ≡ child_lists (updates_in new)
  kin_kept old lists prev siblings none kin e children =
      e ∙ (ap (λ (ls : List (List ℕ)). with_siblings prev siblings ls ++ none ∷ []) kin ∙ (children ∙ ap child_lists (sym updates_kept)))

  pub ends_kept : (leaves : List ℕ) → leaves ≡ leaf_places (updates_in es ++ u ∷ []) → leaves ≡ leaf_places (updates_in new)
  ends_kept leaves e = e ∙ ap leaf_places (sym updates_kept)

  pub chained_kept : (old prevs : List (Option ℕ)) (prev : Option ℕ) → IsCausal [] (updates_in es ++ u ∷ []) → old ≡ prev_places (updates_in es) → prev ≡ place_of_prev u.prev (updates_in es) → prevs ≡ old ++ prev ∷ []
      → prevs ≡ prev_places (updates_in new)
  chained_kept old prevs prev c kept place e =
      e ∙ (ap (λ (ps : List (Option ℕ)). ps ++ prev ∷ []) kept
      ∙ (ap (λ (p : Option ℕ). prev_places (updates_in es) ++ p ∷ []) place ∙ (sym (prev_places-push (updates_in es) u c) ∙ ap prev_places (sym updates_kept))))
