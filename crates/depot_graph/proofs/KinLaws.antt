-- Ids, children and leaves by their places.
use Rattle.std.proofs.Common.{◌≡◌, ℕ, ◌<◌, ◌≤◌, ◌+◌, List, [], ◌∷◌, length, map, get_or, Option, Some, None, option_map, Bool, true, false, cond, not, refl, sym, ap, subst, ◌∙◌, inl, inr, arith, slice_get, position, nat_lt}
use Rattle.std.specs.List.{position_or_len}
use Rattle.std.specs.Map.{keys_of}
use Rattle.std.specs.Str.{bytes_eq}
use Rattle.std.proofs.lemmas.List.{length-map}
use Rattle.std.proofs.lemmas.Option.{slice_get-map, slice_get-get_or}
use Rattle.depot_base.specs.declared.update.Update.{Update}
use Rattle.depot_model.specs.lists.Lists.{IsIn, is_among}
use Rattle.depot_model.specs.texts.Texts.{id_of_update}
use Rattle.depot_model.specs.updates.Order.{prevs}
use Rattle.depot_model.specs.updates.History.{is_prev_in}
use Rattle.depot_model.specs.lists.Items.{at, place_of_id, places_where, AreDistinct, AreLeaves, children_of, children_by}
use Rattle.depot_model.proofs.lists.Members.{all_from, chosen_cases}
use Rattle.depot_base.proofs.GeneralLaws.{bytes_eq_comm}
use Rattle.depot_graph.specs.Kept.{updates_in, child_lists, leaf_places}

-- ---- ids

position_or_len-map : {X Y : Type 0} (test : Y → Bool) (f : X → Y) (xs : List X) → position_or_len test (map f xs) ≡ position_or_len (λ x. test (f x)) xs
position_or_len-map test f [] = refl
position_or_len-map test f (x ∷ xs) = ap (λ (n : ℕ). cond (not (test (f x))) (1 + n) 0) (position_or_len-map test f xs)

place_of_key : (h : List ℕ) (us : List Update) → position (bytes_eq h) (map id_of_update us) ≡ place_of_id h us
place_of_key h us =
    let turned : (λ (u : Update). bytes_eq h (id_of_update u)) ≡ (λ (u : Update). bytes_eq (id_of_update u) h) = λ j u. bytes_eq_comm h (id_of_update u) j in
    let same : position_or_len (bytes_eq h) (map id_of_update us) ≡ position_or_len (λ (u : Update). bytes_eq (id_of_update u) h) us =
    position_or_len-map (bytes_eq h) id_of_update us ∙ ap (λ (test : Update → Bool). position_or_len test us) turned in
    ap (λ (n : ℕ). cond (nat_lt n (length (map id_of_update us))) (Some n) None) same
    ∙ ap (λ (m : ℕ). cond (nat_lt (position_or_len (λ (u : Update). bytes_eq (id_of_update u) h) us) m) (Some (position_or_len (λ (u : Update). bytes_eq (id_of_update u) h) us)) None) (length-map us id_of_update)

-- the first key that is an id is where the first update with it is
pub found_by_key : (h : List ℕ) (es : List (List ℕ × Update)) (place : Option ℕ) → keys_of es ≡ map id_of_update (updates_in es) → place ≡ position (bytes_eq h) (keys_of es) → place ≡ place_of_id h (updates_in es)
found_by_key h es place ids e = e ∙ (ap (position (bytes_eq h)) ids ∙ place_of_key h (updates_in es))

-- the update at a place
pub update_at : (es : List (List ℕ × Update)) (n : ℕ) (key : List ℕ) (u : Update) → slice_get es n ≡ Some (key, u) → slice_get (updates_in es) n ≡ Some u
update_at es n key u e = slice_get-map (λ (e : List ℕ × Update). e.1) es n ∙ ap (option_map (λ (e : List ℕ × Update). e.1)) e

-- its key is its id
pub key_is_id : (es : List (List ℕ × Update)) (n : ℕ) (key : List ℕ) (u : Update) → keys_of es ≡ map id_of_update (updates_in es) → slice_get es n ≡ Some (key, u) → key ≡ id_of_update u
key_is_id es n key u ids e =
    let kept : slice_get (keys_of es) n ≡ Some key = slice_get-map (λ (e : List ℕ × Update). e.0) es n ∙ ap (option_map (λ (e : List ℕ × Update). e.0)) e in
    let right : slice_get (map id_of_update (updates_in es)) n ≡ Some (id_of_update u) = slice_get-map id_of_update (updates_in es) n ∙ ap (option_map id_of_update) (update_at es n key u e) in
    let both : Some key ≡ Some (id_of_update u) = sym kept ∙ (ap (λ (ks : List (List ℕ)). slice_get ks n) ids ∙ right) in
    cc

pub id_at : (es : List (List ℕ × Update)) (n : ℕ) (key : List ℕ) (u : Update) → keys_of es ≡ map id_of_update (updates_in es) → slice_get es n ≡ Some (key, u) → at (updates_in es) n (λ u. id_of_update u ≡ key)
id_at es n key u ids e = (u, (update_at es n key u e, sym (key_is_id es n key u ids e)))

-- ---- leaves

place_is_late : (test : Update → Bool) (n : ℕ) (us : List Update) (m : ℕ) → IsIn m (places_where test n us) → n ≤ m
unfolding places_where
place_is_late test n [] m never = absurd never
place_is_late test n (u ∷ us) m on = elim (chosen_cases (test u) m n (places_where test (n + 1) us) on) [
  | inl here ↦ omega (arith, here.1)
  | inr there ↦ let later = place_is_late test (n + 1) us m there in omega (arith, later)
]

distinct_chosen : (b : Bool) (n : ℕ) (ns : List ℕ) → ((m : ℕ) → IsIn m ns → n + 1 ≤ m) → AreDistinct ns → AreDistinct (cond b (n ∷ ns) ns)
distinct_chosen true n ns late distinct = (all_from (λ m. m ≡ n → ⊥) ns (λ m on same. let later = late m on in omega (arith, later, same)), distinct)
distinct_chosen false n ns late distinct = distinct

places_are_distinct : (test : Update → Bool) (n : ℕ) (us : List Update) → AreDistinct (places_where test n us)
unfolding places_where
places_are_distinct test n [] = tt
places_are_distinct test n (u ∷ us) = distinct_chosen (test u) n (places_where test (n + 1) us) (place_is_late test (n + 1) us) (places_are_distinct test (n + 1) us)

-- the places of the leaves are those of the leaves
pub are_leaves : (us : List Update) (places : List ℕ) → places ≡ leaf_places us → AreLeaves us places
are_leaves us places e = subst (AreLeaves us) (sym e) (record { all = λ n on. on; only = λ n on. on; once = places_are_distinct (λ t. not (is_prev_in us (id_of_update t))) 0 us })

-- ---- children

-- there is a list for each of the updates
pub as_many_lists : {A : Type 0} (view : A → List ℕ) (lists : List A) (us : List Update) → map view lists ≡ child_lists us → length lists ≡ length us
as_many_lists view lists us kin = sym (length-map lists view) ∙ (ap length kin ∙ length-map us (λ (t : Update). places_where (λ u. is_among (id_of_update t) (prevs u)) 0 us))

pub children_at : {A : Type 0} (view : A → List ℕ) (lists : List A) (us : List Update) (n : ℕ) (list : A) → map view lists ≡ child_lists us → n < length us → list ≡ get_or lists n list → view list ≡ children_of us n
children_at view lists [] n list kin inside e = absurd (omega arith)
children_at view lists (x ∷ xs) n list kin inside e =
    let us = x ∷ xs in
    let many : length lists ≡ length us = as_many_lists view lists us kin in
    let there : n < length lists = omega (arith, many) in
    let t = get_or us n x in
    let at_n : slice_get us n ≡ Some t = slice_get-get_or us n x inside in
    let here : slice_get lists n ≡ Some list = slice_get-get_or lists n list there ∙ ap Some (sym e) in
    let kept : slice_get (map view lists) n ≡ Some (view list) = slice_get-map view lists n ∙ ap (option_map view) here in
    let f : Update → List ℕ = λ t. places_where (λ u. is_among (id_of_update t) (prevs u)) 0 us in
    let right : slice_get (child_lists us) n ≡ Some (f t) = slice_get-map f us n ∙ ap (option_map f) at_n in
    let both : Some (view list) ≡ Some (f t) = sym kept ∙ (ap (λ (ls : List (List ℕ)). slice_get ls n) kin ∙ right) in
    let same : view list ≡ f t = cc in
    same ∙ sym (ap (children_by us) at_n)
