-- Updates that are seen one after the other.
use Rattle.std.proofs.Common.{◌≡◌, ℕ, ◌<◌, true, false, List, [], ◌∷◌, ◌++◌, length, map, get_or, Option, Some, None, is_some, refl, sym, ap, subst, ◌∙◌, inr}
use Rattle.std.proofs.lemmas.Bool.{false_from_ne_true}
use Rattle.std.proofs.lemmas.Option.{get_or_from_slice_get}
use Rattle.depot_base.specs.declared.update.Dep.{Dep}
use Rattle.depot_base.specs.declared.update.Update.{Update}
use Rattle.depot_model.specs.updates.History.{history_hash}
use Rattle.depot_model.specs.lists.Items.{place_of_id, updates_at, AreItemsOf}
use Rattle.depot_model.specs.journals.Journal.{has_id}
use Rattle.depot_model.specs.lists.Lists.{IsIn}
use Rattle.depot_model.specs.updates.Order.{IsCausal, parents, past, prevs}
use Rattle.depot_model.specs.texts.Texts.{id_of_update}
use Rattle.depot_model.proofs.lists.Elements.{in_at}
use Rattle.depot_model.proofs.lists.Members.{all_at, from_map, in_map, in_right}
use Rattle.depot_model.proofs.of_updates.Orders.{causal_push}
use Rattle.depot_graph.specs.Closure.{closure_of, reached}
use Rattle.depot_graph.proofs.ItemPlaces.{has_no_place, has_place}
use Rattle.depot_graph.proofs.Reaching.{past_is_reached}
use Rattle.depot_model.proofs.of_updates.NamedIds.{has_id_from, has_id_to}
use Rattle.depot_world.specs.Run.{seen_with}
use Rattle.depot_scenario.specs.KnownUpdates.{HasSeenParents}
use Rattle.depot_base.proofs.GeneralLaws.{at_place}

-- ---- one update more

-- an id that is found is some update's
found : (us : List Update) (h : List ℕ) (o : Option ℕ) → o ≡ place_of_id h us → is_some o ≡ true → has_id us h ≡ true
found us h None is some = absurd cc
found us h (Some n) is some = let p = has_place h us n (sym is) in has_id_from us h p.0 (in_at us n p.0 p.1.0) p.1.1

-- one that isn't found is none's
lost : (us : List Update) (h : List ℕ) (o : Option ℕ) → o ≡ place_of_id h us → is_some o ≡ false → IsIn h (map id_of_update us) → ⊥
lost us h None is none on = let t = from_map id_of_update h us on in has_no_place h us t.0 (sym is) t.1.0 t.1.1
lost us h (Some n) is none on = absurd cc

-- an update that was seen leaves all as it is
pub seen_already : (us : List Update) (u : Update) (id : List ℕ) (o : Option ℕ) → id ≡ id_of_update u → o ≡ place_of_id id us → is_some o ≡ true → us ≡ seen_with us (u ∷ [])
unfolding seen_with
seen_already us u id o own is some =
    let known : has_id us (id_of_update u) ≡ true = subst (λ (h : List ℕ). has_id us h ≡ true) own (found us id o is some) in
    rw known refl

-- another comes after them
pub seen_more : (us : List Update) (u : Update) (id : List ℕ) (o : Option ℕ) → id ≡ id_of_update u → o ≡ place_of_id id us → is_some o ≡ false → us ++ u ∷ [] ≡ seen_with us (u ∷ [])
unfolding seen_with
seen_more us u id o own is none =
    let new : has_id us (id_of_update u) ≡ false = false_from_ne_true (has_id us (id_of_update u)) (λ e.
    let t = has_id_to us (id_of_update u) e in
    lost us id o is none (subst (λ (h : List ℕ). IsIn h (map id_of_update us)) (t.1.1 ∙ sym own) (in_map id_of_update t.0 us t.1.0))) in
    rw new refl

-- where its parents were seen, it fits there
pub fits_behind : (us : List Update) (u : Update) (id : List ℕ) (o : Option ℕ) → IsCausal [] us → HasSeenParents us u → id ≡ id_of_update u → o ≡ place_of_id id us → is_some o ≡ false → IsCausal [] (us ++ u ∷ [])
fits_behind us u id o causal seen own is none =
    causal_push [] us u causal
    (λ h on. let t = has_id_to us h (all_at (λ (x : List ℕ). has_id us x ≡ true) (parents u) h seen on) in inr (subst (λ (x : List ℕ). IsIn x (map id_of_update us)) t.1.1 (in_map id_of_update t.0 us t.1.0)))
    (λ never. never) (λ on. lost us id o is none (subst (λ (h : List ℕ). IsIn h (map id_of_update us)) (sym own) on))

-- ---- the items of ids

-- an id that was seen has an item
pub has_item : (us : List Update) (h : List ℕ) → has_id us h ≡ true → place_of_id h us ≡ None → ⊥
has_item us h seen none = let t = has_id_to us h seen in has_no_place h us t.0 none t.1.0 t.1.1

-- the update of an entry was seen
pub entry_seen : (us : List Update) (u : Update) (i : ℕ) (d : Dep) → HasSeenParents us u → i < length u.deps → d ≡ get_or u.deps i d → has_id us d.id ≡ true
entry_seen us u i d seen lt at =
    let p = at_place u.deps i lt in
    let here : p.0 ≡ d = sym (at ∙ get_or_from_slice_get u.deps i p.0 d p.1) in
    all_at (λ (h : List ℕ). has_id us h ≡ true) (parents u) d.id seen (in_right d.id (prevs u) (map (λ x. x.id) u.deps) (subst (λ (x : Dep). IsIn x.id (map (λ y. y.id) u.deps)) here (in_map (λ (x : Dep). x.id) p.0 u.deps (in_at u.deps i p.0 p.1))))

-- what is at them has these ids
ids_there : (us : List Update) (ids : List (List ℕ)) (items : List ℕ) → AreItemsOf us ids items → map id_of_update (updates_at us items) ≡ ids
ids_there us [] [] are = refl
ids_there us [] (n ∷ ns) are = absurd cc
ids_there us (h ∷ ids) [] are = absurd cc
ids_there us (h ∷ ids) (n ∷ ns) are =
    let place : place_of_id h us ≡ Some n = cc in
    let rest : AreItemsOf us ids ns = cc in
    let p = has_place h us n place in
    rw p.1.0 (ap (λ (x : List ℕ). x ∷ map id_of_update (updates_at us ns)) p.1.1 ∙ ap (λ (hs : List (List ℕ)). h ∷ hs) (ids_there us ids ns rest))

-- the hash of the items of an update's parents is that of its past
pub hash_of_items : (us : List Update) (u : Update) (items hash : List ℕ) → AreItemsOf us (parents u) items → hash ≡ history_hash (closure_of items us) → hash ≡ history_hash (past u us)
unfolding closure_of
hash_of_items us u items hash are is =
    is ∙ ap (λ (hs : List (List ℕ)). history_hash (reached hs us)) (ids_there us (parents u) items are) ∙ ap (λ (ts : List Update). history_hash ts) (sym (past_is_reached u us))

-- ---- updates without parents

-- no ids reach no updates
nothing_reached : (us : List Update) → reached [] us ≡ []
unfolding reached
nothing_reached [] = refl
nothing_reached (t ∷ ts) = rw (nothing_reached ts) refl

-- the hash of no items is that of the past of an update without parents
pub hash_of_none : (us : List Update) (u : Update) (hash : List ℕ) → parents u ≡ [] → hash ≡ history_hash (closure_of [] []) → hash ≡ history_hash (past u us)
unfolding closure_of reached
hash_of_none us u hash none is = is ∙ ap (λ (ts : List Update). history_hash ts) (sym (past_is_reached u us ∙ ap (λ (hs : List (List ℕ)). reached hs us) none ∙ nothing_reached us))
