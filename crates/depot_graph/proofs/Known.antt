-- Updates whose parents are looked up.
use Rattle.std.proofs.Common.{◌≡◌, ℕ, ◌+◌, ◌<◌, List, [], ◌∷◌, ◌++◌, length, map, take, get_or, Option, Some, None, Bool, true, false, cond, is_some, ap, sym, ◌∙◌, subst, inl, inr, refl}
use Rattle.std.specs.Str.{bytes_eq}
use Rattle.std.proofs.lemmas.List.Quantifiers.{position-Some}
use Rattle.std.proofs.lemmas.Option.{slice_get-get_or}
use Rattle.std.proofs.lemmas.Slice.Eq.{bytes_eq-Decides}
use Rattle.depot_base.specs.Zeros.{zeros}
use Rattle.depot_base.specs.declared.update.Update.{Update}
use Rattle.depot_base.specs.declared.update.Dep.{Dep}
use Rattle.depot_model.specs.lists.Lists.{IsIn}
use Rattle.depot_model.specs.texts.Texts.{id_of_update}
use Rattle.depot_model.specs.updates.Order.{prevs, IsCausal}
use Rattle.depot_model.specs.lists.Items.{place_of_id}
use Rattle.depot_model.proofs.lists.Members.{in_map, from_map, in_parts}
use Rattle.depot_model.proofs.of_updates.Orders.{causal_push}
use Rattle.depot_model.proofs.lists.Elements.{in_at}
use Rattle.depot_graph.proofs.ItemPlaces.{has_no_place}
use Rattle.depot_graph.proofs.MappedFronts.{mapped_more}
use Rattle.depot_base.proofs.GeneralLaws.{is_none}

-- an id that is found is one of the ids
found_is_in : (h : List ℕ) (us : List Update) (place : ℕ) → place_of_id h us ≡ Some place → IsIn h (map id_of_update us)
found_is_in h [] place e = absurd cc
found_is_in h (u ∷ us) place e =
    let at = position-Some (λ (t : Update). bytes_eq (id_of_update t) h) (u ∷ us) place u e in
    let t = get_or (u ∷ us) place u in
    subst (λ (k : List ℕ). IsIn k (map id_of_update (u ∷ us))) ((bytes_eq-Decides (id_of_update t) h).0 at.1)
    (in_map id_of_update t (u ∷ us) (in_at (u ∷ us) place t (slice_get-get_or (u ∷ us) place u at.0)))

pub some_is_in : (h : List ℕ) (us : List Update) (o : Option ℕ) → o ≡ place_of_id h us → is_some o ≡ true → IsIn h (map id_of_update us)
some_is_in h us None e some = absurd cc
some_is_in h us (Some place) e some = found_is_in h us place (sym e)

-- the prev, where there is one, is one of these ids
pub prev_is_known : (u : Update) (ids : List (List ℕ)) (b : Bool) → b ≡ bytes_eq u.prev zeros → (b ≡ false → IsIn u.prev ids) → (h : List ℕ) → IsIn h (prevs u) → IsIn h ids
prev_is_known u ids b e known h on = go b known (subst (λ (c : Bool). IsIn h (cond c [] (u.prev ∷ []))) (sym e) on) where
  go : (b : Bool) → (b ≡ false → IsIn u.prev ids) → IsIn h (cond b [] (u.prev ∷ [])) → IsIn h ids
  go true known never = absurd never
  go false known on = elim on [ inl same ↦ subst (λ (k : List ℕ). IsIn k ids) same (known refl) | inr never ↦ absurd never ]

-- the entries so far, and one more
pub entry_is_known : (ids : List (List ℕ)) (deps : List Dep) (i : ℕ) (d : Dep) → i < length deps → d ≡ get_or deps i d → ((h : List ℕ) → IsIn h (map (λ d. d.id) (take i deps)) → IsIn h ids) → IsIn d.id ids
    → (h : List ℕ) → IsIn h (map (λ d. d.id) (take (i + 1) deps)) → IsIn h ids
entry_is_known ids deps i d lt here known one h on =
    elim (in_parts h (map (λ d. d.id) (take i deps)) (d.id ∷ []) (subst (λ (hs : List (List ℕ)). IsIn h hs) (sym (mapped_more (λ d. d.id) [] deps i d lt here)) on)) [
      | inl old ↦ known h old
      | inr new ↦ elim new [ inl same ↦ subst (λ (k : List ℕ). IsIn k ids) same one | inr never ↦ absurd never ]
    ]

-- an update whose parents are here and whose id isn't fits after
pub fits_behind : (us : List Update) (u : Update) (id : List ℕ) (o : Option ℕ) → IsCausal [] us → id ≡ id_of_update u → o ≡ place_of_id id us → is_some o ≡ false → ((h : List ℕ) → IsIn h (prevs u) → IsIn h (map id_of_update us))
    → ((h : List ℕ) → IsIn h (map (λ d. d.id) u.deps) → IsIn h (map id_of_update us)) → IsCausal [] (us ++ u ∷ [])
fits_behind us u id o c own found none prev entries =
    let absent : place_of_id (id_of_update u) us ≡ None = ap (λ (h : List ℕ). place_of_id h us) (sym own) ∙ (sym found ∙ is_none o none) in
    causal_push [] us u c (λ h on. elim (in_parts h (prevs u) (map (λ d. d.id) u.deps) on) [ inl own ↦ inr (prev h own) | inr entry ↦ inr (entries h entry) ]) (λ never. never)
    (λ on. let t = from_map id_of_update (id_of_update u) us on in has_no_place (id_of_update u) us t.0 absent t.1.0 t.1.1)
