-- The update that an id names, and whether there is one.
use Rattle.std.proofs.Common.{◌≡◌, ℕ, Bool, true, false, cond, List, [], ◌∷◌, map, Option, Some, refl, sym, ap, ◌∙◌, inl, inr, ◌⊎◌}
use Rattle.std.specs.Str.{bytes_eq}
use Rattle.std.proofs.lemmas.Slice.Eq.{bytes_eq-Decides}
use Rattle.std.proofs.lemmas.Bool.{both_ways}
use Rattle.depot_base.specs.declared.update.Update.{Update}
use Rattle.depot_model.specs.lists.Lists.{IsIn}
use Rattle.depot_model.specs.texts.Texts.{id_of_update}
use Rattle.depot_model.specs.journals.Journal.{has_id, named}
use Rattle.depot_model.specs.updates.Order.{IsCausal}
use Rattle.depot_model.proofs.of_updates.Orders.{one_of_id, causal_behind}
use Rattle.depot_model.proofs.lists.Members.{any_from, any_to, from_map}

-- what is found by a test is here, or later
pub named_cases : {X : Type 0} (b : Bool) (t x : X) (o : Option X) → cond b (Some t) o ≡ Some x → ((b ≡ true) × (t ≡ x)) ⊎ (o ≡ Some x)
named_cases true t x o e = inl (refl, cc)
named_cases false t x o e = inr e

-- the update that an id names is one of the list, and has this id
pub named_is : (us : List Update) (h : List ℕ) (t : Update) → named us h ≡ Some t → IsIn t us × (id_of_update t ≡ h)
unfolding named
named_is [] h t e = absurd cc
named_is (u ∷ us) h t e = elim (named_cases (bytes_eq (id_of_update u) h) u t (named us h) e) [
  | inl here ↦ (inl here.1, ap id_of_update (sym here.1) ∙ (bytes_eq-Decides (id_of_update u) h).0 here.0)
  | inr there ↦ let r = named_is us h t there in (inr r.0, r.1)
]

-- and it is found, where no id occurs twice
pub named_some : (ids : List (List ℕ)) (us : List Update) (h : List ℕ) (t : Update) → IsCausal ids us → IsIn t us → id_of_update t ≡ h → named us h ≡ Some t
unfolding named
named_some ids [] h t c never e = absurd never
named_some ids (x ∷ xs) h t c on e = found (bytes_eq (id_of_update x) h) refl (λ there. named_some (id_of_update x ∷ ids) xs h t (causal_behind ids x xs c) there e) where
  found : (b : Bool) → bytes_eq (id_of_update x) h ≡ b → (IsIn t xs → named xs h ≡ Some t) → cond b (Some x) (named xs h) ≡ Some t
  found true is behind = ap Some (one_of_id ids (x ∷ xs) x t c (inl refl) on ((bytes_eq-Decides (id_of_update x) h).0 is ∙ sym e))
  found false is behind = elim on [
    | inl here ↦ absurd (both_ways _ is ((bytes_eq-Decides (id_of_update x) h).1 (ap id_of_update here ∙ e)))
    | inr there ↦ behind there
  ]

-- the test of an id passes where an update has it
pub has_id_from : (us : List Update) (h : List ℕ) (t : Update) → IsIn t us → id_of_update t ≡ h → has_id us h ≡ true
unfolding has_id
has_id_from us h t on e = any_from (λ (u : Update). bytes_eq (id_of_update u) h) t us on ((bytes_eq-Decides (id_of_update t) h).1 e)

-- and only there
pub has_id_to : (us : List Update) (h : List ℕ) → has_id us h ≡ true → (t : Update) × (IsIn t us × (id_of_update t ≡ h))
unfolding has_id
has_id_to us h e =
    let r = any_to (λ (u : Update). bytes_eq (id_of_update u) h) us e in
    (r.0, (r.1.0, (bytes_eq-Decides (id_of_update r.0) h).0 r.1.1))

-- an id that is new isn't one of theirs
pub new_id : (us : List Update) (h : List ℕ) → has_id us h ≡ false → IsIn h (map id_of_update us) → ⊥
new_id us h e on =
    let r = from_map id_of_update h us on in
    both_ways (has_id us h) e (has_id_from us h r.0 r.1.0 r.1.1)
