-- The past of an update is what precedes it.
use Rattle.std.proofs.Common.{◌≡◌, ℕ, List, [], ◌∷◌, ◌++◌, true, refl, sym, subst, inl, inr, ◌⊎◌}
use Rattle.depot_base.specs.declared.update.Update.{Update}
use Rattle.depot_model.specs.lists.Lists.{IsIn, is_among}
use Rattle.depot_model.specs.texts.Texts.{id_of_update}
use Rattle.depot_model.specs.updates.Order.{IsPath, IsParent, Precedes, parents, is_named, past, IsCausal}
use Rattle.depot_model.proofs.lists.Members.{in_left, in_pushed, in_last, any_from, any_to, among_from, among_to, chosen_cases, chosen_behind, chosen_front}
use Rattle.depot_model.proofs.of_updates.Orders.{parent_precedes, leads_more, first_names_none, causal_behind, precedes_from}

-- what is named by one of some updates, and back
pub named_by : (t : Update) (ws : List Update) → is_named t ws ≡ true → (w : Update) × (IsIn w ws × IsIn (id_of_update t) (parents w))
named_by t ws e = let r = any_to (λ (w : Update). is_among (id_of_update t) (parents w)) ws e in (r.0, (r.1.0, among_to (id_of_update t) (parents r.0) r.1.1))

pub is_named_by : (t w : Update) (ws : List Update) → IsIn w ws → IsIn (id_of_update t) (parents w) → is_named t ws ≡ true
is_named_by t w ws on named = any_from (λ (w : Update). is_among (id_of_update t) (parents w)) w ws on (among_from (id_of_update t) (parents w) named)

-- the past is a part of the list
pub past_in : (u : Update) (us : List Update) (t : Update) → IsIn t (past u us) → IsIn t us
unfolding past
past_in u [] t never = never
past_in u (x ∷ xs) t on = elim (chosen_cases (is_named x (u ∷ past u xs)) t x (past u xs) on) [
  | inl here ↦ inl here.1
  | inr there ↦ inr (past_in u xs t there)
]

-- what is in the past precedes, among any updates with u and the list
pub past_precedes : (among : List Update) (u : Update) → IsIn u among → (us : List Update) → ((w : Update) → IsIn w us → IsIn w among) → (t : Update) → IsIn t (past u us) → Precedes among t u
unfolding past
past_precedes among u u_in [] known t never = absurd never
past_precedes among u u_in (x ∷ xs) known t on = elim (chosen_cases (is_named x (u ∷ past u xs)) t x (past u xs) on) [
  | inr there ↦ past_precedes among u u_in xs (λ w w_in. known w (inr w_in)) t there
  | inl here ↦
      let n = named_by x (u ∷ past u xs) here.0 in
      let named = subst (λ (y : Update). IsIn (id_of_update y) (parents n.0)) here.1 n.1.1 in
      let above = known t (inl here.1) in
      elim n.1.0 [
        | inl same ↦ parent_precedes among t u above u_in (subst (λ (y : Update). IsIn (id_of_update t) (parents y)) (sym same) named)
        | inr later ↦
            let p = past_precedes among u u_in xs (λ w w_in. known w (inr w_in)) n.0 later in
            leads_more (IsParent among) t n.0 u (record { above = above; below = precedes_from among n.0 u p; named = named }) p
      ]
]

-- what u, or something in its past, names is in the past
pub past_takes : (ids : List (List ℕ)) (u : Update) (us : List Update) (t w : Update) → IsCausal ids us → IsIn t us → IsIn w (u ∷ past u us) → IsIn (id_of_update t) (parents w) → IsIn t (past u us)
unfolding past
past_takes ids u [] t w c never on named = never
past_takes ids u (x ∷ xs) t w c t_in (inl same) named = elim t_in [
  | inl here ↦ chosen_front (is_named x (u ∷ past u xs)) t x (past u xs) (is_named_by x w (u ∷ past u xs) (inl same) (subst (λ (y : Update). IsIn (id_of_update y) (parents w)) (sym here) named)) here
  | inr there ↦ chosen_behind (is_named x (u ∷ past u xs)) t x (past u xs) (past_takes (id_of_update x ∷ ids) u xs t w (causal_behind ids x xs c) there (inl same) named)
]
past_takes ids u (x ∷ xs) t w c t_in (inr on) named = elim (chosen_cases (is_named x (u ∷ past u xs)) w x (past u xs) on) [
  | inl here ↦ absurd (first_names_none ids x xs t c t_in (subst (λ (y : Update). IsIn (id_of_update t) (parents y)) (sym here.1) named))
  | inr later ↦ elim t_in [
    | inl here ↦ chosen_front (is_named x (u ∷ past u xs)) t x (past u xs) (is_named_by x w (u ∷ past u xs) (inr later) (subst (λ (y : Update). IsIn (id_of_update y) (parents w)) (sym here) named)) here
    | inr there ↦ chosen_behind (is_named x (u ∷ past u xs)) t x (past u xs) (past_takes (id_of_update x ∷ ids) u xs t w (causal_behind ids x xs c) there (inr later) named)
  ]
]

-- a path among updates that are each of the list, or u itself
path_in_past : (among us : List Update) (u : Update) → IsCausal [] us → ((w : Update) → IsIn w among → IsIn w us ⊎ (u ≡ w)) → (t : Update) (stops : List Update) → IsIn t us → IsPath (IsParent among) t stops u → IsIn t (past u us)
path_in_past among us u c known t [] t_in path = past_takes [] u us t u c t_in (inl refl) path.named
path_in_past among us u c known t (w ∷ stops) t_in path = elim (known w path.0.below) [
  | inl w_in ↦ past_takes [] u us t w c t_in (inr (path_in_past among us u c known w stops w_in path.1)) path.0.named
  | inr same ↦ past_takes [] u us t u c t_in (inl refl) (subst (λ (y : Update). IsIn (id_of_update t) (parents y)) (sym same) path.0.named)
]

-- the past of one of the list
pub past_of_listed : (us : List Update) (u t : Update) → IsCausal [] us → IsIn u us → (IsIn t (past u us) → Precedes us t u) × (Precedes us t u → IsIn t (past u us))
past_of_listed us u t c u_in = (
  λ on. past_precedes us u u_in us (λ w w_in. w_in) t on,
  λ p. path_in_past us us u c (λ w w_in. inl w_in) t p.stops (precedes_from us t u p) p.path,
)

-- the past of one after the list
pub past_of_next : (us : List Update) (u t : Update) → IsCausal [] us → (IsIn t (past u us) → IsIn t us × Precedes (us ++ u ∷ []) t u) × (IsIn t us × Precedes (us ++ u ∷ []) t u → IsIn t (past u us))
past_of_next us u t c = (
  λ on. (past_in u us t on, past_precedes (us ++ u ∷ []) u (in_last us u) us (λ w w_in. in_left w us (u ∷ []) w_in) t on),
  λ p. path_in_past (us ++ u ∷ []) us u c (λ w w_in. in_pushed w us u w_in) t p.1.stops p.0 p.1.path,
)
