-- A prefix of a list in which each parent comes before its children.
use Rattle.std.proofs.Common.{◌≡◌, ℕ, List, [], ◌∷◌, ◌++◌, true, refl, ap, subst, ◌∙◌, inl, inr}
use Rattle.std.specs.Str.{bytes_eq}
use Rattle.std.proofs.lemmas.Slice.Eq.{bytes_eq-Decides}
use Rattle.depot_base.specs.declared.update.Update.{Update}
use Rattle.depot_model.specs.lists.Lists.{IsIn}
use Rattle.depot_model.specs.texts.Texts.{id_of_update}
use Rattle.depot_model.specs.updates.Order.{IsPath, IsParent, Precedes, past, IsCausal}
use Rattle.depot_model.specs.journals.Journal.{has_id}
use Rattle.depot_model.proofs.lists.Members.{in_right, in_parts, any_from, any_to}
use Rattle.depot_model.proofs.of_updates.Orders.{fresh, one_of_id, causal_front, parent_is_there, precedes_from}
use Rattle.depot_model.proofs.of_updates.Pasts.{past_in}

-- ---- places

-- ---- what comes first

-- no id comes first and after
pub apart : (ids : List (List ℕ)) (us vs : List Update) (t u : Update) → IsCausal ids (us ++ vs) → IsIn t us → IsIn u vs → id_of_update t ≡ id_of_update u → ⊥
unfolding IsCausal
apart ids [] vs t u c never on e = never
apart ids (x ∷ us) vs t u c (inl here) on e = fresh (id_of_update x ∷ ids) (us ++ vs) u c.1.1 (in_right u us vs on) (inl (ap id_of_update here ∙ e))
apart ids (x ∷ us) vs t u c (inr there) on e = apart (id_of_update x ∷ ids) us vs t u c.1.1 there on e

step_in_front : (us vs : List Update) (t u : Update) → IsCausal [] (us ++ vs) → IsIn u us → IsParent (us ++ vs) t u → IsParent us t u
step_in_front us vs t u c u_in p = elim (in_parts t us vs p.above) [
  | inl front ↦ record { above = front; below = u_in; named = p.named }
  | inr back ↦ elim (parent_is_there [] us u (id_of_update t) (causal_front [] us vs c) u_in p.named) [
    | inl never ↦ absurd never
    | inr found ↦ absurd (apart [] us vs found.0 t c found.1.0 back found.1.1)
  ]
]

path_in_front : (us vs : List Update) (t : Update) (stops : List Update) (u : Update) → IsCausal [] (us ++ vs) → IsIn u us → IsPath (IsParent (us ++ vs)) t stops u → IsPath (IsParent us) t stops u
path_in_front us vs t [] u c u_in path = step_in_front us vs t u c u_in path
path_in_front us vs t (w ∷ stops) u c u_in path =
    let later = path_in_front us vs w stops u c u_in path.1 in
    (step_in_front us vs t w c (precedes_from us w u (record { stops = stops; path = later })) path.0, later)

-- what precedes an update of the prefix comes first
pub precedes_in_front : (us vs : List Update) (t u : Update) → IsCausal [] (us ++ vs) → IsIn u us → Precedes (us ++ vs) t u → Precedes us t u
precedes_in_front us vs t u c u_in p = record { stops = p.stops; path = path_in_front us vs t p.stops u c u_in p.path }

-- an update after others precedes none of them
pub last_precedes_none : (us : List Update) (t u : Update) → IsCausal [] (us ++ u ∷ []) → IsIn t us → Precedes (us ++ u ∷ []) u t → ⊥
last_precedes_none us t u c on p = apart [] us (u ∷ []) u u c (precedes_from us u t (precedes_in_front us (u ∷ []) u t c on p)) (inl refl) refl

-- ---- the test of the past

-- t is in the past of u where an update of its id is
pub has_past : (us : List Update) (t u : Update) → IsCausal [] us → IsIn t us → has_id (past u us) (id_of_update t) ≡ true → IsIn t (past u us)
unfolding has_id
has_past us t u c on e =
    let r = any_to (λ (w : Update). bytes_eq (id_of_update w) (id_of_update t)) (past u us) e in
    subst (λ (w : Update). IsIn w (past u us)) (one_of_id [] us r.0 t c (past_in u us r.0 r.1.0) on ((bytes_eq-Decides (id_of_update r.0) (id_of_update t)).0 r.1.1)) r.1.0

pub is_past : (us : List Update) (t u : Update) → IsIn t (past u us) → has_id (past u us) (id_of_update t) ≡ true
unfolding has_id
is_past us t u on = any_from (λ (w : Update). bytes_eq (id_of_update w) (id_of_update t)) t (past u us) on ((bytes_eq-Decides (id_of_update t) (id_of_update t)).1 refl)
