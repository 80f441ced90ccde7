-- Lists in which each parent comes before its children, and paths of parents.
use Rattle.std.proofs.Common.{◌≡◌, ℕ, List, [], ◌∷◌, ◌++◌, map, refl, sym, ap, subst, ◌∙◌, inl, inr, ◌⊎◌}
use Rattle.depot_base.specs.declared.update.Update.{Update}
use Rattle.depot_model.specs.lists.Lists.{IsIn}
use Rattle.depot_model.specs.texts.Texts.{id_of_update}
use Rattle.depot_model.specs.updates.Order.{IsPath, Leads, IsParent, Precedes, parents, IsCausal}
use Rattle.depot_model.proofs.lists.Members.{all_at, all_from}

-- ---- paths

-- one step leads on
pub leads_one : {X : Type 0} (step : X → X → Type 0) (x z : X) → step x z → Leads step x z
leads_one step x z one = record { stops = []; path = one }

-- a step before what leads on
pub leads_more : {X : Type 0} (step : X → X → Type 0) (x y z : X) → step x y → Leads step y z → Leads step x z
leads_more step x y z one l = record { stops = y ∷ l.stops; path = (one, l.path) }

joined : {X : Type 0} (step : X → X → Type 0) (x : X) (stops : List X) (y z : X) → IsPath step x stops y → Leads step y z → Leads step x z
joined step x [] y z path l = leads_more step x y z path l
joined step x (w ∷ stops) y z path l = leads_more step x w z path.0 (joined step w stops y z path.1 l)

-- what leads to what leads on leads on
pub leads_trans : {X : Type 0} (step : X → X → Type 0) (x y z : X) → Leads step x y → Leads step y z → Leads step x z
leads_trans step x y z l m = joined step x l.stops y z l.path m

path_of : {X : Type 0} (step other : X → X → Type 0) → ((x y : X) → step x y → other x y) → (x : X) (stops : List X) (z : X) → IsPath step x stops z → IsPath other x stops z
path_of step other each x [] z path = each x z path
path_of step other each x (y ∷ stops) z path = (each x y path.0, path_of step other each y stops z path.1)

-- more steps leave what leads on
pub leads_wider : {X : Type 0} (step other : X → X → Type 0) → ((x y : X) → step x y → other x y) → (x z : X) → Leads step x z → Leads other x z
leads_wider step other each x z l = record { stops = l.stops; path = path_of step other each x l.stops z l.path }

first_step : (among : List Update) (t : Update) (stops : List Update) (u : Update) → IsPath (IsParent among) t stops u → IsIn t among
first_step among t [] u path = path.above
first_step among t (w ∷ stops) u path = path.0.above

last_step : (among : List Update) (t : Update) (stops : List Update) (u : Update) → IsPath (IsParent among) t stops u → IsIn u among
last_step among t [] u path = path.below
last_step among t (w ∷ stops) u path = last_step among w stops u path.1

-- what precedes is one of the updates
pub precedes_from : (among : List Update) (t u : Update) → Precedes among t u → IsIn t among
precedes_from among t u p = first_step among t p.stops u p.path

-- what is preceded is one of the updates
pub precedes_to : (among : List Update) (t u : Update) → Precedes among t u → IsIn u among
precedes_to among t u p = last_step among t p.stops u p.path

-- a parent precedes its child
pub parent_precedes : (among : List Update) (t u : Update) → IsIn t among → IsIn u among → IsIn (id_of_update t) (parents u) → Precedes among t u
parent_precedes among t u above below named = leads_one (IsParent among) t u (record { above = above; below = below; named = named })

-- what precedes a parent precedes the child
pub precedes_child : (among : List Update) (t w u : Update) → Precedes among t w → IsIn u among → IsIn (id_of_update w) (parents u) → Precedes among t u
precedes_child among t w u p below named = leads_trans (IsParent among) t w u p (parent_precedes among w u (precedes_to among t w p) below named)

-- more updates leave what precedes
pub precedes_wider : (among more : List Update) → ((u : Update) → IsIn u among → IsIn u more) → (t u : Update) → Precedes among t u → Precedes more t u
precedes_wider among more each t u p = leads_wider (IsParent among) (IsParent more) (λ x y s. record { above = each x s.above; below = each y s.below; named = s.named }) t u p

-- ---- ids

-- an update of the list has an id that isn't in what comes before the list
pub fresh : (ids : List (List ℕ)) (us : List Update) (u : Update) → IsCausal ids us → IsIn u us → IsIn (id_of_update u) ids → ⊥
unfolding IsCausal
fresh ids [] u c never was = never
fresh ids (x ∷ xs) u c (inl here) was = c.1.0 (subst (λ (y : Update). IsIn (id_of_update y) ids) (sym here) was)
fresh ids (x ∷ xs) u c (inr there) was = fresh (id_of_update x ∷ ids) xs u c.1.1 there (inr was)

-- an id is that of one update of the list
pub one_of_id : (ids : List (List ℕ)) (us : List Update) (t u : Update) → IsCausal ids us → IsIn t us → IsIn u us → id_of_update t ≡ id_of_update u → t ≡ u
unfolding IsCausal
one_of_id ids [] t u c never on e = absurd never
one_of_id ids (x ∷ xs) t u c (inl one) (inl two) e = sym one ∙ two
one_of_id ids (x ∷ xs) t u c (inl one) (inr two) e = absurd (fresh (id_of_update x ∷ ids) xs u c.1.1 two (inl (ap id_of_update one ∙ e)))
one_of_id ids (x ∷ xs) t u c (inr one) (inl two) e = absurd (fresh (id_of_update x ∷ ids) xs t c.1.1 one (inl (ap id_of_update two ∙ sym e)))
one_of_id ids (x ∷ xs) t u c (inr one) (inr two) e = one_of_id (id_of_update x ∷ ids) xs t u c.1.1 one two e

-- the first names none of the list
pub first_names_none : (ids : List (List ℕ)) (x : Update) (xs : List Update) (t : Update) → IsCausal ids (x ∷ xs) → IsIn t (x ∷ xs) → IsIn (id_of_update t) (parents x) → ⊥
unfolding IsCausal
first_names_none ids x xs t c on named = fresh ids (x ∷ xs) t c on (all_at (λ h. IsIn h ids) (parents x) (id_of_update t) c.0 named)

-- what follows the first
pub causal_behind : (ids : List (List ℕ)) (x : Update) (xs : List Update) → IsCausal ids (x ∷ xs) → IsCausal (id_of_update x ∷ ids) xs
unfolding IsCausal
causal_behind ids x xs c = c.1.1

-- a parent comes before the list, or in it
pub parent_is_there : (ids : List (List ℕ)) (us : List Update) (u : Update) (h : List ℕ) → IsCausal ids us → IsIn u us → IsIn h (parents u) → IsIn h ids ⊎ ((t : Update) × (IsIn t us × (id_of_update t ≡ h)))
unfolding IsCausal
parent_is_there ids [] u h c never named = absurd never
parent_is_there ids (x ∷ xs) u h c (inl here) named = inl (all_at (λ k. IsIn k ids) (parents x) h c.0 (subst (λ (y : Update). IsIn h (parents y)) (sym here) named))
parent_is_there ids (x ∷ xs) u h c (inr there) named = elim (parent_is_there (id_of_update x ∷ ids) xs u h c.1.1 there named) [
  | inl before ↦ elim before [ inl same ↦ inr (x, (inl refl, same)) | inr old ↦ inl old ]
  | inr found ↦ inr (found.0, (inr found.1.0, found.1.1))
]

-- ---- paths in such a list

-- a child of one of the list isn't its first
pub child_is_behind : (ids : List (List ℕ)) (x : Update) (xs : List Update) (t u : Update) → IsCausal ids (x ∷ xs) → IsParent (x ∷ xs) t u → IsIn u xs
child_is_behind ids x xs t u c p = elim p.below [
  | inl here ↦ absurd (first_names_none ids x xs t c p.above (subst (λ (y : Update). IsIn (id_of_update t) (parents y)) (sym here) p.named))
  | inr there ↦ there
]

-- a path from after the first stays after it
pub path_behind : (ids : List (List ℕ)) (x : Update) (xs : List Update) (t : Update) (stops : List Update) (u : Update) → IsCausal ids (x ∷ xs) → IsIn t xs → IsPath (IsParent (x ∷ xs)) t stops u → IsPath (IsParent xs) t stops u
path_behind ids x xs t [] u c on path = record { above = on; below = child_is_behind ids x xs t u c path; named = path.named }
path_behind ids x xs t (w ∷ stops) u c on path =
    let below = child_is_behind ids x xs t w c path.0 in
    (record { above = on; below = below; named = path.0.named }, path_behind ids x xs w stops u c below path.1)

-- what is preceded isn't the first
pub preceded_is_behind : (ids : List (List ℕ)) (x : Update) (xs : List Update) (t u : Update) → IsCausal ids (x ∷ xs) → Precedes (x ∷ xs) t u → IsIn u xs
preceded_is_behind ids x xs t u c p = ends t p.stops p.path where
  ends : (w : Update) (stops : List Update) → IsPath (IsParent (x ∷ xs)) w stops u → IsIn u xs
  ends w [] path = child_is_behind ids x xs w u c path
  ends w (v ∷ stops) path = ends v stops path.1

-- nothing precedes itself
pub precedes_irreflexive : (ids : List (List ℕ)) (us : List Update) (u : Update) → IsCausal ids us → Precedes us u u → ⊥
precedes_irreflexive ids [] u c p = precedes_to [] u u p
precedes_irreflexive ids (x ∷ xs) u c p =
    let on = preceded_is_behind ids x xs u u c p in
    precedes_irreflexive (id_of_update x ∷ ids) xs u (causal_behind ids x xs c) (record { stops = p.stops; path = path_behind ids x xs u p.stops u c on p.path })

-- ---- ids that come before the list

-- ---- longer lists

-- what comes first
pub causal_front : (ids : List (List ℕ)) (us vs : List Update) → IsCausal ids (us ++ vs) → IsCausal ids us
unfolding IsCausal
causal_front ids [] vs c = tt
causal_front ids (u ∷ us) vs c = (c.0, (c.1.0, causal_front (id_of_update u ∷ ids) us vs c.1.1))

-- an update after a list: its parents come before, and its id doesn't
pub causal_push : (ids : List (List ℕ)) (us : List Update) (u : Update) → IsCausal ids us
    → ((h : List ℕ) → IsIn h (parents u) → IsIn h ids ⊎ IsIn h (map id_of_update us)) → (IsIn (id_of_update u) ids → ⊥) → (IsIn (id_of_update u) (map id_of_update us) → ⊥)
    → IsCausal ids (us ++ u ∷ [])
unfolding IsCausal
causal_push ids [] u c there old new = (all_from (λ h. IsIn h ids) (parents u) (λ h on. elim (there h on) [ inl before ↦ before | inr never ↦ absurd never ]), (old, tt))
causal_push ids (x ∷ us) u c there old new = (
  c.0,
  (
    c.1.0,
    causal_push (id_of_update x ∷ ids) us u c.1.1
        (λ h on. elim (there h on) [
          | inl before ↦ inl (inr before)
          | inr among ↦ elim among [ inl here ↦ inl (inl here) | inr later ↦ inr later ]
        ])
        (λ was. elim was [ inl here ↦ new (inl here) | inr before ↦ old before ])
        (λ was. new (inr was)),
  ),
)

-- the parents of the last come before it
pub parents_of_last : (ids : List (List ℕ)) (us : List Update) (u : Update) (h : List ℕ) → IsCausal ids (us ++ u ∷ []) → IsIn h (parents u) → IsIn h ids ⊎ IsIn h (map id_of_update us)
unfolding IsCausal
parents_of_last ids [] u h c on = inl (all_at (λ k. IsIn k ids) (parents u) h c.0 on)
parents_of_last ids (x ∷ us) u h c on = elim (parents_of_last (id_of_update x ∷ ids) us u h c.1.1 on) [
  | inl before ↦ elim before [ inl here ↦ inr (inl here) | inr old ↦ inl old ]
  | inr among ↦ inr (inr among)
]
