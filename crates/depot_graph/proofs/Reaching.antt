-- What ids reach in a list is what they name and all that precedes it.
use Rattle.std.proofs.Common.{◌≡◌, ℕ, Bool, true, false, List, [], ◌∷◌, map, Option, Some, None, ◌||◌, cond, refl, sym, ap, subst, ◌⊎◌, inl, inr}
use Rattle.std.specs.List.{slice_get}
use Rattle.std.specs.Option.{option_to_list}
use Rattle.std.proofs.lemmas.Bool.{or_cases, or_left, or_right}
use Rattle.depot_base.specs.declared.update.Update.{Update}
use Rattle.depot_model.specs.lists.Lists.{IsIn, is_among}
use Rattle.depot_model.specs.texts.Texts.{id_of_update}
use Rattle.depot_model.specs.updates.Order.{IsPath, IsParent, Precedes, parents, past, is_named, IsCausal}
use Rattle.depot_model.specs.lists.Items.{updates_at}
use Rattle.depot_model.proofs.lists.Elements.{in_at}
use Rattle.depot_model.proofs.lists.Members.{all_at, all_from, in_map, from_map, in_parts, among_from, among_to, chosen_cases, chosen_behind, chosen_front}
use Rattle.depot_model.proofs.of_updates.Orders.{parent_precedes, leads_more, first_names_none, causal_behind, one_of_id, precedes_from}
use Rattle.depot_model.proofs.lists.RisingUpdates.{HaveOwnIds}
use Rattle.depot_model.proofs.of_updates.Pasts.{named_by, is_named_by}
use Rattle.depot_graph.specs.Closure.{reached, closure_of}

-- ---- the updates at places

in_found : (us : List Update) (place : ℕ) (o : Option Update) (u : Update) → slice_get us place ≡ o → IsIn u (option_to_list o) → IsIn u us
in_found us place None u at never = absurd never
in_found us place (Some t) u at (inl same) = subst (λ (w : Update). IsIn w us) same (in_at us place t at)
in_found us place (Some t) u at (inr never) = absurd never

-- what is at some places is one of the list
pub at_places : (us : List Update) (places : List ℕ) (u : Update) → IsIn u (updates_at us places) → IsIn u us
at_places us [] u never = absurd never
at_places us (n ∷ ns) u on = elim (in_parts u (option_to_list (slice_get us n)) (updates_at us ns) on) [
  | inl here ↦ in_found us n (slice_get us n) u refl here
  | inr there ↦ at_places us ns u there
]

-- one of the list with the id of one at these places is at them
pub of_places : (us : List Update) (places : List ℕ) (t : Update) → IsCausal [] us → IsIn t us → IsIn (id_of_update t) (map id_of_update (updates_at us places)) → IsIn t (updates_at us places)
of_places us places t c t_in named =
    let u = from_map id_of_update (id_of_update t) (updates_at us places) named in
    let same : u.0 ≡ t = one_of_id [] us u.0 t c (at_places us places u.0 u.1.0) t_in u.1.1 in
    subst (λ (w : Update). IsIn w (updates_at us places)) same u.1.0

-- ---- what is reached is named, or precedes what is

-- one of these updates has one of these ids, and t precedes it
pub record IsBeforeNamed (among : List Update) (ids : List (List ℕ)) (t : Update) : Type 0 where
  pub named : Update
  pub on : IsIn named among
  pub id : IsIn (id_of_update named) ids
  pub before : Precedes among t named

reached_in : (ids : List (List ℕ)) (us : List Update) (t : Update) → IsIn t (reached ids us) → IsIn t us
unfolding reached
reached_in ids [] t never = never
reached_in ids (x ∷ xs) t on = elim (chosen_cases (is_among (id_of_update x) ids || is_named x (reached ids xs)) t x (reached ids xs) on) [
  | inl here ↦ inl here.1
  | inr there ↦ inr (reached_in ids xs t there)
]

through_child : (among : List Update) (ids : List (List ℕ)) (t w : Update) → IsIn t among → IsIn w among → IsIn (id_of_update t) (parents w) → IsIn (id_of_update w) ids ⊎ IsBeforeNamed among ids w → IsBeforeNamed among ids t
through_child among ids t w t_in w_in named (inl given) = record { named = w; on = w_in; id = given; before = parent_precedes among t w t_in w_in named }
through_child among ids t w t_in w_in named (inr p) = record { named = p.named; on = p.on; id = p.id; before = leads_more (IsParent among) t w p.named (record { above = t_in; below = w_in; named = named }) p.before }

reached_follows : (among : List Update) (ids : List (List ℕ)) (us : List Update) → ((w : Update) → IsIn w us → IsIn w among) → (t : Update) → IsIn t (reached ids us) → IsIn (id_of_update t) ids ⊎ IsBeforeNamed among ids t
unfolding reached
reached_follows among ids [] known t never = absurd never
reached_follows among ids (x ∷ xs) known t on = elim (chosen_cases (is_among (id_of_update x) ids || is_named x (reached ids xs)) t x (reached ids xs) on) [
  | inr there ↦ reached_follows among ids xs (λ w w_in. known w (inr w_in)) t there
  | inl here ↦ elim (or_cases (is_among (id_of_update x) ids) (is_named x (reached ids xs)) here.0) [
    | inl given ↦ inl (subst (λ (y : Update). IsIn (id_of_update y) ids) here.1 (among_to (id_of_update x) ids given))
    | inr child ↦
        let n = named_by x (reached ids xs) child in
        let named = subst (λ (y : Update). IsIn (id_of_update y) (parents n.0)) here.1 n.1.1 in
        inr (through_child among ids t n.0 (known t (inl here.1)) (known n.0 (inr (reached_in ids xs n.0 n.1.0))) named (reached_follows among ids xs (λ w w_in. known w (inr w_in)) n.0 n.1.0))
  ]
]

-- ---- and the other way

reached_given : (ids : List (List ℕ)) (us : List Update) (t : Update) → IsIn t us → IsIn (id_of_update t) ids → IsIn t (reached ids us)
unfolding reached
reached_given ids [] t never given = never
reached_given ids (x ∷ xs) t (inl here) given =
    chosen_front (is_among (id_of_update x) ids || is_named x (reached ids xs)) t x (reached ids xs)
    (or_left (is_among (id_of_update x) ids) (is_named x (reached ids xs)) (among_from (id_of_update x) ids (subst (λ (y : Update). IsIn (id_of_update y) ids) (sym here) given))) here
reached_given ids (x ∷ xs) t (inr there) given = chosen_behind (is_among (id_of_update x) ids || is_named x (reached ids xs)) t x (reached ids xs) (reached_given ids xs t there given)

-- what something that is reached names is reached
reached_takes : (before ids : List (List ℕ)) (us : List Update) (t w : Update) → IsCausal before us → IsIn t us → IsIn w (reached ids us) → IsIn (id_of_update t) (parents w) → IsIn t (reached ids us)
unfolding reached
reached_takes before ids [] t w c never on named = never
reached_takes before ids (x ∷ xs) t w c t_in on named = elim (chosen_cases (is_among (id_of_update x) ids || is_named x (reached ids xs)) w x (reached ids xs) on) [
  | inl here ↦ absurd (first_names_none before x xs t c t_in (subst (λ (y : Update). IsIn (id_of_update t) (parents y)) (sym here.1) named))
  | inr later ↦ elim t_in [
    | inl here ↦
        chosen_front (is_among (id_of_update x) ids || is_named x (reached ids xs)) t x (reached ids xs)
        (or_right (is_among (id_of_update x) ids) (is_named x (reached ids xs)) (is_named_by x w (reached ids xs) later (subst (λ (y : Update). IsIn (id_of_update y) (parents w)) (sym here) named))) here
    | inr there ↦ chosen_behind (is_among (id_of_update x) ids || is_named x (reached ids xs)) t x (reached ids xs) (reached_takes (id_of_update x ∷ before) ids xs t w (causal_behind before x xs c) there later named)
  ]
]

path_is_reached : (ids : List (List ℕ)) (us : List Update) (u : Update) → IsCausal [] us → IsIn u (reached ids us) → (t : Update) (stops : List Update) → IsIn t us → IsPath (IsParent us) t stops u → IsIn t (reached ids us)
path_is_reached ids us u c on t [] t_in path = reached_takes [] ids us t u c t_in on path.named
path_is_reached ids us u c on t (w ∷ stops) t_in path = reached_takes [] ids us t w c t_in (path_is_reached ids us u c on w stops path.0.below path.1) path.0.named

-- ---- what is at some places with all that precedes it

-- an update that is at one of these places, or precedes one that does
abbrev pub IsUpTo : List Update → List ℕ → Update → Type 0
IsUpTo us places t = IsIn t (updates_at us places) ⊎ ((u : Update) × (IsIn u (updates_at us places) × Precedes us t u))

pub closure_in : (us : List Update) (places : List ℕ) (t : Update) → IsIn t (closure_of places us) → IsIn t us
unfolding closure_of
closure_in us places t on = reached_in (map id_of_update (updates_at us places)) us t on

pub closure_precedes : (us : List Update) (places : List ℕ) (t : Update) → IsCausal [] us → IsIn t (closure_of places us) → IsUpTo us places t
unfolding closure_of
closure_precedes us places t c on = elim (reached_follows us (map id_of_update (updates_at us places)) us (λ w w_in. w_in) t on) [
  | inl given ↦ inl (of_places us places t c (reached_in (map id_of_update (updates_at us places)) us t on) given)
  | inr p ↦ inr (p.named, (of_places us places p.named c p.on p.id, p.before))
]

pub precedes_closure : (us : List Update) (places : List ℕ) (t : Update) → IsCausal [] us → IsUpTo us places t → IsIn t (closure_of places us)
unfolding closure_of
precedes_closure us places t c (inl here) = reached_given (map id_of_update (updates_at us places)) us t (at_places us places t here) (in_map id_of_update t (updates_at us places) here)
precedes_closure us places t c (inr p) =
    path_is_reached (map id_of_update (updates_at us places)) us p.0 c
    (reached_given (map id_of_update (updates_at us places)) us p.0 (at_places us places p.0 p.1.0) (in_map id_of_update p.0 (updates_at us places) p.1.0)) t p.1.1.stops (precedes_from us t p.0 p.1.1) p.1.1.path

-- the past of an update is what its parents reach
pub past_is_reached : (u : Update) (us : List Update) → past u us ≡ reached (parents u) us
unfolding past reached
past_is_reached u [] = refl
past_is_reached u (t ∷ ts) = ap (λ (rest : List Update). cond (is_among (id_of_update t) (parents u) || is_named t rest) (t ∷ rest) rest) (past_is_reached u ts)

-- no id occurs twice in what is reached
pub reached_apart : (ids : List (List ℕ)) (us : List Update) → HaveOwnIds us → HaveOwnIds (reached ids us)
unfolding reached
reached_apart ids [] apart = tt
reached_apart ids (t ∷ ts) apart = by_test (is_among (id_of_update t) ids || is_named t (reached ids ts)) (reached_apart ids ts apart.1) where
  by_test : (b : Bool) → HaveOwnIds (reached ids ts) → HaveOwnIds (cond b (t ∷ reached ids ts) (reached ids ts))
  by_test true rest = (all_from (λ (u : Update). id_of_update u ≡ id_of_update t → ⊥) (reached ids ts) (λ u on. all_at (λ (u : Update). id_of_update u ≡ id_of_update t → ⊥) ts u apart.0 (reached_in ids ts u on)), rest)
  by_test false rest = rest
