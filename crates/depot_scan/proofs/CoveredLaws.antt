-- The walk over the updates leaves just the latest writes uncovered.
use Rattle.std.proofs.Common.{◌≡◌, ℕ, List, [], ◌∷◌, Bool, true, not, ◌&&◌, ◌||◌, refl, sym, ap, subst, ◌∙◌, inl, inr, ◌⊎◌}
use Rattle.std.proofs.lemmas.Bool.{or_cases, or_left, or_right, and_parts, and_from, not-true, both_ways, cases_Bool}
use Rattle.depot_base.specs.declared.update.Update.{Update}
use Rattle.depot_model.specs.lists.Lists.{IsIn, is_among}
use Rattle.depot_model.specs.texts.Texts.{id_of_update}
use Rattle.depot_model.specs.updates.Order.{IsPath, IsParent, Precedes, parents, IsCausal, IsLatest}
use Rattle.depot_model.proofs.lists.Members.{among_from, among_to, chosen_cases, chosen_behind, chosen_front}
use Rattle.depot_model.proofs.of_updates.Orders.{leads_more, parent_precedes, precedes_wider, causal_behind, child_is_behind, path_behind}
use Rattle.depot_model.proofs.of_texts.ContentLaws.{writes-Decides}
use Rattle.depot_model.specs.texts.Contents.{writes as writes_key, Writes}
use Rattle.depot_scan.specs.Covered.{covers, uncovered}

writes_is : (key : List ℕ) (u : Update) → writes_key key u ≡ true → Writes key u
writes_is key u e = (writes-Decides key u).0 e

is_written : (key : List ℕ) (u : Update) → Writes key u → writes_key key u ≡ true
is_written key u e = (writes-Decides key u).1 e

-- ---- what is covered precedes a write

-- an update of these that writes the key, which t precedes
record Superseded (key : List ℕ) (among us : List Update) (t : Update) : Type 0 where
  pub by : Update
  pub on : IsIn by us
  pub writes : writes_key key by ≡ true
  pub precedes : Precedes among t by

covered_precedes : (key : List ℕ) (among us : List Update) → ((w : Update) → IsIn w us → IsIn w among) → (t : Update) → IsIn t among → covers key us (id_of_update t) ≡ true → Superseded key among us t
unfolding covers
covered_precedes key among [] known t t_in e = absurd cc
covered_precedes key among (x ∷ xs) known t t_in e =
    elim (or_cases (is_among (id_of_update t) (parents x) && (writes_key key x || covers key xs (id_of_update x))) (covers key xs (id_of_update t)) e) [
      | inr later ↦ let s = covered_precedes key among xs (λ w on. known w (inr on)) t t_in later in record { by = s.by; on = inr s.on; writes = s.writes; precedes = s.precedes }
      | inl here ↦
          let parts = and_parts (is_among (id_of_update t) (parents x)) (writes_key key x || covers key xs (id_of_update x)) here in
          let named = among_to (id_of_update t) (parents x) parts.0 in
          let x_in = known x (inl refl) in
          elim (or_cases (writes_key key x) (covers key xs (id_of_update x)) parts.1) [
            | inl writes ↦ record { by = x; on = inl refl; writes = writes; precedes = parent_precedes among t x t_in x_in named }
            | inr on ↦
                let s = covered_precedes key among xs (λ w w_in. known w (inr w_in)) x x_in on in
                record { by = s.by; on = inr s.on; writes = s.writes; precedes = leads_more (IsParent among) t x s.by (record { above = t_in; below = x_in; named = named }) s.precedes }
          ]
    ]

-- ---- what precedes a write is covered

-- v is w, or w precedes it
abbrev Reaches : List Update → Update → Update → Type 0
Reaches us w v = (w ≡ v) ⊎ Precedes us w v

-- a first step from the first of the list, and how it goes on after it
record Step (x : Update) (xs : List Update) (v : Update) : Type 0 where
  pub to : Update
  pub on : IsIn to xs
  pub named : IsIn (id_of_update x) (parents to)
  pub reaches : Reaches xs to v

step_from : (ids : List (List ℕ)) (x : Update) (xs : List Update) (v : Update) (stops : List Update) → IsCausal ids (x ∷ xs) → IsPath (IsParent (x ∷ xs)) x stops v → Step x xs v
step_from ids x xs v [] c path = record { to = v; on = child_is_behind ids x xs x v c path; named = path.named; reaches = inl refl }
step_from ids x xs v (w ∷ stops) c path =
    let on = child_is_behind ids x xs x w c path.0 in
    record { to = w; on = on; named = path.0.named; reaches = inr (record { stops = stops; path = path_behind ids x xs w stops v c on path.1 }) }

behind : (ids : List (List ℕ)) (x : Update) (xs : List Update) (w v : Update) → IsCausal ids (x ∷ xs) → IsIn w xs → Reaches (x ∷ xs) w v → Reaches xs w v
behind ids x xs w v c on (inl same) = inl same
behind ids x xs w v c on (inr p) = inr (record { stops = p.stops; path = path_behind ids x xs w p.stops v c on p.path })

named_is_covered : (key : List ℕ) (ids : List (List ℕ)) (us : List Update) (h : List ℕ) (w v : Update) → IsCausal ids us → IsIn w us → IsIn h (parents w) → Reaches us w v → writes_key key v ≡ true → covers key us h ≡ true
unfolding covers
named_is_covered key ids [] h w v c never named reaches writes = absurd never
named_is_covered key ids (x ∷ xs) h w v c (inr there) named reaches writes =
    or_right (is_among h (parents x) && (writes_key key x || covers key xs (id_of_update x))) (covers key xs h)
    (named_is_covered key (id_of_update x ∷ ids) xs h w v (causal_behind ids x xs c) there named (behind ids x xs w v c there reaches) writes)
named_is_covered key ids (x ∷ xs) h w v c (inl here) named reaches writes =
    let names : is_among h (parents x) ≡ true = among_from h (parents x) (subst (λ (y : Update). IsIn h (parents y)) (sym here) named) in
    or_left (is_among h (parents x) && (writes_key key x || covers key xs (id_of_update x))) (covers key xs h)
    (and_from (is_among h (parents x)) (writes_key key x || covers key xs (id_of_update x)) names (elim reaches [
      | inl same ↦ or_left (writes_key key x) (covers key xs (id_of_update x)) (subst (λ (y : Update). writes_key key y ≡ true) (sym (here ∙ same)) writes)
      | inr p ↦
          let s = step_from ids x xs v p.stops c (subst (λ (y : Update). IsPath (IsParent (x ∷ xs)) y p.stops v) (sym here) p.path) in
          or_right (writes_key key x) (covers key xs (id_of_update x)) (named_is_covered key (id_of_update x ∷ ids) xs (id_of_update x) s.to v (causal_behind ids x xs c) s.on s.named s.reaches writes)
    ]))

-- the first of a list is covered where it precedes a write
first_is_covered : (key : List ℕ) (ids : List (List ℕ)) (x : Update) (xs : List Update) (v : Update) → IsCausal ids (x ∷ xs) → Precedes (x ∷ xs) x v → writes_key key v ≡ true → covers key xs (id_of_update x) ≡ true
first_is_covered key ids x xs v c p writes =
    let s = step_from ids x xs v p.stops c p.path in
    named_is_covered key (id_of_update x ∷ ids) xs (id_of_update x) s.to v (causal_behind ids x xs c) s.on s.named s.reaches writes

-- ---- what is left

abbrev is_left : List ℕ → Update → List Update → Bool
is_left key x xs = writes_key key x && not (covers key xs (id_of_update x))

pub uncovered_in : (key : List ℕ) (us : List Update) (u : Update) → IsIn u (uncovered key us) → IsIn u us × (writes_key key u ≡ true)
unfolding uncovered
uncovered_in key [] u never = absurd never
uncovered_in key (x ∷ xs) u on = elim (chosen_cases (is_left key x xs) u x (uncovered key xs) on) [
  | inl here ↦ (inl here.1, subst (λ (y : Update). writes_key key y ≡ true) here.1 (and_parts (writes_key key x) (not (covers key xs (id_of_update x))) here.0).0)
  | inr there ↦ let r = uncovered_in key xs u there in (inr r.0, r.1)
]

-- none that is left precedes a write
uncovered_last : (key : List ℕ) (ids : List (List ℕ)) (us : List Update) (u v : Update) → IsCausal ids us → IsIn u (uncovered key us) → writes_key key v ≡ true → Precedes us u v → ⊥
unfolding uncovered
uncovered_last key ids [] u v c on writes p = on
uncovered_last key ids (x ∷ xs) u v c on writes p = elim (chosen_cases (is_left key x xs) u x (uncovered key xs) on) [
  | inl here ↦
      let not_covered = not-true (covers key xs (id_of_update x)) (and_parts (writes_key key x) (not (covers key xs (id_of_update x))) here.0).1 in
      both_ways (covers key xs (id_of_update x)) not_covered (first_is_covered key ids x xs v c (subst (λ (y : Update). Precedes (x ∷ xs) y v) (sym here.1) p) writes)
  | inr there ↦
      let u_in = (uncovered_in key xs u there).0 in
      uncovered_last key (id_of_update x ∷ ids) xs u v (causal_behind ids x xs c) there writes (record { stops = p.stops; path = path_behind ids x xs u p.stops v c u_in p.path })
]

-- each write that precedes no other is left
uncovered_all : (key : List ℕ) (us : List Update) (u : Update) → IsIn u us → writes_key key u ≡ true → ((v : Update) → IsIn v us → writes_key key v ≡ true → Precedes us u v → ⊥) → IsIn u (uncovered key us)
unfolding uncovered
uncovered_all key [] u never writes none = never
uncovered_all key (x ∷ xs) u (inl here) writes none =
    let first : writes_key key x ≡ true = subst (λ (y : Update). writes_key key y ≡ true) (sym here) writes in
    let free : not (covers key xs (id_of_update x)) ≡ true = elim (cases_Bool (covers key xs (id_of_update x))) [
      | inr off ↦ ap not off
      | inl on ↦
          let s = covered_precedes key (x ∷ xs) xs (λ w w_in. inr w_in) x (inl refl) on in
          absurd (none s.by (inr s.on) s.writes (subst (λ (y : Update). Precedes (x ∷ xs) y s.by) here s.precedes))
    ] in
    chosen_front (is_left key x xs) u x (uncovered key xs) (and_from (writes_key key x) (not (covers key xs (id_of_update x))) first free) here
uncovered_all key (x ∷ xs) u (inr there) writes none =
    chosen_behind (is_left key x xs) u x (uncovered key xs) (uncovered_all key xs u there writes (λ v on w p. none v (inr on) w (precedes_wider xs (x ∷ xs) (λ y y_in. inr y_in) u v p)))

-- what is left is latest
pub latest_from_uncovered : (key : List ℕ) (us : List Update) (u : Update) → IsCausal [] us → IsIn u (uncovered key us) → IsLatest key (λ w. IsIn w us) (Precedes us) u
latest_from_uncovered key us u c on =
    let k = uncovered_in key us u on in
    record {
      known = k.0;
      writes = writes_is key u k.1;
      last = λ v v_in same p. uncovered_last key [] us u v c on (is_written key v same) p;
    }

-- what is latest is left
pub uncovered_from_latest : (key : List ℕ) (us : List Update) (u : Update) → IsLatest key (λ w. IsIn w us) (Precedes us) u → IsIn u (uncovered key us)
uncovered_from_latest key us u l = uncovered_all key us u l.known (is_written key u l.writes) (λ v v_in writes p. l.last v v_in (writes_is key v writes) p)
