-- Updates that were seen: they stay seen, and if the parents of new ones were seen, each follows its parents.
use Rattle.std.proofs.Common.{◌≡◌, ℕ, zero, suc, Bool, true, false, cond, List, [], ◌∷◌, ◌++◌, ◌+◌, ◌≤◌, length, take, map, Some, refl, ap, subst, ◌∙◌, inr, length-append, arith}
use Rattle.std.specs.List.{AllByRecursion, slice_get}
use Rattle.depot_base.specs.declared.update.Update.{Update}
use Rattle.depot_model.specs.journals.Journal.{has_id}
use Rattle.depot_model.specs.lists.Lists.{IsIn}
use Rattle.depot_model.specs.updates.Order.{parents, IsCausal}
use Rattle.depot_model.specs.texts.Texts.{id_of_update}
use Rattle.depot_model.proofs.lists.Members.{in_left, in_last, in_map, all_at, all_from}
use Rattle.depot_model.proofs.of_updates.Orders.{causal_push}
use Rattle.depot_model.proofs.of_updates.NamedIds.{has_id_from, has_id_to, new_id}
use Rattle.depot_world.specs.Run.{seen_with}
use Rattle.depot_simulation.specs.Playing.{WereSeen}

-- each of these ids is that of an update that was seen
abbrev pub IdsWereSeen : List Update → List (List ℕ) → Type 0
IdsWereSeen seen ids = AllByRecursion (λ h. has_id seen h ≡ true) ids

-- one update more, unless its id was seen
abbrev pub with_one : List Update → Update → List Update
with_one seen u = cond (has_id seen (id_of_update u)) seen (seen ++ u ∷ [])

-- ---- what was seen stays seen

in_front : (seen us : List Update) (h : List ℕ) → has_id seen h ≡ true → has_id (seen ++ us) h ≡ true
in_front seen us h e = let t = has_id_to seen h e in has_id_from (seen ++ us) h t.0 (in_left t.0 seen us t.1.0) t.1.1

one_stays : (seen : List Update) (u : Update) (h : List ℕ) → has_id seen h ≡ true → has_id (with_one seen u) h ≡ true
one_stays seen u h e = by_test (has_id seen (id_of_update u)) where
  by_test : (b : Bool) → has_id (cond b seen (seen ++ u ∷ [])) h ≡ true
  by_test true = e
  by_test false = in_front seen (u ∷ []) h e

one_is_seen : (seen : List Update) (u : Update) → has_id (with_one seen u) (id_of_update u) ≡ true
one_is_seen seen u = by_test (has_id seen (id_of_update u)) refl where
  by_test : (b : Bool) → has_id seen (id_of_update u) ≡ b → has_id (cond b seen (seen ++ u ∷ [])) (id_of_update u) ≡ true
  by_test true is = is
  by_test false is = has_id_from (seen ++ u ∷ []) (id_of_update u) u (in_last seen u) refl

-- an id that was seen
pub stays_seen : (seen us : List Update) (h : List ℕ) → has_id seen h ≡ true → has_id (seen_with seen us) h ≡ true
unfolding seen_with
stays_seen seen [] h e = e
stays_seen seen (u ∷ us) h e = stays_seen (with_one seen u) us h (one_stays seen u h e)

-- updates that were seen
pub were_stay_seen : (seen us vs : List Update) → WereSeen seen vs → WereSeen (seen_with seen us) vs
were_stay_seen seen us [] were = tt
were_stay_seen seen us (v ∷ vs) were = (stays_seen seen us (id_of_update v) were.0, were_stay_seen seen us vs were.1)

-- all that come are seen
pub all_are_seen : (seen us : List Update) → WereSeen (seen_with seen us) us
unfolding seen_with
all_are_seen seen [] = tt
all_are_seen seen (u ∷ us) = (stays_seen (with_one seen u) us (id_of_update u) (one_is_seen seen u), all_are_seen (with_one seen u) us)

-- ---- one after the other

-- what comes in two parts
pub seen_with-append : (seen us vs : List Update) → seen_with seen (us ++ vs) ≡ seen_with (seen_with seen us) vs
unfolding seen_with
seen_with-append seen [] vs = refl
seen_with-append seen (u ∷ us) vs = seen_with-append (with_one seen u) us vs

-- updates that were seen add nothing
pub seen_add_nothing : (seen us : List Update) → WereSeen seen us → seen_with seen us ≡ seen
unfolding seen_with
seen_add_nothing seen [] were = refl
seen_add_nothing seen (u ∷ us) were = ap (λ (b : Bool). seen_with (cond b seen (seen ++ u ∷ [])) us) were.0 ∙ seen_add_nothing seen us were.1

-- no more are added than come
one_at_most : (seen : List Update) (u : Update) → length (with_one seen u) ≤ length seen + 1
one_at_most seen u = by_test (has_id seen (id_of_update u)) where
  by_test : (b : Bool) → length (cond b seen (seen ++ u ∷ [])) ≤ length seen + 1
  by_test true = omega arith
  by_test false = omega (arith, length-append seen (u ∷ []))

pub seen_at_most : (seen us : List Update) → length (seen_with seen us) ≤ length seen + length us
unfolding seen_with
seen_at_most seen [] = omega arith
seen_at_most seen (u ∷ us) = omega (arith, seen_at_most (with_one seen u) us, one_at_most seen u)

-- ---- parents

-- the parents of each that comes were seen, or precede it among those that come
abbrev pub ParentsCome : List Update → List Update → Type 0
ParentsCome seen [] = Unit {0}
ParentsCome seen (u ∷ us) = IdsWereSeen seen (parents u) × ParentsCome (with_one seen u) us

come_behind : (ids : List (List ℕ)) (seen us : List Update) → IdsWereSeen seen ids → IsCausal ids us → ParentsCome seen us
unfolding IsCausal
come_behind ids seen [] known c = tt
come_behind ids seen (u ∷ us) known c = (
  all_from (λ (h : List ℕ). has_id seen h ≡ true) (parents u) (λ h on. all_at (λ (k : List ℕ). has_id seen k ≡ true) ids h known (all_at (λ (k : List ℕ). IsIn k ids) (parents u) h c.0 on)),
  come_behind (id_of_update u ∷ ids) (with_one seen u) us
      (one_is_seen seen u, all_from (λ (h : List ℕ). has_id (with_one seen u) h ≡ true) ids (λ h on. one_stays seen u h (all_at (λ (k : List ℕ). has_id seen k ≡ true) ids h known on))) c.1.1,
)

-- so it is where each parent precedes its children, whatever was seen
pub causal_come : (seen us : List Update) → IsCausal [] us → ParentsCome seen us
causal_come seen us c = come_behind [] seen us tt c

-- the parents of the next were seen, where those before it were added
pub parents_of_next : (seen us : List Update) (i : ℕ) (u : Update) → ParentsCome seen us → slice_get us i ≡ Some u → IdsWereSeen (seen_with seen (take i us)) (parents u)
unfolding seen_with
parents_of_next seen [] i u come at = absurd cc
parents_of_next seen (v ∷ us) zero u come at = let same : v ≡ u = cc in subst (λ (x : Update). IdsWereSeen seen (parents x)) same come.0
parents_of_next seen (v ∷ us) (suc i) u come at = parents_of_next (with_one seen v) us i u come.1 at

-- ---- the order

-- an id that was seen is one of the ids
pub id_is_on : (us : List Update) (h : List ℕ) → has_id us h ≡ true → IsIn h (map id_of_update us)
id_is_on us h e = let t = has_id_to us h e in subst (λ (k : List ℕ). IsIn k (map id_of_update us)) t.1.1 (in_map id_of_update t.0 us t.1.0)

one_is_causal : (seen : List Update) (u : Update) → IsCausal [] seen → IdsWereSeen seen (parents u) → IsCausal [] (with_one seen u)
one_is_causal seen u c were = by_test (has_id seen (id_of_update u)) refl where
  by_test : (b : Bool) → has_id seen (id_of_update u) ≡ b → IsCausal [] (cond b seen (seen ++ u ∷ []))
  by_test true is = c
  by_test false is = causal_push [] seen u c (λ h on. inr (id_is_on seen h (all_at (λ (k : List ℕ). has_id seen k ≡ true) (parents u) h were on))) (λ never. never) (new_id seen (id_of_update u) is)

-- updates whose parents come keep the order
pub stays_causal : (seen us : List Update) → IsCausal [] seen → ParentsCome seen us → IsCausal [] (seen_with seen us)
unfolding seen_with
stays_causal seen [] c come = c
stays_causal seen (u ∷ us) c come = stays_causal (with_one seen u) us (one_is_causal seen u c come.0) come.1
