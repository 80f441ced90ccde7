-- The next own update of a lawful journal passes the checks of its content there.
use Rattle.std.proofs.Common.{◌≡◌, ℕ, suc, ◌+◌, ◌<◌, ◌≤◌, List, [], ◌∷◌, ◌++◌, map, Bool, true, false, not, Option, Some, None, refl, sym, ap, subst, ◌∙◌, arith, inl, inr}
use Rattle.std.proofs.lemmas.Slice.Eq.{bytes_eq-Decides}
use Rattle.std.proofs.lemmas.Bool.{and_from, or_from, eq-eqb, lt-leb, le-ltb, both_ways}
use Rattle.depot_base.specs.declared.update.Update.{Update}
use Rattle.depot_base.specs.declared.update.Dep.{Dep}
use Rattle.depot_base.specs.declared.check.Check.{Check}
use Rattle.depot_base.specs.declared.check.Check.TheVariants as check
use Rattle.depot_base.specs.declared.record.Record.{Record}
use Rattle.depot_model.specs.lists.Lists.{IsIn, when, first}
use Rattle.depot_model.specs.texts.Texts.{id_of_update}
use Rattle.depot_model.specs.updates.Order.{IsParent, prevs, parents, past, IsCausal}
use Rattle.depot_model.specs.updates.History.{greatest_clock, history_hash}
use Rattle.depot_model.specs.journals.Journal.{accepted, last_own, named}
use Rattle.depot_model.specs.checks.Own.{entry_of, next_entries, next_with, IsFresh}
use Rattle.depot_model.specs.checks.Checks.{Setting, sight, lost, wrong_prev, wrong_entry, wrong_entries, behind, not_above, clock_of, greatest_of, clock_far, bad_history, content_checks}
use Rattle.depot_model.specs.journals.Lawful.{IsLawful}
use Rattle.depot_model.proofs.lists.Members.{in_left, in_right, in_parts, in_pushed, in_map, from_map}
use Rattle.depot_model.proofs.of_updates.Orders.{one_of_id, precedes_irreflexive, leads_one}
use Rattle.depot_model.specs.updates.Chains.{IsEarlierStep}
use Rattle.depot_base.proofs.GeneralLaws.{all_both}
use Rattle.depot_laws.proofs.lists.Tests.{first-none}
use Rattle.depot_model.proofs.of_updates.NamedIds.{named_some, has_id_from}
use Rattle.depot_laws.proofs.records.Taken.{AllNone}
use Rattle.depot_laws.proofs.records.Causes.{prevs_is, entry_is_leaf, leaf_is_on, lawful_is_causal, put_is_causal}
use Rattle.depot_laws.proofs.orders.Clocks.{clock_below, greatest_within, next_clock}
use Rattle.depot_laws.proofs.orders.Prevs.{put_prev}
use Rattle.depot_laws.proofs.orders.ParentClocks.{parent_is_lower}
use Rattle.depot_laws.proofs.orders.Paths.{back_along}
use Rattle.depot_laws.proofs.orders.Follows.{next_follows, past_of_own}

-- ---- rows

when-false : {X : Type 0} (test : Bool) (x : X) → test ≡ false → when test x ≡ None
when-false true x e = absurd cc
when-false false x e = refl

-- each row that is shown of a list is none
each_none : {X : Type 0} (row : X → Option Check) (xs : List X) → ((x : X) → IsIn x xs → row x ≡ None) → AllNone (map row xs)
each_none row [] each = tt
each_none row (x ∷ xs) each = (each x (inl refl), each_none row xs (λ y on. each y (inr on)))

-- no clock is above the greatest
greatest_above : (os : List (Option Update)) (o : Option Update) → IsIn o os → clock_of o ≤ greatest_of os
greatest_above [] o never = absurd never
greatest_above (x ∷ os) o (inl here) = let e : clock_of x ≡ clock_of o = ap clock_of here in omega arith
greatest_above (x ∷ os) o (inr there) = let h = greatest_above os o there in omega arith

-- ---- the next own update

-- what is seen of the prev: an earlier step of the same writer
record SeesPrev (us : List Update) (u : Update) (o : Option Update) : Type 0 where
  pub prev : Update
  pub is : o ≡ Some prev
  pub on : IsIn prev us
  pub writer : prev.writer ≡ u.writer
  pub earlier : IsEarlierStep prev u

-- what is seen of an entry: the update that it names
record SeesEntry (us : List Update) (e : Dep × Option Update) : Type 0 where
  pub update : Update
  pub is : e ≡ (entry_of update, Some update)
  pub on : IsIn update us

module _ (here : Setting) (J : List Record) (u : Update) (lawful : IsLawful here J) (next : u ≡ next_with here.me J u.writes) (fresh : IsFresh J (id_of_update u)) where
  causal : IsCausal [] (accepted J)
  causal = lawful_is_causal here J lawful

  clock_is : u.clock ≡ greatest_clock (accepted J) + 1
  clock_is = ap (λ (x : Update). x.clock) next ∙ next_clock here.me J u.writes

  above : (t : Update) → IsIn t (accepted J) → t.clock < u.clock
  above t on = omega (arith, clock_is, clock_below t (accepted J) on)

  deps_are : u.deps ≡ map entry_of (next_entries here.me (accepted J) (last_own J))
  deps_are = ap (λ (x : Update). x.deps) next

  history_is : u.history ≡ history_hash (accepted J)
  history_is = ap (λ (x : Update). x.history) next

  fronts : List (Option Update)
  fronts = map (named (accepted J)) (prevs u)

  abbrev pair : Dep → Dep × Option Update
  pair d = (d, named (accepted J) d.id)

  backs : List (Dep × Option Update)
  backs = map pair u.deps

  sees_prev : (o : Option Update) → IsIn o fronts → SeesPrev (accepted J) u o
  unfolding fronts
  sees_prev o on =
      let h = from_map (named (accepted J)) o (prevs u) on in
      let p = prevs_is u h.0 h.1.0 in
      elim (put_prev here J u lawful next) [
        | inl none ↦ absurd (p.1 none)
        | inr t ↦ record { prev = t.prev; is = sym h.1.1 ∙ named_some [] (accepted J) h.0 t.prev causal t.known (t.id ∙ p.0); on = t.known; writer = t.writer; earlier = t.earlier }
      ]

  sees_entry : (e : Dep × Option Update) → IsIn e backs → SeesEntry (accepted J) e
  unfolding backs
  sees_entry e on =
      let d = from_map pair e u.deps on in
      let t = from_map entry_of d.0 (next_entries here.me (accepted J) (last_own J)) (subst (λ (ds : List Dep). IsIn d.0 ds) deps_are d.1.0) in
      let t_on = leaf_is_on (accepted J) t.0 (entry_is_leaf here.me (accepted J) (last_own J) t.0 t.1.0) in
      let found : named (accepted J) d.0.id ≡ Some t.0 = named_some [] (accepted J) d.0.id t.0 causal t_on (ap (λ (x : Dep). x.id) t.1.1) in
      record { update = t.0; is = sym d.1.1 ∙ both_are d.0 (entry_of t.0) (named (accepted J) d.0.id) (Some t.0) (sym t.1.1) found; on = t_on } where
        both_are : (a b : Dep) (o p : Option Update) → a ≡ b → o ≡ p → ◌≡◌ {A = Dep × Option Update} (a, o) (b, p)
        both_are a b o p one two = cc

  -- ---- its checks

  none_missing : AllNone (map (lost u.prev) fronts ++ map (λ (e : Dep × Option Update). lost e.0.id e.1) backs)
  none_missing = all_both (λ (o : Option Check). o ≡ None) (map (lost u.prev) fronts) (map (λ (e : Dep × Option Update). lost e.0.id e.1) backs)
      (each_none (lost u.prev) fronts (λ o on. ap (lost u.prev) (sees_prev o on).is))
      (each_none (λ (e : Dep × Option Update). lost e.0.id e.1) backs (λ e on. ap (λ (x : Dep × Option Update). lost x.0.id x.1) (sees_entry e on).is))

  entries_right : (place : ℕ) (es : List (Dep × Option Update)) → ((e : Dep × Option Update) → IsIn e es → SeesEntry (accepted J) e) → AllNone (wrong_entries place es)
  entries_right place [] each = tt
  entries_right place (e ∷ es) each =
      let t = each e (inl refl) in
      let right = when-false _ (check.WrongDep place) (ap not (and_from _ _ (eq-eqb t.update.writer t.update.writer refl) (eq-eqb t.update.clock t.update.clock refl))) in
      (ap (λ (x : Dep × Option Update). wrong_entry place x.0 x.1) t.is ∙ right, entries_right (suc place) es (λ x on. each x (inr on)))

  none_wrong : AllNone (map (wrong_prev u) fronts ++ wrong_entries 1 backs)
  none_wrong = all_both (λ (o : Option Check). o ≡ None) (map (wrong_prev u) fronts) (wrong_entries 1 backs)
      (each_none (wrong_prev u) fronts (λ o on. let t = sees_prev o on in ap (wrong_prev u) t.is ∙ when-false _ _ (ap not (eq-eqb t.prev.writer u.writer t.writer))))
      (entries_right 1 backs sees_entry)

  none_backward : AllNone (map (behind u) fronts)
  none_backward = each_none (behind u) fronts (λ o on. let t = sees_prev o on in ap (behind u) t.is ∙ when-false _ _ (or_from _ _ (lt-leb u.seq t.prev.seq t.earlier.seq) (lt-leb u.clock t.prev.clock t.earlier.clock)))

  none_low : AllNone (map (not_above u u.prev) fronts ++ map (λ (e : Dep × Option Update). not_above u e.0.id e.1) backs)
  none_low = all_both (λ (o : Option Check). o ≡ None) (map (not_above u u.prev) fronts) (map (λ (e : Dep × Option Update). not_above u e.0.id e.1) backs)
      (each_none (not_above u u.prev) fronts (λ o on. let t = sees_prev o on in ap (not_above u u.prev) t.is ∙ when-false _ _ (lt-leb u.clock t.prev.clock (above t.prev t.on))))
      (each_none (λ (e : Dep × Option Update). not_above u e.0.id e.1) backs (λ e on. let t = sees_entry e on in ap (λ (x : Dep × Option Update). not_above u x.0.id x.1) t.is ∙ when-false _ _ (lt-leb u.clock t.update.clock (above t.update t.on))))

  -- ---- its clock isn't far above

  abbrev parents_seen : List (Option Update)
  parents_seen = fronts ++ map (λ (e : Dep × Option Update). e.1) backs

  -- a parent is seen
  parent_within : (t : Update) → IsIn t (accepted J) → IsIn (id_of_update t) (parents u) → t.clock ≤ greatest_of parents_seen
  unfolding fronts backs
  parent_within t on parent =
      let found = named_some [] (accepted J) (id_of_update t) t causal on refl in
      elim (in_parts (id_of_update t) (prevs u) (map (λ (d : Dep). d.id) u.deps) parent) [
        | inl prev ↦ greatest_above parents_seen (Some t) (in_left (Some t) fronts (map (λ (e : Dep × Option Update). e.1) backs) (subst (λ (o : Option Update). IsIn o fronts) found (in_map (named (accepted J)) (id_of_update t) (prevs u) prev)))
        | inr entry ↦
            let d = from_map (λ (d : Dep). d.id) (id_of_update t) u.deps entry in
            let is : named (accepted J) d.0.id ≡ Some t = named_some [] (accepted J) d.0.id t causal on (sym d.1.1) in
            greatest_above parents_seen (Some t) (in_right (Some t) fronts (map (λ (e : Dep × Option Update). e.1) backs) (subst (λ (o : Option Update). IsIn o (map (λ (e : Dep × Option Update). e.1) backs)) is (in_map (λ (e : Dep × Option Update). e.1) (pair d.0) backs (in_map pair d.0 u.deps d.1.0))))
      ]

  whole_causal : IsCausal [] (accepted J ++ u ∷ [])
  whole_causal = put_is_causal here J u lawful next fresh

  -- what is above it in a path is no higher than its greatest parent
  step_within : (t w : Update) → IsParent (accepted J ++ u ∷ []) t w → ((u ≡ w → ⊥) → w.clock ≤ greatest_of parents_seen) → t.clock ≤ greatest_of parents_seen
  step_within t w s within = elim (in_pushed t (accepted J) u s.above) [
    | inr itself ↦ absurd (not_parent itself)
    | inl t_on ↦ elim (in_pushed w (accepted J) u s.below) [
      | inr last ↦ parent_within t t_on (subst (λ (x : Update). IsIn (id_of_update t) (parents x)) (sym last) s.named)
      | inl w_on ↦
          let low = parent_is_lower here J w (id_of_update t) lawful w_on s.named in
          let same : low.lower ≡ t = one_of_id [] (accepted J) low.lower t causal low.on t_on low.id in
          let e : low.lower.clock ≡ t.clock = ap (λ (x : Update). x.clock) same in
          omega (arith, low.clock, e, within (λ last. not_among w w_on last))
    ]
  ] where
    not_among : (x : Update) → IsIn x (accepted J) → u ≡ x → ⊥
    not_among x on same = both_ways _ fresh.new (has_id_from (accepted J) (id_of_update u) x on (sym (ap id_of_update same)))

    not_parent : u ≡ t → ⊥
    not_parent itself = elim (in_pushed w (accepted J) u s.below) [
      | inr last ↦ precedes_irreflexive [] (accepted J ++ u ∷ []) t whole_causal (leads_one (IsParent (accepted J ++ u ∷ [])) t t (subst (λ (x : Update). IsParent (accepted J ++ u ∷ []) t x) (sym last ∙ itself) s))
      | inl w_on ↦
          let low = parent_is_lower here J w (id_of_update t) lawful w_on s.named in
          both_ways _ fresh.new (has_id_from (accepted J) (id_of_update u) low.lower low.on (low.id ∙ sym (ap id_of_update itself)))
    ]

  within : (t : Update) → IsIn t (accepted J) → t.clock ≤ greatest_of parents_seen
  within t on = back_along (IsParent (accepted J ++ u ∷ [])) (λ (x : Update). x.clock ≤ greatest_of parents_seen) u
      (λ x s. step_within x u s (λ differs. absurd (differs refl))) (λ x y s le. step_within x y s (λ differs. le)) t (next_follows here J u t lawful next on)

  none_far : clock_far u (sight (accepted J) u) ≡ None
  unfolding sight fronts backs
  none_far = when-false _ _ (le-ltb _ _ (omega (arith, clock_is, greatest_within (accepted J) (greatest_of parents_seen) within)))

  -- ---- all of them

  none_history : bad_history u (sight (accepted J) u) ≡ None
  unfolding sight
  none_history = when-false _ _ (ap not ((bytes_eq-Decides u.history (history_hash (past u (accepted J)))).1 (history_is ∙ ap history_hash (sym (past_of_own here J u lawful next)))))

  -- the checks of its content pass
  pub own_passes : first (content_checks u (sight (accepted J) u)) ≡ None
  unfolding content_checks sight fronts backs
  own_passes = first-none (content_checks u (sight (accepted J) u))
      (first-none _ none_missing, (first-none _ none_wrong, (first-none _ none_backward, (first-none _ none_low, (none_far, (none_history, tt))))))
