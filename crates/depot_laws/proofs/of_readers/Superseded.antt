-- What is below a checkpoint is closed under precedence, and a trimmed update is a latest write of none of its keys
-- there.
use Rattle.std.proofs.Common.{◌≡◌, ℕ, ◌&&◌, ◌||◌, Bool, true, false, not, cond, List, [], ◌∷◌, ◌++◌, map, refl, sym, ap, subst, ◌∙◌, inl, inr}
use Rattle.std.specs.List.{filter, list_any}
use Rattle.std.specs.Str.{bytes_eq}
use Rattle.std.proofs.lemmas.Bool.{and_parts, and_from, or_cases, or_right, both_ways, false_from_ne_true}
use Rattle.std.proofs.lemmas.List.{append-nil}
use Rattle.std.proofs.lemmas.Slice.Eq.{bytes_eq-Decides}
use Rattle.depot_base.specs.declared.update.Update.{Update}
use Rattle.depot_base.specs.declared.record.Record.{Record}
use Rattle.depot_model.specs.lists.Lists.{IsIn, is_among}
use Rattle.depot_model.specs.texts.Texts.{id_of_update}
use Rattle.depot_model.specs.updates.Order.{IsParent, Precedes, IsCausal, parents, past, IsLatest}
use Rattle.depot_model.specs.texts.Contents.{writes}
use Rattle.depot_model.specs.journals.Journal.{accepted, has_id}
use Rattle.depot_model.specs.checks.Checks.{Setting}
use Rattle.depot_model.specs.exchange.Bundle.{is_covered}
use Rattle.depot_model.specs.journals.Lawful.{IsLawful}
use Rattle.depot_model.proofs.lists.Members.{in_left, in_last, from_map, in_map, from_filter, in_filter, any_from, any_to}
use Rattle.depot_model.proofs.of_updates.Orders.{leads_one, leads_trans, precedes_from, parent_precedes, fresh, one_of_id, causal_behind, causal_front, causal_push, parents_of_last}
use Rattle.depot_model.proofs.of_updates.Pasts.{past_in, past_of_listed}
use Rattle.depot_model.proofs.of_updates.NamedIds.{has_id_from, has_id_to}
use Rattle.depot_laws.proofs.lists.Splits.{from_end}
use Rattle.depot_laws.proofs.lists.Tests.{fails_from_not}
use Rattle.depot_laws.proofs.records.Causes.{lawful_is_causal}
use Rattle.depot_laws.proofs.orders.Paths.{back_along}
use Rattle.depot_model.specs.texts.Contents.{keys_written}
use Rattle.depot_model.specs.lists.Insertion.{order_by}
use Rattle.depot_model.specs.updates.LatestList.{is_listed_before, is_last, latest_in}
use Rattle.depot_model.specs.readers.Trimming.{below, is_latest_below, is_trimmed, trimmed}
use Rattle.depot_laws.proofs.of_readers.NeverLatest.{still_last}
use Rattle.depot_model.proofs.lists.InsertionLaws.{in_order, from_order}
use Rattle.depot_model.proofs.of_texts.ContentLaws.{writes-Decides}
use Rattle.depot_laws.proofs.of_readers.PrunedReadings.{filter_both}

-- ---- lists that are left where a test is closed

-- the last has an id of its own
last_apart : (ids : List (List ℕ)) (us : List Update) (u : Update) → IsCausal ids (us ++ u ∷ []) → (t : Update) → IsIn t us → id_of_update t ≡ id_of_update u → ⊥
last_apart ids [] u c t never e = never
last_apart ids (x ∷ us) u c t (inl here) e = fresh (id_of_update x ∷ ids) (us ++ u ∷ []) u (causal_behind ids x (us ++ u ∷ []) c) (in_last us u) (inl (ap id_of_update here ∙ e))
last_apart ids (x ∷ us) u c t (inr there) e = last_apart (id_of_update x ∷ ids) us u (causal_behind ids x (us ++ u ∷ []) c) t there e

last_is_new : (us : List Update) (u : Update) → IsCausal [] (us ++ u ∷ []) → (t : Update) → IsIn t us → id_of_update t ≡ id_of_update u → ⊥
last_is_new us u c t on e = last_apart [] us u c t on e

-- what names a parent passes only where the parent does
abbrev IsClosedTest : (Update → Bool) → List Update → Type 0
IsClosedTest test us = (t u : Update) → IsIn t us → IsIn u us → IsIn (id_of_update t) (parents u) → test u ≡ true → test t ≡ true

causal_left : (test : Update → Bool) (us : List Update) → IsCausal [] us → IsClosedTest test us → IsCausal [] (filter test us)
causal_left test = from_end (λ (us : List Update). IsCausal [] us → IsClosedTest test us → IsCausal [] (filter test us)) (λ c closed. c) (λ us u before c closed.
    let front = causal_front [] us (u ∷ []) c in
    let rest = before front (λ t w t_on w_on named e. closed t w (in_left t us (u ∷ []) t_on) (in_left w us (u ∷ []) w_on) named e) in
    subst (λ (xs : List Update). IsCausal [] xs) (sym (filter_both test us (u ∷ []))) (by_test us u c closed rest (test u) refl))
  where
    by_test : (us : List Update) (u : Update) → IsCausal [] (us ++ u ∷ []) → IsClosedTest test (us ++ u ∷ []) → IsCausal [] (filter test us) → (b : Bool) → test u ≡ b → IsCausal [] (filter test us ++ cond b (u ∷ []) [])
    by_test us u c closed rest false is = subst (λ (xs : List Update). IsCausal [] xs) (sym (append-nil (filter test us))) rest
    by_test us u c closed rest true is = causal_push [] (filter test us) u rest
        (λ h on. elim (parents_of_last [] us u h c on) [
          | inl never ↦ absurd never
          | inr named ↦
              let t = from_map id_of_update h us named in
              let passes = closed t.0 u (in_left t.0 us (u ∷ []) t.1.0) (in_last us u) (subst (λ (k : List ℕ). IsIn k (parents u)) (sym t.1.1) on) is in
              inr (subst (λ (k : List ℕ). IsIn k (map id_of_update (filter test us))) t.1.1 (in_map id_of_update t.0 (filter test us) (in_filter test t.0 us t.1.0 passes)))
        ])
        (λ never. never)
        (λ on. let t = from_map id_of_update (id_of_update u) (filter test us) on in last_is_new us u c t.0 (from_filter test t.0 us t.1.0).0 t.1.1)

-- ---- what is below

module _ (here : Setting) (J : List Record) (lawful : IsLawful here J) (ids : List (List ℕ)) where
  one : (x y : Update) → IsIn x (accepted J) → IsIn y (accepted J) → id_of_update x ≡ id_of_update y → x ≡ y
  one x y x_on y_on e = one_of_id [] (accepted J) x y (lawful_is_causal here J lawful) x_on y_on e

  -- what precedes a listed one, or one that precedes it
  covered : (t u : Update) → IsIn t (accepted J) → IsIn u (accepted J) → Precedes (accepted J) t u → is_covered (accepted J) ids u ≡ true → is_covered (accepted J) ids t ≡ true
  unfolding is_covered
  covered t u t_on u_on before e =
      let us = accepted J in
      let c = lawful_is_causal here J lawful in
      let l = any_to (λ (l : Update). is_among (id_of_update l) ids && (bytes_eq (id_of_update u) (id_of_update l) || has_id (past l us) (id_of_update u))) us e in
      let p = and_parts _ _ l.1.1 in
      let up : Precedes us t l.0 = elim (or_cases (bytes_eq (id_of_update u) (id_of_update l.0)) (has_id (past l.0 us) (id_of_update u)) p.1) [
        | inl same ↦ subst (λ (x : Update). Precedes us t x) (one u l.0 u_on l.1.0 ((bytes_eq-Decides (id_of_update u) (id_of_update l.0)).0 same)) before
        | inr later ↦
            let x = has_id_to (past l.0 us) (id_of_update u) later in
            let same = one x.0 u (past_in l.0 us x.0 x.1.0) u_on x.1.1 in
            leads_trans (IsParent us) t u l.0 before ((past_of_listed us l.0 u c l.1.0).0 (subst (λ (y : Update). IsIn y (past l.0 us)) same x.1.0))
      ] in
      any_from (λ (l : Update). is_among (id_of_update l) ids && (bytes_eq (id_of_update t) (id_of_update l) || has_id (past l us) (id_of_update t))) l.0 us l.1.0
      (and_from _ _ p.0 (or_right (bytes_eq (id_of_update t) (id_of_update l.0)) _ (has_id_from (past l.0 us) (id_of_update t) t ((past_of_listed us l.0 t c l.1.0).1 up) refl)))

  -- is below too
  pub below_closed : (t u : Update) → Precedes (accepted J) t u → IsIn u (below J ids) → IsIn t (below J ids)
  below_closed t u before on =
      let f = from_filter (is_covered (accepted J) ids) u (accepted J) on in
      let t_on = precedes_from (accepted J) t u before in
      in_filter (is_covered (accepted J) ids) t (accepted J) t_on (covered t u t_on f.0 before f.1)

  below_causal : IsCausal [] (below J ids)
  below_causal = causal_left (is_covered (accepted J) ids) (accepted J) (lawful_is_causal here J lawful) (λ t u t_on u_on named e. covered t u t_on u_on (parent_precedes (accepted J) t u t_on u_on named) e)

  -- and precedes it there
  pub precedes_below : (t u : Update) → Precedes (accepted J) t u → IsIn u (below J ids) → Precedes (below J ids) t u
  precedes_below t u before on = (back_along (IsParent (accepted J)) (λ (x : Update). IsIn x (below J ids) × Precedes (below J ids) x u) u
      (λ x s. let x_on = below_closed x u (leads_one (IsParent (accepted J)) x u s) on in (x_on, parent_precedes (below J ids) x u x_on on s.named))
      (λ x y s far.
      let x_on = below_closed x y (leads_one (IsParent (accepted J)) x y s) far.0 in
      (x_on, leads_trans (IsParent (below J ids)) x y u (parent_precedes (below J ids) x y x_on far.0 s.named) far.1)) t before).1

  -- ---- what is trimmed

  last_to : (key : List ℕ) (u : Update) → IsIn u (below J ids) → is_last key (below J ids) u ≡ true → IsLatest key (λ t. IsIn t (below J ids)) (Precedes (accepted J)) u
  last_to key u on e =
      let us = below J ids in
      let p = and_parts (writes key u) (not (list_any (λ (v : Update). writes key v && has_id (past v us) (id_of_update u)) us)) e in
      record {
        known = on;
        writes = (writes-Decides key u).0 p.0;
        last = λ v v_on v_key before. both_ways _ (fails_from_not _ p.1) (any_from (λ (x : Update). writes key x && has_id (past x us) (id_of_update u)) v us v_on
            (and_from _ _ ((writes-Decides key v).1 v_key) (has_id_from (past v us) (id_of_update u) u ((past_of_listed us v u below_causal v_on).1 (precedes_below u v before v_on)) refl)));
      }

  each : (x : Update) → IsIn x (below J ids) → IsIn x (accepted J)
  each x on = (from_filter (is_covered (accepted J) ids) x (accepted J) on).0

  latest_to : (key : List ℕ) (u : Update) → IsIn u (below J ids) → has_id (latest_in key (below J ids)) (id_of_update u) ≡ true → IsLatest key (λ t. IsIn t (below J ids)) (Precedes (accepted J)) u
  unfolding latest_in
  latest_to key u on e =
      let us = below J ids in
      let x = has_id_to (order_by is_listed_before (filter (is_last key us) us)) (id_of_update u) e in
      let f = from_filter (is_last key us) x.0 us (from_order is_listed_before x.0 (filter (is_last key us) us) x.1.0) in
      let same = one x.0 u (each x.0 f.0) (each u on) x.1.1 in
      last_to key u on (subst (λ (y : Update). is_last key us y ≡ true) same f.1)

  latest_from : (key : List ℕ) (u : Update) → IsLatest key (λ t. IsIn t (below J ids)) (Precedes (accepted J)) u → has_id (latest_in key (below J ids)) (id_of_update u) ≡ true
  unfolding latest_in
  latest_from key u l =
      let us = below J ids in
      let last = still_last (accepted J) us key u one each l in
      has_id_from (order_by is_listed_before (filter (is_last key us) us)) (id_of_update u) u (in_order is_listed_before u (filter (is_last key us) us) (in_filter (is_last key us) u us l.known last)) refl

  -- a trimmed update is below, and a latest write of none of its keys there
  pub trimmed_to : (u : Update) → IsIn u (trimmed J ids) → IsIn u (below J ids) × ((key : List ℕ) → IsIn key (keys_written u) → IsLatest key (λ t. IsIn t (below J ids)) (Precedes (accepted J)) u → ⊥)
  unfolding is_trimmed
  trimmed_to u on =
      let f = from_filter (is_trimmed J ids) u (accepted J) on in
      let p = and_parts (is_covered (accepted J) ids u) (not (is_latest_below (below J ids) u)) f.1 in
      (in_filter (is_covered (accepted J) ids) u (accepted J) f.0 p.0, λ key key_on l. both_ways (is_latest_below (below J ids) u) (fails_from_not _ p.1) (any_from (λ k. has_id (latest_in k (below J ids)) (id_of_update u)) key (keys_written u) key_on (latest_from key u l)))

  -- and each such update is trimmed
  pub trimmed_from : (u : Update) → IsIn u (below J ids) → ((key : List ℕ) → IsIn key (keys_written u) → IsLatest key (λ t. IsIn t (below J ids)) (Precedes (accepted J)) u → ⊥) → IsIn u (trimmed J ids)
  unfolding is_trimmed
  trimmed_from u on never =
      let f = from_filter (is_covered (accepted J) ids) u (accepted J) on in
      in_filter (is_trimmed J ids) u (accepted J) f.0 (and_from _ _ f.1 (ap not (false_from_ne_true (is_latest_below (below J ids) u) (λ e.
      let key = any_to (λ k. has_id (latest_in k (below J ids)) (id_of_update u)) (keys_written u) e in
      never key.0 key.1.0 (latest_to key.0 u on key.1.1)))))
