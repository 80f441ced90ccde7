-- The latest writes as a list are the latest writes.
use Rattle.std.proofs.Common.{◌≡◌, ℕ, Bool, true, false, not, ◌&&◌, List, [], refl, sym, ap, subst, ◌∙◌}
use Rattle.std.specs.List.{list_any, filter}
use Rattle.std.proofs.lemmas.Bool.{and_parts, and_from, false_from_ne_true, not-true}
use Rattle.depot_base.specs.declared.update.Update.{Update}
use Rattle.depot_model.specs.texts.Contents.{writes}
use Rattle.depot_model.specs.journals.Journal.{has_id}
use Rattle.depot_model.specs.lists.Lists.{IsIn}
use Rattle.depot_model.specs.updates.Order.{Precedes, past, IsCausal, IsLatest, AreLatestIn}
use Rattle.depot_model.specs.texts.Texts.{id_of_update}
use Rattle.depot_model.proofs.of_updates.LatestLaws.{listed_trans, listed_back}
use Rattle.depot_model.proofs.lists.Members.{any_from, any_to, from_filter, in_filter}
use Rattle.depot_model.proofs.of_updates.Orders.{one_of_id}
use Rattle.depot_model.proofs.of_updates.Pasts.{past_in, past_of_listed}
use Rattle.depot_model.proofs.lists.RisingUpdates.{own_ids_from_causal, own_ids_filter}
use Rattle.depot_model.proofs.of_updates.NamedIds.{has_id_from, has_id_to}
use Rattle.depot_model.proofs.of_texts.ContentLaws.{writes-Decides}
use Rattle.depot_model.specs.updates.LatestList.{is_listed_before, is_last, latest_in}
use Rattle.depot_model.proofs.lists.InsertionLaws.{IsOrderOf, from_order, in_order, order_rises}

-- ---- the listed order

-- two updates have two ids
abbrev HasOtherId : Update → Update → Type 0
HasOtherId t u = id_of_update t ≡ id_of_update u → ⊥

listed_is_order : IsOrderOf is_listed_before HasOtherId
listed_is_order = record {
  trans = listed_trans;
  other = listed_back;
}

-- ---- which writes are last

-- a write of the key that has the update in its past
abbrev follows : List ℕ → List Update → Update → Update → Bool
follows key us u v = writes key v && has_id (past v us) (id_of_update u)

-- an id in the past of one of the list is that of an update which precedes it
precedes_by_id : (us : List Update) (u v : Update) → IsCausal [] us → IsIn u us → IsIn v us → has_id (past v us) (id_of_update u) ≡ true → Precedes us u v
precedes_by_id us u v causal u_in v_in has =
    let t = has_id_to (past v us) (id_of_update u) has in
    let same : t.0 ≡ u = one_of_id [] us t.0 u causal (past_in v us t.0 t.1.0) u_in t.1.1 in
    (past_of_listed us v u causal v_in).0 (subst (λ (x : Update). IsIn x (past v us)) same t.1.0)

is_last_from : (key : List ℕ) (us : List Update) (u : Update) → IsCausal [] us → IsLatest key (λ u. IsIn u us) (Precedes us) u → is_last key us u ≡ true
is_last_from key us u causal latest =
    let none : list_any (follows key us u) us ≡ false = false_from_ne_true _ (λ e.
    let v = any_to (follows key us u) us e in
    let p = and_parts (writes key v.0) _ v.1.1 in
    latest.last v.0 v.1.0 ((writes-Decides key v.0).0 p.0) (precedes_by_id us u v.0 causal latest.known v.1.0 p.1)) in
    and_from (writes key u) (not (list_any (follows key us u) us)) ((writes-Decides key u).1 latest.writes) (ap not none)

is_latest_from : (key : List ℕ) (us : List Update) (u : Update) → IsCausal [] us → IsIn u us → is_last key us u ≡ true → IsLatest key (λ u. IsIn u us) (Precedes us) u
is_latest_from key us u causal u_in last =
    let p = and_parts (writes key u) _ last in
    record {
      known = u_in;
      writes = (writes-Decides key u).0 p.0;
      last = λ v v_in v_writes before.
          let has = has_id_from (past v us) (id_of_update u) u ((past_of_listed us v u causal v_in).1 before) refl in
          let found : list_any (follows key us u) us ≡ true = any_from (follows key us u) v us v_in (and_from (writes key v) _ ((writes-Decides key v).1 v_writes) has) in
          absurd (let no : list_any (follows key us u) us ≡ false = not-true _ p.1 in let yes_no : true ≡ false = sym found ∙ no in cc);
    }

-- in a list in which each parent comes before its children
pub latest_are_listed : (key : List ℕ) (us : List Update) → IsCausal [] us → AreLatestIn key us (latest_in key us)
unfolding latest_in
latest_are_listed key us causal =
    let last = filter (is_last key us) us in
    record {
      all = λ u latest. in_order is_listed_before u last (in_filter (is_last key us) u us latest.known (is_last_from key us u causal latest));
      only = λ u on. let f = from_filter (is_last key us) u us (from_order is_listed_before u last on) in is_latest_from key us u causal f.0 f.1;
      rising = order_rises is_listed_before HasOtherId listed_is_order last (own_ids_filter (is_last key us) us (own_ids_from_causal [] us causal));
    }
