-- A trimmed update is never a latest write again, so each read lists the writes as before.
use Rattle.std.proofs.Common.{◌≡◌, ℕ, ◌&&◌, true, not, List, [], ◌++◌, refl, ap, subst}
use Rattle.std.specs.List.{filter, list_any}
use Rattle.std.proofs.lemmas.Bool.{and_parts, and_from, both_ways, false_from_ne_true}
use Rattle.depot_model.proofs.of_texts.ContentLaws.{writes-Decides}
use Rattle.depot_base.specs.declared.update.Update.{Update}
use Rattle.depot_base.specs.declared.record.Record.{Record}
use Rattle.depot_model.specs.lists.Lists.{IsIn}
use Rattle.depot_model.specs.texts.Texts.{id_of_update}
use Rattle.depot_model.specs.updates.Order.{Precedes, past, IsLatest}
use Rattle.depot_model.specs.texts.Contents.{writes}
use Rattle.depot_model.specs.journals.Journal.{accepted, accepted_by, has_id}
use Rattle.depot_model.specs.checks.Checks.{Setting}
use Rattle.depot_model.specs.exchange.Bundle.{is_covered}
use Rattle.depot_model.specs.journals.Lawful.{IsLawful}
use Rattle.depot_model.proofs.lists.Members.{from_filter, in_filter, any_from, any_to}
use Rattle.depot_model.proofs.of_updates.Orders.{one_of_id}
use Rattle.depot_model.proofs.of_updates.Pasts.{past_in, past_precedes}
use Rattle.depot_model.proofs.of_updates.NamedIds.{has_id_from, has_id_to}
use Rattle.depot_laws.proofs.lists.Splits.{flat_left}
use Rattle.depot_laws.proofs.lists.Tests.{fails_from_not}
use Rattle.depot_laws.proofs.records.Causes.{lawful_is_causal}
use Rattle.depot_model.specs.texts.Contents.{keys_written}
use Rattle.depot_model.specs.lists.Insertion.{order_by}
use Rattle.depot_model.specs.updates.LatestList.{is_listed_before, is_last, latest_in}
use Rattle.depot_model.proofs.lists.InsertionLaws.{in_order}
use Rattle.depot_model.specs.readers.Trimming.{below, is_latest_below, is_trimmed, trimmed}

-- the test of an update that is latest among these, by the precedence of more
pub still_last : (among us : List Update) (key : List ℕ) (u : Update) → ((x y : Update) → IsIn x among → IsIn y among → id_of_update x ≡ id_of_update y → x ≡ y) → ((x : Update) → IsIn x us → IsIn x among)
    → IsLatest key (λ t. IsIn t us) (Precedes among) u → is_last key us u ≡ true
still_last among us key u one each l = and_from (writes key u) _ ((writes-Decides key u).1 l.writes) (ap not (false_from_ne_true (list_any (λ (v : Update). writes key v && has_id (past v us) (id_of_update u)) us) (λ e.
    let v = any_to (λ (v : Update). writes key v && has_id (past v us) (id_of_update u)) us e in
    let p = and_parts (writes key v.0) (has_id (past v.0 us) (id_of_update u)) v.1.1 in
    let x = has_id_to (past v.0 us) (id_of_update u) p.1 in
    let v_on = each v.0 v.1.0 in
    let same = one x.0 u (each x.0 (past_in v.0 us x.0 x.1.0)) (each u l.known) x.1.1 in
    l.last v.0 v.1.0 ((writes-Decides key v.0).0 p.0) (subst (λ (y : Update). Precedes among y v.0) same (past_precedes among v.0 v_on us each x.0 x.1.0)))))

-- so a trimmed update is latest in no later journal
pub never_latest : (here : Setting) (J more : List Record) (ids : List (List ℕ)) (u : Update) (key : List ℕ) → IsLawful here (J ++ more) → IsIn u (trimmed J ids) → IsLatest key (λ t. IsIn t (accepted (J ++ more))) (Precedes (accepted (J ++ more))) u → ⊥
unfolding is_trimmed latest_in
never_latest here J more ids u key l on latest =
    let f = from_filter (is_trimmed J ids) u (accepted J) on in
    let p = and_parts (is_covered (accepted J) ids u) (not (is_latest_below (below J ids) u)) f.1 in
    let us = below J ids in
    let c = lawful_is_causal here (J ++ more) l in
    let each : (x : Update) → IsIn x us → IsIn x (accepted (J ++ more)) = λ x x_on. flat_left accepted_by x J more (from_filter (is_covered (accepted J) ids) x (accepted J) x_on).0 in
    let u_in : IsIn u us = in_filter (is_covered (accepted J) ids) u (accepted J) f.0 p.0 in
    let last = still_last (accepted (J ++ more)) us key u (λ x y x_on y_on e. one_of_id [] (accepted (J ++ more)) x y c x_on y_on e) each (record { known = u_in; writes = latest.writes; last = λ v v_on v_key before. latest.last v (each v v_on) v_key before }) in
    let listed_in : IsIn u (order_by is_listed_before (filter (is_last key us) us)) = in_order is_listed_before u (filter (is_last key us) us) (in_filter (is_last key us) u us u_in last) in
    both_ways (is_latest_below us u) (fails_from_not _ p.1) (any_from (λ (k : List ℕ). has_id (order_by is_listed_before (filter (is_last k us) us)) (id_of_update u)) key (keys_written u) latest.writes (has_id_from (order_by is_listed_before (filter (is_last key us) us)) (id_of_update u) u listed_in refl))
