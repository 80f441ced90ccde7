-- Whether an id is that of an update of another writer, by the update that has it.
use Rattle.std.proofs.Common.{◌≡◌, ℕ, true, false, not, ◌&&◌, eqb, List, [], Some, None, sym, subst, ◌∙◌}
use Rattle.std.specs.Prelude.{slice_get}
use Rattle.std.specs.Str.{bytes_eq}
use Rattle.std.proofs.lemmas.Bool.{and_from, and_parts, false_from_ne_true}
use Rattle.std.proofs.lemmas.Slice.Eq.{bytes_eq-Decides}
use Rattle.depot_base.specs.declared.update.Update.{Update}
use Rattle.depot_model.specs.texts.Texts.{id_of_update}
use Rattle.depot_model.specs.updates.Order.{IsCausal}
use Rattle.depot_model.specs.lists.Items.{place_of_id}
use Rattle.depot_model.specs.journals.Journal.{is_foreign}
use Rattle.depot_model.proofs.lists.Elements.{in_at}
use Rattle.depot_model.proofs.lists.Members.{any_from, any_to}
use Rattle.depot_model.proofs.of_updates.Orders.{one_of_id}
use Rattle.depot_graph.proofs.ItemPlaces.{has_place, has_no_place}
use Rattle.depot_base.proofs.GeneralLaws.{same_test}

-- the update that has the id decides
pub foreign_by_place : (me : ℕ) (us : List Update) (h : List ℕ) (n : ℕ) (t : Update) → IsCausal [] us → place_of_id h us ≡ Some n → slice_get us n ≡ Some t → is_foreign me us h ≡ not (eqb t.writer me)
foreign_by_place me us h n t c place at =
    let p = has_place h us n place in
    let here : slice_get us n ≡ Some p.0 = p.1.0 in
    let same : p.0 ≡ t = cc in
    let id : id_of_update t ≡ h = subst (λ (u : Update). id_of_update u ≡ h) same p.1.1 in
    same_test (is_foreign me us h) (not (eqb t.writer me))
    (λ yes.
    let w = any_to (λ (u : Update). bytes_eq (id_of_update u) h && not (eqb u.writer me)) us yes in
    let parts = and_parts (bytes_eq (id_of_update w.0) h) (not (eqb w.0.writer me)) w.1.1 in
    let one = one_of_id [] us w.0 t c w.1.0 (in_at us n t at) ((bytes_eq-Decides (id_of_update w.0) h).0 parts.0 ∙ sym id) in
    subst (λ (u : Update). not (eqb u.writer me) ≡ true) one parts.1)
    (λ other. any_from (λ (u : Update). bytes_eq (id_of_update u) h && not (eqb u.writer me)) t us (in_at us n t at) (and_from (bytes_eq (id_of_update t) h) (not (eqb t.writer me)) ((bytes_eq-Decides (id_of_update t) h).1 id) other))

-- where none has it, it is none
pub not_foreign : (me : ℕ) (us : List Update) (h : List ℕ) → place_of_id h us ≡ None → is_foreign me us h ≡ false
not_foreign me us h none = false_from_ne_true (is_foreign me us h) (λ yes.
    let w = any_to (λ (u : Update). bytes_eq (id_of_update u) h && not (eqb u.writer me)) us yes in
    let parts = and_parts (bytes_eq (id_of_update w.0) h) (not (eqb w.0.writer me)) w.1.1 in
    has_no_place h us w.0 none w.1.0 ((bytes_eq-Decides (id_of_update w.0) h).0 parts.0))
