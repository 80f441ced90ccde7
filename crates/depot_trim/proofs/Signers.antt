-- Whether an update follows what a checkpoint lists, and signs it.
use Rattle.std.proofs.Common.{◌≡◌, ◌∙◌, ◌&&◌, ℕ, Bool, true, false, eqb, List, [], Some, None, IsTrue, refl, sym, ap, subst}
use Rattle.std.specs.Prelude.{slice_get}
use Rattle.std.proofs.lemmas.Bool.{false_from_ne_true}
use Rattle.depot_base.specs.declared.update.Update.{Update}
use Rattle.depot_model.specs.readers.Checkpoints.{checkpoint_key}
use Rattle.depot_model.specs.lists.Items.{place_of_id, PrecedesAt}
use Rattle.depot_model.specs.journals.Journal.{has_id}
use Rattle.depot_model.specs.lists.Lists.{IsIn}
use Rattle.depot_model.specs.updates.Order.{IsCausal, Precedes, past}
use Rattle.depot_model.specs.worlds.ReadTests.{is_value_of}
use Rattle.depot_model.specs.texts.Texts.{id_of_update}
use Rattle.depot_model.proofs.lists.Elements.{in_at}
use Rattle.depot_model.proofs.of_updates.NamedIds.{has_id_from, has_id_to}
use Rattle.depot_model.proofs.of_updates.Orders.{one_of_id}
use Rattle.depot_model.proofs.of_updates.Pasts.{past_in, past_of_listed}
use Rattle.depot_graph.proofs.ItemPlaces.{has_place, has_no_place}
use Rattle.depot_trim.specs.Trimmings.{has_all_in_past, signs_as}

-- an update of the node that puts the text signs it where it follows all that is listed
pub signs_where : (us : List Update) (text : List ℕ) (ids : List (List ℕ)) (n : ℕ) (u : Update) (told : Bool) → eqb u.writer n ≡ true → is_value_of (checkpoint_key text) u text ≡ true → told ≡ has_all_in_past us ids u → told ≡ signs_as us text ids n u
signs_where us text ids n u told wrote put follows =
    follows ∙ sym (ap (λ (b : Bool). b && (is_value_of (checkpoint_key text) u text && has_all_in_past us ids u)) wrote ∙ ap (λ (b : Bool). b && has_all_in_past us ids u) put)

-- an id that no update has is in no past
pub not_in_past : (us : List Update) (u : Update) (h : List ℕ) → None ≡ place_of_id h us → false ≡ has_id (past u us) h
not_in_past us u h none = sym (false_from_ne_true (has_id (past u us) h) (λ e. let t = has_id_to (past u us) h e in has_no_place h us t.0 (sym none) (past_in u us t.0 t.1.0) t.1.1))

-- an item is in the past of another where it precedes it
pub in_past : (us : List Update) (item n : ℕ) (u : Update) (h : List ℕ) (told : Bool) → IsCausal [] us → slice_get us item ≡ Some u → Some n ≡ place_of_id h us
    → (IsTrue told → PrecedesAt us n item) × (PrecedesAt us n item → IsTrue told) → told ≡ has_id (past u us) h
in_past us item n u h told c at place tells = by_told told tells where
  found : (t : Update) × ((slice_get us n ≡ Some t) × (id_of_update t ≡ h))
  found = has_place h us n (sym place)

  on : IsIn u us
  on = in_at us item u at

  to : PrecedesAt us n item → has_id (past u us) h ≡ true
  to (t, (at_t, (v, (at_v, before)))) =
      let same : v ≡ u = let both : Some v ≡ Some u = sym at_v ∙ at in cc in
      let other : found.0 ≡ t = let both : Some found.0 ≡ Some t = sym found.1.0 ∙ at_t in cc in
      let there = (past_of_listed us u t c on).1 (subst (λ (x : Update). Precedes us t x) same before) in
      has_id_from (past u us) h t there (ap id_of_update (sym other) ∙ found.1.1)

  back : has_id (past u us) h ≡ true → PrecedesAt us n item
  back e =
      let t = has_id_to (past u us) h e in
      let same = one_of_id [] us t.0 found.0 c (past_in u us t.0 t.1.0) (in_at us n found.0 found.1.0) (t.1.1 ∙ sym found.1.1) in
      (found.0, (found.1.0, (u, (at, subst (λ (x : Update). Precedes us x u) same ((past_of_listed us u t.0 c on).0 t.1.0)))))

  by_told : (b : Bool) → (IsTrue b → PrecedesAt us n item) × (PrecedesAt us n item → IsTrue b) → b ≡ has_id (past u us) h
  by_told true both = sym (to (both.0 refl))
  by_told false both = sym (false_from_ne_true (has_id (past u us) h) (λ e. let hit = both.1 (back e) in absurd cc))
