-- A table with the records of more texts.
use Rattle.std.proofs.Common.{◌≡◌, ℕ, true, false, List, [], ◌∷◌, ◌++◌, map, refl, sym, ap, subst, ◌∙◌}
use Rattle.std.specs.List.{flat_map}
use Rattle.std.proofs.lemmas.List.{append-nil}
use Rattle.sha2.specs.Sha256.{sha256}
use Rattle.depot_base.specs.declared.record.Record.{Record}
use Rattle.depot_base.specs.declared.record.Record.TheVariants.{Birth, OwnPut, OwnVoucher, Foreign, Conviction, Held}
use Rattle.depot_base.specs.declared.statement.Signed.{Signed}
use Rattle.depot_base.specs.declared.statement.Statement.TheVariants as statements
use Rattle.depot_base.specs.declared.update.Update.{Update}
use Rattle.depot_base.specs.declared.voucher.Voucher.{Voucher}
use Rattle.depot_base.proofs.GeneralLaws.{flat_push}
use Rattle.depot_model.specs.worlds.Causality.{puts_of}
use Rattle.depot_model.specs.journals.Journal.{accepted, accepted_by, update_in, value_by}
use Rattle.depot_model.specs.lists.Lists.{IsIn}
use Rattle.depot_model.specs.texts.Records.{IsRecord}
use Rattle.depot_model.specs.texts.Texts.{text_of_update, id_of_update}
use Rattle.depot_model.specs.worlds.World.{World, IsWorld, writes_of}
use Rattle.depot_model.proofs.of_texts.BodyLaws.{body_is_text_of_update}
use Rattle.depot_model.proofs.lists.Members.{from_map}
use Rattle.depot_laws.specs.OneText.{HaveOneText}
use Rattle.depot_laws.proofs.records.LawfulRecords.{IsSigned-from_record}
use Rattle.depot_laws.proofs.own_updates.Puts.{put_by}
use Rattle.depot_laws.proofs.of_worlds.Worlds.{one_write}
use Rattle.depot_audit.specs.MetTexts.{IsMetOf}
use Rattle.depot_audit.specs.Tables.{HaveOneKey, AreMetUpdates, update_where, AreMetValues}
use Rattle.depot_audit.specs.TracedWorlds.{IsMetIn}
use Rattle.depot_audit.specs.declared.met.Met.{Met}
use Rattle.depot_audit.specs.declared.met_updates.MetUpdates.{MetUpdates}
use Rattle.depot_audit.specs.declared.met_values.MetValues.{MetValues}
use Rattle.depot_audit.proofs.NodesOfTraces.{accepted_of, values_are}

-- ---- one record more

-- the updates with those that one record brings
updates_with : (rs : List Record) (r : Record) (us ps : List Update) (m : MetUpdates) → accepted_by r ≡ us → put_by r ≡ ps → AreMetUpdates (accepted rs ++ us) (puts_of rs ++ ps) m.table m.apart → AreMetUpdates (accepted (rs ++ r ∷ [])) (puts_of (rs ++ r ∷ [])) m.table m.apart
updates_with rs r us ps m brings puts met =
    subst (λ (xs : List Update). AreMetUpdates xs (puts_of (rs ++ r ∷ [])) m.table m.apart) (ap (λ (xs : List Update). accepted rs ++ xs) (sym brings) ∙ sym (flat_push accepted_by rs r))
    (subst (λ (xs : List Update). AreMetUpdates (accepted rs ++ us) xs m.table m.apart) (ap (λ (xs : List Update). puts_of rs ++ xs) (sym puts) ∙ sym (flat_push put_by rs r)) met)

updates_same : (rs : List Record) (r : Record) (m : MetUpdates) → accepted_by r ≡ [] → put_by r ≡ [] → AreMetUpdates (accepted rs) (puts_of rs) m.table m.apart → AreMetUpdates (accepted (rs ++ r ∷ [])) (puts_of (rs ++ r ∷ [])) m.table m.apart
updates_same rs r m brings puts met =
    updates_with rs r [] [] m brings puts
    (subst (λ (xs : List Update). AreMetUpdates xs (puts_of rs ++ []) m.table m.apart) (sym (append-nil (accepted rs)))
    (subst (λ (xs : List Update). AreMetUpdates (accepted rs) xs m.table m.apart) (sym (append-nil (puts_of rs))) met))

values_with : (rs : List Record) (r : Record) (vs : List (List ℕ)) (m : MetValues) → value_by r ≡ vs → AreMetValues (flat_map value_by rs ++ vs) m.table m.apart → AreMetValues (flat_map value_by (rs ++ r ∷ [])) m.table m.apart
values_with rs r vs m brings met =
    subst (λ (xs : List (List ℕ)). AreMetValues xs m.table m.apart) (ap (λ (xs : List (List ℕ)). flat_map value_by rs ++ xs) (sym brings) ∙ sym (flat_push value_by rs r)) met

values_same : (rs : List Record) (r : Record) (m : MetValues) → value_by r ≡ [] → AreMetValues (flat_map value_by rs) m.table m.apart → AreMetValues (flat_map value_by (rs ++ r ∷ [])) m.table m.apart
values_same rs r m brings met =
    values_with rs r [] m brings (subst (λ (xs : List (List ℕ)). AreMetValues xs m.table m.apart) (sym (append-nil (flat_map value_by rs))) met)

-- it brings nothing
pub brings_nothing : (rs : List Record) (r : Record) (met : Met) → accepted_by r ≡ [] → put_by r ≡ [] → value_by r ≡ [] → IsMetOf rs met → IsMetOf (rs ++ r ∷ []) met
brings_nothing rs r met updates puts values m = record { updates = updates_same rs r met.updates updates puts m.updates; values = values_same rs r met.values values m.values }

pub birth_brings : (rs : List Record) (node : ℕ) (roster : List ℕ) (met : Met) → IsMetOf rs met → IsMetOf (rs ++ Birth node roster ∷ []) met
birth_brings rs node roster met m = brings_nothing rs (Birth node roster) met refl refl refl m

pub voucher_brings : (rs : List Record) (v : Voucher) (met : Met) → IsMetOf rs met → IsMetOf (rs ++ OwnVoucher v ∷ []) met
voucher_brings rs v met m = brings_nothing rs (OwnVoucher v) met refl refl refl m

pub conviction_brings : (rs : List Record) (p : _) (met : Met) → IsMetOf rs met → IsMetOf (rs ++ Conviction p ∷ []) met
conviction_brings rs p met m = brings_nothing rs (Conviction p) met refl refl refl m

-- it brings an own update and its values
pub put_brings : (rs : List Record) (u : Update) (values : List (List ℕ)) (old new : Met)
    → (AreMetUpdates (accepted rs) (puts_of rs) old.updates.table old.updates.apart → AreMetUpdates (accepted rs ++ u ∷ []) (puts_of rs ++ update_where true u) new.updates.table new.updates.apart)
    → (AreMetValues (flat_map value_by rs) old.values.table old.values.apart → AreMetValues (flat_map value_by rs ++ values) new.values.table new.values.apart)
    → IsMetOf rs old → IsMetOf (rs ++ OwnPut u values ∷ []) new
put_brings rs u values old new updates more m = record {
  updates = updates_with rs (OwnPut u values) (u ∷ []) (u ∷ []) new.updates refl refl (updates m.updates);
  values = values_with rs (OwnPut u values) values new.values refl (more m.values);
}

-- it brings another's update
pub foreign_brings : (rs : List Record) (s : Signed) (u : Update) (old new : Met) → s.statement ≡ statements.Update u → old.values ≡ new.values
    → (AreMetUpdates (accepted rs) (puts_of rs) old.updates.table old.updates.apart → AreMetUpdates (accepted rs ++ u ∷ []) (puts_of rs ++ update_where false u) new.updates.table new.updates.apart)
    → IsMetOf rs old → IsMetOf (rs ++ Foreign s ∷ []) new
foreign_brings rs s u old new is values updates m = record {
  updates = updates_with rs (Foreign s) (u ∷ []) [] new.updates (ap update_in is) refl (updates m.updates);
  values = values_same rs (Foreign s) new.values refl (subst (λ (v : MetValues). AreMetValues (flat_map value_by rs) v.table v.apart) values m.values);
}

-- the body that is hashed is the update's
pub body_id : (s : Signed) (u : Update) → IsRecord (Foreign s) → s.statement ≡ statements.Update u → sha256 s.body ≡ id_of_update u
unfolding id_of_update
body_id s u fits is = ap sha256 (body_is_text_of_update s u (IsSigned-from_record s fits) is)

-- or another's voucher
pub vouching_brings : (rs : List Record) (s : Signed) (v : Voucher) (met : Met) → s.statement ≡ statements.Voucher v → IsMetOf rs met → IsMetOf (rs ++ Foreign s ∷ []) met
vouching_brings rs s v met is m = brings_nothing rs (Foreign s) met (ap update_in is) refl refl m

-- it brings a value
pub held_brings : (rs : List Record) (v : List ℕ) (old new : Met) → old.updates ≡ new.updates
    → (AreMetValues (flat_map value_by rs) old.values.table old.values.apart → AreMetValues (flat_map value_by rs ++ v ∷ []) new.values.table new.values.apart)
    → IsMetOf rs old → IsMetOf (rs ++ Held v ∷ []) new
held_brings rs v old new updates values m = record {
  updates = updates_same rs (Held v) new.updates refl refl (subst (λ (u : MetUpdates). AreMetUpdates (accepted rs) (puts_of rs) u.table u.apart) updates m.updates);
  values = values_with rs (Held v) (v ∷ []) new.values refl (values m.values);
}

-- ---- what the table says of a world

module _ (W : World) (world : IsWorld W) (met : Met) (m : IsMetIn W met) where
  one_body : HaveOneKey id_of_update (writes_of W) → (a b : List ℕ) → IsIn a (map text_of_update (writes_of W)) → IsIn b (map text_of_update (writes_of W)) → sha256 a ≡ sha256 b → a ≡ b
  unfolding id_of_update
  one_body one a b a_on b_on e =
      let t = from_map text_of_update a (writes_of W) a_on in
      let u = from_map text_of_update b (writes_of W) b_on in
      sym t.1.1 ∙ ap (λ (v : Update). text_of_update v) (one t.0 u.0 t.1.0 u.1.0 (ap sha256 t.1.1 ∙ e ∙ ap sha256 (sym u.1.1))) ∙ u.1.1

  pub apart_from : met.updates.apart ≡ true → met.values.apart ≡ true → HaveOneText W
  apart_from bodies values = record {
    bodies = one_body (subst (λ (us : List Update). HaveOneKey id_of_update us) (accepted_of W) (m.updates.one.0 bodies));
    values = subst (λ (vs : List (List ℕ)). HaveOneKey sha256 vs) (values_are W) (m.values.one.0 values);
  }

  pub apart_to : HaveOneText W → (met.updates.apart ≡ true) × (met.values.apart ≡ true)
  apart_to free = (
    m.updates.one.1 (subst (λ (us : List Update). HaveOneKey id_of_update us) (sym (accepted_of W)) (λ t u t_on u_on e. one_write W world free t u t_on u_on e)),
    m.values.one.1 (subst (λ (vs : List (List ℕ)). HaveOneKey sha256 vs) (sym (values_are W)) free.values),
  )
