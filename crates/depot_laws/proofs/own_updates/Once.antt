-- An own update is put by one record alone.
use Rattle.std.proofs.Common.{◌≡◌, List, ◌∷◌, ◌++◌, refl, sym, ap, subst, ◌∙◌, inl, inr, append_assoc}
use Rattle.std.proofs.lemmas.Grind.{flat_map-append}
use Rattle.std.proofs.lemmas.Bool.{both_ways}
use Rattle.depot_base.specs.declared.update.Update.{Update}
use Rattle.depot_base.specs.declared.record.Record.{Record}
use Rattle.depot_base.specs.declared.record.Record.TheVariants.{OwnPut}
use Rattle.depot_model.specs.lists.Lists.{IsIn}
use Rattle.depot_model.specs.texts.Texts.{id_of_update}
use Rattle.depot_model.specs.journals.Journal.{accepted, accepted_by}
use Rattle.depot_model.specs.checks.Checks.{Setting}
use Rattle.depot_model.specs.journals.Lawful.{IsLawful}
use Rattle.depot_model.specs.worlds.Causality.{puts_of}
use Rattle.depot_model.proofs.lists.Members.{in_parts}
use Rattle.depot_laws.proofs.lists.Splits.{given_by, flat_gives}
use Rattle.depot_model.proofs.of_updates.NamedIds.{has_id_from}
use Rattle.depot_laws.proofs.records.Causes.{record_joins}
use Rattle.depot_laws.proofs.own_updates.Puts.{PutAt, put_allowed, put_is_accepted}
use Rattle.depot_laws.proofs.of_worlds.Worlds.{in_split}

-- no other record puts it
pub put_once : (here : Setting) (J : List Record) (u : Update) → IsLawful here J → (p : PutAt u J) → IsIn u (puts_of (p.before ++ p.after)) → ⊥
put_once here J u l p on = elim (in_parts u (accepted p.before) (accepted p.after) (subst (λ (us : List Update). IsIn u us) (flat_map-append accepted_by p.before p.after) (put_is_accepted u (p.before ++ p.after) on))) [
  | inl earlier ↦ both_ways _ (put_allowed here J u l p).fresh.new (has_id_from (accepted p.before) (id_of_update u) u earlier refl)
  | inr later ↦
      let g = given_by accepted_by u p.after later in
      let front = p.before ++ OwnPut u p.values ∷ g.before in
      let is : J ≡ front ++ g.by ∷ g.after = p.is ∙ ap (λ (K : List Record). p.before ++ OwnPut u p.values ∷ K) g.is ∙ sym (append_assoc p.before (OwnPut u p.values ∷ g.before) (g.by ∷ g.after)) in
      let joins = record_joins here front g.by u (l.each front g.by g.after is).may g.given in
      both_ways _ joins.new (has_id_from (accepted front) (id_of_update u) u (flat_gives accepted_by u (OwnPut u p.values) front (in_split p.before (OwnPut u p.values) g.before front refl) (inl refl)) refl)
]
