use Rattle.std.proofs.Common.{◌≡◌, ◌∙◌, ◌+◌, Bool, List, [], ◌∷◌, ◌++◌, true, false, not, length, take, Some, arith, sym, ap, subst}
use Rattle.std.specs.Prelude.{slice_get}
use Rattle.std.proofs.lemmas.List.{append-nil, length-map}
use Rattle.depot_base.specs.declared.update.Update.{Update}
use Rattle.depot_base.proofs.GeneralLaws.{at_place}
use Rattle.depot_model.specs.journals.Journal.{has_id}
use Rattle.depot_model.specs.readers.Readers.{left_of}
use Rattle.depot_model.specs.texts.Texts.{id_of_update}
use Rattle.depot_graph.specs.Kept.{updates_in}
use Rattle.depot_readings.specs.Named.{AreNamed}
use Rattle.depot_trim.proofs.SoFar.{filter_next, map_at}
use Rattle.depot_trim.proofs.keeping.names_left.Goals as goal
use Rattle.depot_trim.proofs.keeping.names_left.Goals.{then-not-flag_at+in_ok-add_names, else-not-flag_at}

pub flag_at-requires : goal.flag_at-requires
flag_at-requires c = omega (arith, c.loop-item-test.true, c.count-item-end.ensures, ap length c.requires.1, length-map (updates_in c.args.graph.now.items.entries) (λ (u : Update). has_id c.requires.0 (id_of_update u)))

pub loop-item-preserved : goal.loop-item-preserved
loop-item-preserved c = λ ts are.
    let us = updates_in c.args.graph.now.items.entries in
    let left : Update → Bool = λ u. not (has_id ts (id_of_update u)) in
    let i = c.loop-item.item in
    let u = at_place us i (omega (arith, c.loop-item-test.true, c.count-item-end.ensures)) in
    let there = ap (λ (bs : List Bool). slice_get bs i) are ∙ map_at (λ (x : Update). has_id ts (id_of_update x)) us i u.0 u.1 in
    let told : has_id ts (id_of_update u.0) ≡ c.flag_at.result = let both : Some (has_id ts (id_of_update u.0)) ≡ Some c.flag_at.result = sym there ∙ c.flag_at.ensures in cc in
    elim c.if-not-flag_at.branch as (λ _. AreNamed (left_of ts (take (i + 1) us)) c.if-not-flag_at.named) [
      | then-not-flag_at+in_ok-add_names w ↦
          let one : w.update.result.now ≡ u.0 = let both : Some w.update.result.now ≡ Some u.0 = sym w.update.ensures ∙ u.1 in cc in
          let longer = ap (λ (x : Update). left_of ts (take i us) ++ x ∷ []) one ∙ sym (filter_next left us i u.0 true u.1 (ap not (told ∙ w.if-not-flag_at.true))) in
          subst (λ (xs : List Update). AreNamed xs c.if-not-flag_at.named) longer
          (subst (λ n. AreNamed (left_of ts (take i us) ++ w.update.result.now ∷ []) n) (sym w.named-is) (w.in_ok-add_names.ensures (left_of ts (take i us)) (c.loop-item.invariant ts are)))
      | else-not-flag_at w ↦
          subst (λ (xs : List Update). AreNamed xs c.if-not-flag_at.named) (sym (filter_next left us i u.0 false u.1 (ap not (told ∙ w.if-not-flag_at.false)) ∙ append-nil (left_of ts (take i us))))
          (subst (λ n. AreNamed (left_of ts (take i us)) n) (sym w.named-is) (c.loop-item.invariant ts are))
    ]
