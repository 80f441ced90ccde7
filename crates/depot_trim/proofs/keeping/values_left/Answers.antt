use Rattle.std.proofs.Common.{◌≡◌, ◌∙◌, ◌+◌, ◌++◌, ◌∷◌, ◌||◌, [], Bool, List, true, false, not, length, take, Some, arith, sym, ap}
use Rattle.std.specs.Prelude.{slice_get}
use Rattle.std.proofs.lemmas.List.{append-nil, length-map}
use Rattle.depot_base.specs.declared.update.Update.{Update}
use Rattle.depot_base.proofs.GeneralLaws.{at_place}
use Rattle.depot_model.specs.texts.Contents.{names_value}
use Rattle.depot_model.specs.journals.Journal.{accepted, has_id, held, is_wanted}
use Rattle.depot_model.specs.readers.Readers.{left_of}
use Rattle.depot_model.specs.texts.Texts.{id_of_update}
use Rattle.depot_kept.specs.Values as values
use Rattle.depot_trim.specs.Trimmings.{kept_of}
use Rattle.depot_trim.proofs.KeptValues.{kept_alike, kept_are_left, none_wanted, wants_more}
use Rattle.depot_trim.proofs.SoFar.{filter_next, map_at, whole}
use Rattle.depot_trim.proofs.keeping.values_left.Goals as goal
use Rattle.depot_trim.proofs.keeping.values_left.Goals.{then-not-flag_at+in_ok-add_values, else-not-flag_at}

pub loop-item-init : goal.loop-item-init
loop-item-init g c = λ ts h are. c.new-values.ensures h ∙ none_wanted (held (g.N.NodeState.records c.args.node.now)) h

pub flag_at-requires : goal.flag_at-requires
flag_at-requires g c = omega (arith, c.loop-item-test.true, c.count-item-end.ensures, ap length c.graph-graph.ensures, ap length c.requires.flags.1, length-map (accepted (g.N.NodeState.records c.args.node.now)) (λ (u : Update). has_id c.requires.flags.0 (id_of_update u)))

pub loop-item-preserved : goal.loop-item-preserved
loop-item-preserved g c = λ ts h are.
    let J = g.N.NodeState.records c.args.node.now in
    let us = accepted J in
    let left : Update → Bool = λ u. not (has_id ts (id_of_update u)) in
    let i = c.loop-item.item in
    let u = at_place us i (omega (arith, c.loop-item-test.true, c.count-item-end.ensures, ap length c.graph-graph.ensures)) in
    let there = ap (λ (bs : List Bool). slice_get bs i) are ∙ map_at (λ (x : Update). has_id ts (id_of_update x)) us i u.0 u.1 in
    let told : has_id ts (id_of_update u.0) ≡ c.flag_at.result = let both : Some (has_id ts (id_of_update u.0)) ≡ Some c.flag_at.result = sym there ∙ c.flag_at.ensures in cc in
    elim c.if-not-flag_at.branch as (λ _. values.held_in c.if-not-flag_at.values h ≡ kept_of (held J) (is_wanted (left_of ts (take (i + 1) us))) h) [
      | then-not-flag_at+in_ok-add_values w ↦
          let one : w.update.result.now ≡ u.0 = let both : Some w.update.result.now ≡ Some u.0 = sym w.update.ensures ∙ ap (λ (us : List Update). slice_get us i) c.graph-graph.ensures ∙ u.1 in cc in
          let longer = ap (λ (x : Update). left_of ts (take i us) ++ x ∷ []) one ∙ sym (filter_next left us i u.0 true u.1 (ap not (told ∙ w.if-not-flag_at.true))) in
          ap (λ v. values.held_in v h) w.values-is ∙ w.in_ok-add_values.ensures (is_wanted (left_of ts (take i us))) (λ k. c.loop-item.invariant ts k are) h
          ∙ kept_alike (held J) (λ k size. is_wanted (left_of ts (take i us)) k size || names_value w.update.result.now k size) (is_wanted (left_of ts (take (i + 1) us))) h (λ size. sym (wants_more (left_of ts (take i us)) w.update.result.now h size) ∙ ap (λ (xs : List Update). is_wanted xs h size) longer)
      | else-not-flag_at w ↦
          ap (λ v. values.held_in v h) w.values-is ∙ c.loop-item.invariant ts h are
          ∙ ap (λ (xs : List Update). kept_of (held J) (is_wanted xs) h) (sym (filter_next left us i u.0 false u.1 (ap not (told ∙ w.if-not-flag_at.false)) ∙ append-nil (left_of ts (take i us))))
    ]

pub returns : goal.returns
returns g c = λ ts h are.
    let J = g.N.NodeState.records c.args.node.now in
    let all = whole c.loop-item.item (accepted J) (omega (arith, c.loop-item-test.false, c.count-item-end.ensures, ap length c.graph-graph.ensures)) in
    c.loop-item.invariant ts h are ∙ ap (λ (us : List Update). kept_of (held J) (is_wanted (left_of ts us)) h) all ∙ kept_are_left J (left_of ts (accepted J)) h
