use Rattle.std.proofs.Common.{◌≡◌, ◌∙◌, ◌+◌, Bool, List, [], ◌∷◌, ◌++◌, map, take, Some, arith, sym, ap}
use Rattle.std.specs.Prelude.{slice_get}
use Rattle.std.specs.List.{filter}
use Rattle.std.proofs.lemmas.List.{append-nil, map-append}
use Rattle.depot_base.proofs.GeneralLaws.{at_place}
use Rattle.depot_graph.specs.Kept.{updates_in}
use Rattle.depot_trim.specs.ReaderView.{mark_of}
use Rattle.depot_trim.specs.declared.marks.UpdateMark.{UpdateMark}
use Rattle.depot_trim.proofs.SoFar.{filter_next, map_at}
use Rattle.depot_trim.proofs.marking.marks_of.Goals as goal
use Rattle.depot_trim.proofs.marking.marks_of.Goals.{then-flag_at+in_ok-push, else-flag_at}

pub loop-item-preserved : goal.loop-item-preserved
loop-item-preserved c = λ test are.
    let us = updates_in c.args.graph.now.items.entries in
    let i = c.loop-item.item in
    let u = at_place us i (omega (arith, c.loop-item-test.true, c.count-item-end.ensures)) in
    let there = ap (λ (bs : List Bool). slice_get bs i) are ∙ map_at test us i u.0 u.1 in
    let told : test u.0 ≡ c.flag_at.result = let both : Some (test u.0) ≡ Some c.flag_at.result = sym there ∙ c.flag_at.ensures in cc in
    elim c.if-flag_at.branch as (λ _. c.if-flag_at.marks.items ≡ map mark_of (filter test (take (i + 1) us))) [
      | then-flag_at+in_ok-push w ↦
          ap (λ m. m.items) w.marks-is ∙ w.in_ok-push.ensures.items ∙ ap (λ (ms : List UpdateMark). ms ++ w.mark.result ∷ []) (c.loop-item.invariant test are) ∙ ap (λ (m : UpdateMark). map mark_of (filter test (take i us)) ++ m ∷ []) (w.mark.ensures u.0 u.1)
          ∙ sym (ap (map mark_of) (filter_next test us i u.0 _ u.1 (told ∙ w.if-flag_at.true)) ∙ map-append mark_of (filter test (take i us)) (u.0 ∷ []))
      | else-flag_at w ↦
          ap (λ m. m.items) w.marks-is ∙ c.loop-item.invariant test are ∙ sym (ap (map mark_of) (filter_next test us i u.0 _ u.1 (told ∙ w.if-flag_at.false) ∙ append-nil (filter test (take i us))))
    ]
