use Rattle.std.proofs.Common.{◌≡◌, ◌∙◌, Bool, List, false, not, ◌||◌, arith, sym, ap, subst}
use Rattle.std.specs.List.{list_any}
use Rattle.depot_base.specs.declared.update.Update.{Update}
use Rattle.depot_base.proofs.GeneralLaws.{at_place}
use Rattle.depot_model.proofs.lists.Elements.{in_at}
use Rattle.depot_model.proofs.lists.Members.{any_from}
use Rattle.depot_graph.specs.Kept.{updates_in}
use Rattle.depot_trim.specs.Trimmings.{ids_in, signs_as}
use Rattle.depot_trim.proofs.SoFar.{any_next, whole}
use Rattle.depot_trim.proofs.unsigned.is_unsigned.Goals as goal

pub returns-then-signs : goal.returns-then-signs
returns-then-signs c =
    let us = updates_in c.args.graph.now.items.entries in
    let test = signs_as us c.args.sought.now.text.now (ids_in c.args.sought.now.leaves.now) c.args.entry.now.node in
    let u = at_place us c.loop-item.item (omega (arith, c.loop-item-test.true, c.count-item-end.ensures)) in
    sym (ap not (any_from test u.0 us (in_at us c.loop-item.item u.0 u.1) (sym (c.signs.ensures u.0 u.1) ∙ c.if-signs.true)))

pub loop-item-preserved : goal.loop-item-preserved
loop-item-preserved c =
    let us = updates_in c.args.graph.now.items.entries in
    let test = signs_as us c.args.sought.now.text.now (ids_in c.args.sought.now.leaves.now) c.args.entry.now.node in
    let u = at_place us c.loop-item.item (omega (arith, c.loop-item-test.true, c.count-item-end.ensures)) in
    any_next test us c.loop-item.item u.0 u.1 ∙ ap (λ (b : Bool). b || test u.0) c.loop-item.invariant ∙ sym (c.signs.ensures u.0 u.1) ∙ c.if-signs.false

pub returns : goal.returns
returns c =
    let us = updates_in c.args.graph.now.items.entries in
    let test = signs_as us c.args.sought.now.text.now (ids_in c.args.sought.now.leaves.now) c.args.entry.now.node in
    sym (ap not (subst (λ (xs : List Update). list_any test xs ≡ false) (whole c.loop-item.item us (omega (arith, c.loop-item-test.false, c.count-item-end.ensures))) c.loop-item.invariant))
