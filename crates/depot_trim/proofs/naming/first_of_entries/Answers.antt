use Rattle.std.proofs.Common.{◌∙◌, ap, ℕ, Option}
use Rattle.depot_trim.specs.MarkedNames.{earlier_of}
use Rattle.depot_trim.proofs.MarkedPlaces.{none_of, of_more}
use Rattle.depot_trim.proofs.naming.first_of_entries.Goals as goal

pub loop-dep-init : goal.loop-dep-init
loop-dep-init c = none_of c.args.marks.now.list.items

pub loop-dep-preserved : goal.loop-dep-preserved
loop-dep-preserved c =
    of_more c.args.deps.now c.loop-dep.dep-index c.dep-item.result c.args.marks.now.list.items c.loop-dep.first c.earlier-first.result c.loop-dep-test.true c.dep-item.is c.loop-dep.invariant
    (c.earlier-first.ensures ∙ ap (λ (o : Option ℕ). earlier_of c.loop-dep.first o) c.first_with.ensures)
