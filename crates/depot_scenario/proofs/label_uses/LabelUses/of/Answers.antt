use Rattle.std.proofs.Common.{refl, arith}
use Rattle.depot_scenario.proofs.UsesOfLabels.{none_used, one_used}
use Rattle.depot_scenario.proofs.label_uses.LabelUses.of.Goals as goal

pub loop-place-init : goal.loop-place-init
loop-place-init c = none_used _ c.args.to_come.now _ refl

pub loop-place-preserved : goal.loop-place-preserved
loop-place-preserved c =
    one_used _ _ c.args.to_come.now c.loop-place.place c.index-to_come-place.result c.loop-place-test.true (omega (arith, c.loop-place.auto.place, c.loop-place-test.true)) c.index-to_come-place.is c.in_ok-note.ensures c.loop-place.invariant
