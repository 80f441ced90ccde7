use Rattle.depot_scenario.specs.LabelUses.{AreUsesFrom}
use Rattle.depot_scenario.proofs.label_uses.LabelUses.of.Given as goal

abbrev pub invariant-loop-place : goal.invariant-loop-place
invariant-loop-place l = AreUsesFrom l.place l.uses.map.entries l.to_come
