use Rattle.std.proofs.Common.{take, map}
use Rattle.depot_scenario.specs.LabelUses.{AreNoted}
use Rattle.depot_scenario.proofs.label_uses.LabelUses.note.Given as goal

abbrev pub invariant-loop-label : goal.invariant-loop-label
invariant-loop-label l = AreNoted (map (λ label. label.now) (take l.label-index l.label-items)) l.behind l.initial.self.map.entries l.self.map.entries
