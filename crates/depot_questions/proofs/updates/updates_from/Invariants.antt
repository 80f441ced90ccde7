use Rattle.std.proofs.Common.{◌≡◌, map, take, drop, ◌-◌}
use Rattle.depot_graph.specs.Kept.{updates_in}
use Rattle.depot_questions.specs.Answers.{update_keys}
use Rattle.depot_questions.proofs.updates.updates_from.Given as goal

abbrev pub invariant-loop-item : goal.invariant-loop-item
invariant-loop-item l = l.updates ≡ map update_keys (take (l.item - l.from) (drop l.from (updates_in l.graph.items.entries)))
