use Rattle.std.specs.Option.{option_copied}
use Rattle.depot_graph.specs.Kept.{updates_in}
use Rattle.depot_questions.proofs.LeastLaws.{AreLeast}
use Rattle.depot_questions.proofs.keys.least_keys.Given as goal

abbrev pub invariant-loop-item : goal.invariant-loop-item
invariant-loop-item l = AreLeast (option_copied l.after) (updates_in l.graph.items.entries) l.item l.least.keys
