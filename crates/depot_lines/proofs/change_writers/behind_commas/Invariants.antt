use Rattle.std.proofs.Common.{◌≡◌, ◌∷◌, ◌++◌, take}
use Rattle.std.specs.List.{flat_map}
use Rattle.depot_lines.specs.Vocabulary.{text_of_change}
use Rattle.depot_lines.proofs.change_writers.behind_commas.Given as goal

abbrev pub invariant-loop-change : goal.invariant-loop-change
invariant-loop-change l = l.out ≡ l.initial.out ++ flat_map (λ c. 44 ∷ text_of_change c) (take l.change-index l.changes)
