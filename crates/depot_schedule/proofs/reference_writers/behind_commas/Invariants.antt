use Rattle.std.proofs.Common.{◌≡◌, ◌∷◌, ◌++◌, take}
use Rattle.std.specs.List.{flat_map}
use Rattle.depot_schedule.specs.EventWords.{text_of_ref}
use Rattle.depot_schedule.proofs.reference_writers.behind_commas.Given as goal

abbrev pub invariant-loop-found : goal.invariant-loop-found
invariant-loop-found l = l.out ≡ l.initial.out ++ flat_map (λ r. 44 ∷ text_of_ref r) (take l.found-index l.refs)
