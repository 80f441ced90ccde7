use Rattle.std.proofs.Common.{◌≡◌, map, take}
use Rattle.depot_base.specs.declared.update.Dep.{Dep}
use Rattle.depot_simulation.proofs.drafting.ids_of.Given as goal

abbrev pub invariant-loop-entry : goal.invariant-loop-entry
invariant-loop-entry l = l.ids ≡ map (λ (d : Dep). d.id) (take l.entry-index l.entries)
