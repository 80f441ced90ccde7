use Rattle.std.proofs.Common.{◌≡◌, true, take}
use Rattle.std.specs.List.{list_all}
use Rattle.depot_base.specs.Writes.{values_in}
use Rattle.depot_model.specs.journals.Journal.{holds}
use Rattle.depot_queries.proofs.due.holds_all.Given as goal

abbrev pub invariant-loop-write : goal.invariant-loop-write
invariant-loop-write g l = list_all (λ n. holds (g.P.NodeState.records l.node) n.hash n.size) (values_in (take l.write-index l.writes)) ≡ true
