use Rattle.std.proofs.Common.{vec_len}
use Rattle.depot_scan.specs.Ids.{is_id_covered}
use Rattle.depot_scan.proofs.WalkSteps.{Walked}
use Rattle.depot_scan.proofs.writes.uncovered.Given as goal

abbrev pub invariant-loop-body : goal.invariant-loop-body
invariant-loop-body l = Walked l.key l.fn.bodies.items l.bodies.items (is_id_covered l.ids) l.found.items

abbrev pub decreases-loop-body : goal.decreases-loop-body
decreases-loop-body l = vec_len l.bodies
