use Rattle.std.proofs.Common.{length}
use Rattle.depot_scan.specs.Bodies.{updates}
use Rattle.depot_scan.proofs.LogSteps.{IsRead}
use Rattle.depot_scan.proofs.log.bodies_of.Given as goal

abbrev pub invariant-loop-rest : goal.invariant-loop-rest
invariant-loop-rest l = IsRead l.log (updates l.bodies.items) l.rest

abbrev pub decreases-loop-rest : goal.decreases-loop-rest
decreases-loop-rest l = length l.rest
