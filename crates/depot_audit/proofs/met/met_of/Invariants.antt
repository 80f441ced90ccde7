use Rattle.std.proofs.Common.{List, map, take}
use Rattle.std.specs.List.{flat_map}
use Rattle.depot_model.specs.worlds.World.{Correct}
use Rattle.depot_audit.specs.MetTexts.{AreToldBy, IsMetOf}
use Rattle.depot_audit.proofs.met.met_of.Given as goal

abbrev pub invariant-loop-trace : goal.invariant-loop-trace
invariant-loop-trace l = (cs : List Correct) → AreToldBy cs (map (λ t. t.now) (take l.trace-index l.traces)) → IsMetOf (flat_map (λ c. c.journal) cs) l.met
