use Rattle.std.proofs.Common.{◌≡◌, List, map, take, None}
use Rattle.depot_model.specs.worlds.World.{Correct}
use Rattle.depot_audit.specs.Lookups.{nodes_in, first_accusing}
use Rattle.depot_audit.specs.MetTexts.{AreToldBy}
use Rattle.depot_audit.proofs.named_nodes.first_keeping.Given as goal

abbrev pub invariant-loop-trace : goal.invariant-loop-trace
invariant-loop-trace l = (cs : List Correct) → AreToldBy cs (map (λ t. t.now) (take l.trace-index l.traces)) → first_accusing (nodes_in (map (λ t. t.now) l.traces)) cs ≡ None
