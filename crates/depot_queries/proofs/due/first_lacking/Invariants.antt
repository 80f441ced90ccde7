use Rattle.std.proofs.Common.{◌≡◌, take, None}
use Rattle.std.specs.Prelude.{find}
use Rattle.depot_model.specs.worlds.Receipts.{lacks_one}
use Rattle.depot_queries.proofs.due.first_lacking.Given as goal

abbrev pub invariant-loop-id : goal.invariant-loop-id
invariant-loop-id g l = find (lacks_one (g.P.NodeState.records l.node)) (take l.id-index l.ids) ≡ None
