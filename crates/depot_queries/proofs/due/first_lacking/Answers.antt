use Rattle.std.proofs.Common.{◌∙◌, sym}
use Rattle.depot_model.specs.worlds.Receipts.{lacks_one}
use Rattle.depot_queries.proofs.DueReceipts.{found_first, passed_over}
use Rattle.depot_queries.proofs.due.first_lacking.Goals as goal

pub returns-then-is_lacking : goal.returns-then-is_lacking
returns-then-is_lacking g c =
    found_first (lacks_one (g.P.NodeState.records c.args.node.now)) c.args.ids.now c.loop-id.id-index c.id-item.result c.loop-id-test.true c.id-item.is c.loop-id.invariant (sym c.is_lacking.ensures ∙ c.if-is_lacking.true)

pub loop-id-preserved : goal.loop-id-preserved
loop-id-preserved g c =
    passed_over (lacks_one (g.P.NodeState.records c.args.node.now)) c.args.ids.now c.loop-id.id-index c.id-item.result c.loop-id-test.true c.id-item.is c.loop-id.invariant (sym c.is_lacking.ensures ∙ c.if-is_lacking.false)
