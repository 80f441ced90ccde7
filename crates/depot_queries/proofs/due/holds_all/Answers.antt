use Rattle.std.proofs.Common.{◌∙◌, sym}
use Rattle.depot_model.specs.journals.Journal.{holds}
use Rattle.depot_queries.proofs.DueReceipts.{written_more, written_fails}
use Rattle.depot_queries.proofs.due.holds_all.Goals as goal

pub returns-then-not-holds_value : goal.returns-then-not-holds_value
returns-then-not-holds_value g c =
    let J = g.P.NodeState.records c.args.node.now in
    written_fails (λ n. holds J n.hash n.size) c.args.writes.now c.loop-write.write-index c.write-item.result c.loop-write-test.true c.write-item.is (sym c.holds_value.ensures ∙ c.if-not-holds_value.true)

pub loop-write-preserved : goal.loop-write-preserved
loop-write-preserved g c =
    let J = g.P.NodeState.records c.args.node.now in
    written_more (λ n. holds J n.hash n.size) c.args.writes.now c.loop-write.write-index c.write-item.result c.loop-write-test.true c.write-item.is c.loop-write.invariant (sym c.holds_value.ensures ∙ c.if-not-holds_value.false)
