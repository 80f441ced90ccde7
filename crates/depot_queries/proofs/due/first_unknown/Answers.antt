use Rattle.std.proofs.Common.{◌∙◌, sym, not}
use Rattle.depot_graph.specs.Kept.{updates_in}
use Rattle.depot_model.specs.journals.Journal.{has_id}
use Rattle.depot_queries.proofs.DueReceipts.{found_first, passed_over}
use Rattle.depot_queries.proofs.due.first_unknown.Goals as goal

pub returns-then-is_unknown : goal.returns-then-is_unknown
returns-then-is_unknown c =
    let us = updates_in c.args.graph.now.items.entries in
    found_first (λ h. not (has_id us h)) c.args.ids.now c.loop-id.id-index c.id-item.result c.loop-id-test.true c.id-item.is c.loop-id.invariant (sym c.is_unknown.ensures ∙ c.if-is_unknown.true)

pub loop-id-preserved : goal.loop-id-preserved
loop-id-preserved c =
    let us = updates_in c.args.graph.now.items.entries in
    passed_over (λ h. not (has_id us h)) c.args.ids.now c.loop-id.id-index c.id-item.result c.loop-id-test.true c.id-item.is c.loop-id.invariant (sym c.is_unknown.ensures ∙ c.if-is_unknown.false)
