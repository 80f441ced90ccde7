use Rattle.std.proofs.Common.{[], ◌∷◌, ◌++◌, ap, ◌∙◌, arith}
use Rattle.std.specs.Prelude.{min}
use Rattle.depot_graph.specs.Kept.{updates_in}
use Rattle.depot_questions.proofs.ToldUpdates.{none_told, one_told, page_told}
use Rattle.depot_questions.proofs.updates.updates_from.Goals as goal

pub loop-item-init : goal.loop-item-init
loop-item-init c = none_told (updates_in c.args.graph.now.items.entries) c.args.from c.new-updates.result c.new-updates.ensures

pub loop-item-preserved : goal.loop-item-preserved
loop-item-preserved c =
    one_told (updates_in c.args.graph.now.items.entries) c.args.from c.loop-item.item c.update.result.now c.loop-item.updates c.push.new.self c.loop-item.auto.item c.update.ensures c.loop-item.invariant (c.in_ok-push.ensures.ok ∙ ap (λ (x : _). c.loop-item.updates ++ x ∷ []) c.in_ok-update_keys.ensures)

pub returns : goal.returns
returns c =
    page_told (updates_in c.args.graph.now.items.entries) c.args.from c.min-end.result c.loop-item.item c.count-count.result c.loop-item.updates (omega (arith, c.ranges.from)) c.count-count.type_inv c.count-count.ensures (c.min-end.ensures ∙ ap (λ (n : _). min n c.count-count.result) c.saturating_add.ensures) c.loop-item.auto.item c.loop-item.auto.item-end c.loop-item-test.false c.loop-item.invariant
