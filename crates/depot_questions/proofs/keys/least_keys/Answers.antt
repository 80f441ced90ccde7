use Rattle.std.proofs.Common.{List, ◌++◌, map, ap, ◌∙◌, arith}
use Rattle.std.specs.Option.{option_copied}
use Rattle.depot_base.specs.declared.write.Write.{Write}
use Rattle.depot_graph.specs.Kept.{updates_in}
use Rattle.depot_questions.specs.LeastKeys.{least_of}
use Rattle.depot_questions.proofs.LeastLaws.{all_least, more_least, none_least}
use Rattle.depot_questions.proofs.keys.least_keys.Goals as goal

pub loop-item-init : goal.loop-item-init
loop-item-init c = none_least (option_copied c.args.after) (updates_in c.args.graph.now.items.entries) c.count-item.result c.new-least.result.keys c.new-least.ensures.empty (omega (arith, c.count-item.ensures))

pub note_each-requires : goal.note_each-requires
note_each-requires c = c.loop-item.invariant.few

pub loop-item-preserved : goal.loop-item-preserved
loop-item-preserved c =
    more_least (option_copied c.args.after) (updates_in c.args.graph.now.items.entries) c.loop-item.item c.update.result.now c.loop-item.least.keys c.note_each.new.least.keys c.loop-item-test.true c.update.ensures c.loop-item.invariant c.in_ok-note_each.ensures.few (λ behind is. c.in_ok-note_each.ensures.put behind is ∙ ap (λ (ws : List Write). least_of (option_copied c.args.after) (map (λ w. w.key) ws ++ behind)) c.as_slice.ensures)

pub returns : goal.returns
returns c = all_least (option_copied c.args.after) (updates_in c.args.graph.now.items.entries) c.loop-item.item c.loop-item.least.keys (omega (arith, c.loop-item-test.false)) c.loop-item.invariant
