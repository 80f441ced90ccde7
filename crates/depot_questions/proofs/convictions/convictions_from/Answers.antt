use Rattle.std.proofs.Common.{◌∙◌}
use Rattle.depot_questions.proofs.ToldConvictions.{all_convict}
use Rattle.depot_questions.proofs.convictions.convictions_from.Goals as goal

pub page_from-requires : goal.page_from-requires
page_from-requires g c = all_convict (g.N.NodeState.records c.args.node.now) c.new.result c.as_slice.result.now c.new.ensures (c.as_slice.ensures ∙ c.in_ok-places.ensures)
