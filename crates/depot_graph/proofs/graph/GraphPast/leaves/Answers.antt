use Rattle.std.proofs.Common.{◌∙◌}
use Rattle.depot_graph.specs.Kept.{updates_in}
use Rattle.depot_graph.proofs.KinLaws.{are_leaves}
use Rattle.depot_graph.proofs.graph.GraphPast.leaves.Goals as goal

pub returns : goal.returns
returns c = are_leaves (updates_in c.args.self.now.items.entries) c.as_slice.result.now (c.as_slice.ensures.value ∙ c.args.self.now.ends)
