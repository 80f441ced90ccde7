use Rattle.std.proofs.Common.{◌∙◌}
use Rattle.depot_graph.specs.Kept.{updates_in}
use Rattle.depot_graph.proofs.KinLaws.{children_at}
use Rattle.depot_graph.proofs.graph.GraphPast.children.Goals as goal

pub returns : goal.returns
returns c = c.as_slice.ensures.value ∙ children_at (λ v. v.items) c.args.self.now.children.items (updates_in c.args.self.now.items.entries) c.args.item c.index.result.now c.args.self.now.kin c.requires c.index.ensures
