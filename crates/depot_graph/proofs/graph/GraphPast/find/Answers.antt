use Rattle.std.proofs.Common.{◌∙◌, sym}
use Rattle.depot_graph.proofs.KinLaws.{found_by_key}
use Rattle.depot_graph.proofs.graph.GraphPast.find.Goals as goal

pub returns-in_err-place : goal.returns-in_err-place
returns-in_err-place c = c.from_residual.ensures ∙ found_by_key c.args.id.now c.args.self.now.items.entries _ c.args.self.now.ids (sym c.in_err-place.was ∙ c.get_index_of.ensures.index)

pub returns : goal.returns
returns c = found_by_key c.args.id.now c.args.self.now.items.entries _ c.args.self.now.ids (sym c.in_ok-place.was ∙ c.get_index_of.ensures.index)
