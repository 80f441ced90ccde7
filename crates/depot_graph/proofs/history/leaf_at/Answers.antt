use Rattle.std.proofs.Common.{[], ◌≡◌, sym}
use Rattle.depot_base.specs.declared.update.Update.{Update}
use Rattle.depot_model.specs.texts.Texts.{id_of_update}
use Rattle.depot_graph.specs.Causal.{causal_from_test}
use Rattle.depot_graph.specs.Kept.{updates_in}
use Rattle.depot_graph.proofs.Sorting.{at_gives, at_is, made_at}
use Rattle.depot_graph.proofs.history.leaf_at.Goals as goal

pub returns : goal.returns
returns c =
    let us = updates_in c.args.graph.now.items.entries in
    let t = c.update-update.result.now in
    let same = at_gives us c.args.item t (λ (u : Update). id_of_update u ≡ c.id.result.now) c.update-update.ensures c.id.ensures in
    at_is us c.args.item t _ c.update-update.ensures (made_at us c.args.item t c.id.result.now (causal_from_test [] us c.args.graph.now.causal) c.update-update.ensures (sym same))
