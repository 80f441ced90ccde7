use Rattle.std.proofs.Common.{◌∙◌, sym, subst, []}
use Rattle.depot_graph.specs.Causal.{causal_from_test}
use Rattle.depot_graph.specs.Kept.{updates_in}
use Rattle.depot_graph.proofs.PlaceLaws.{AreLatestPlaces, are_latest_places, below_at}
use Rattle.depot_graph.proofs.graph.Graph.latest.Goals as goal

found : (c : goal.After-latest) → AreLatestPlaces c.args.key.now (updates_in c.args.self.now.items.entries) c.latest.result.now
found c =
    let us = updates_in c.args.self.now.items.entries in
    let same = c.latest.ensures ∙ c.args.self.now.reads c.args.key.now in
    subst (AreLatestPlaces c.args.key.now us) (sym same) (are_latest_places c.args.key.now us (causal_from_test [] us c.args.self.now.causal))

pub returns-clause-latest : goal.returns-clause-latest
returns-clause-latest c = (found c).latest

pub returns-clause-items : goal.returns-clause-items
returns-clause-items c = below_at _ _ (found c).below
