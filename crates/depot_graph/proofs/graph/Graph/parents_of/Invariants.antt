use Rattle.std.proofs.Common.{◌≡◌, ◌++◌, map, take}
use Rattle.depot_model.specs.lists.Items.{places_of}
use Rattle.depot_model.specs.updates.Order.{prevs}
use Rattle.depot_graph.specs.Kept.{updates_in}
use Rattle.depot_graph.proofs.graph.Graph.parents_of.Given as goal

abbrev pub invariant-loop-dep : goal.invariant-loop-dep
invariant-loop-dep l = l.parents.items ≡ places_of (updates_in l.self.items.entries) (prevs l.update ++ map (λ d. d.id) (take l.dep-index l.update.deps))
