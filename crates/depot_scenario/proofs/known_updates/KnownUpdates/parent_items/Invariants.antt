use Rattle.std.proofs.Common.{◌++◌, map, take}
use Rattle.depot_model.specs.lists.Items.{AreItemsOf}
use Rattle.depot_graph.specs.Kept.{updates_in}
use Rattle.depot_model.specs.updates.Order.{prevs}
use Rattle.depot_scenario.proofs.known_updates.KnownUpdates.parent_items.Given as goal

abbrev pub invariant-loop-dep : goal.invariant-loop-dep
invariant-loop-dep l = AreItemsOf (updates_in l.self.graph.items.entries) (prevs l.fn.update ++ map (λ d. d.id) (take l.dep-index l.fn.update.deps)) l.items.items
