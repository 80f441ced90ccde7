use Rattle.depot_graph.specs.Kept.{updates_in}
use Rattle.depot_graph.proofs.Leaving.{AreUnseen}
use Rattle.depot_graph.proofs.history.unseen_of.Given as goal

abbrev pub invariant-loop-item : goal.invariant-loop-item
invariant-loop-item l = AreUnseen (updates_in l.graph.items.entries) l.items l.me l.last l.unseen.items l.item-index
