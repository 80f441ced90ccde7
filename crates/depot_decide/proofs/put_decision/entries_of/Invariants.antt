use Rattle.std.proofs.Common.{◌≡◌, map, take}
use Rattle.depot_model.specs.checks.Own.{entry_of}
use Rattle.depot_graph.specs.Kept.{updates_in}
use Rattle.depot_model.specs.lists.Items.{updates_at}
use Rattle.depot_decide.proofs.put_decision.entries_of.Given as goal

abbrev pub invariant-loop-item : goal.invariant-loop-item
invariant-loop-item l = l.deps ≡ map entry_of (updates_at (updates_in l.graph.items.entries) (take l.item-index l.items))
