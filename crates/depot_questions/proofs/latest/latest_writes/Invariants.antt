use Rattle.std.proofs.Common.{◌≡◌, take}
use Rattle.std.specs.List.{flat_map}
use Rattle.depot_graph.specs.Kept.{updates_in}
use Rattle.depot_model.specs.lists.Items.{updates_at}
use Rattle.depot_questions.specs.Answers.{write_told}
use Rattle.depot_questions.proofs.latest.latest_writes.Given as goal

abbrev pub invariant-loop-item : goal.invariant-loop-item
invariant-loop-item g l = l.list ≡ flat_map (write_told (g.N.NodeState.records l.node) l.key) (updates_at (updates_in l.graph.items.entries) (take l.item-index l.item-items))
