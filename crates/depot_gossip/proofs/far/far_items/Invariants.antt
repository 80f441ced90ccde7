use Rattle.std.proofs.Common.{◌≡◌, map, take}
use Rattle.depot_graph.specs.Kept.{updates_in}
use Rattle.depot_gossip.specs.FarHellos.{far_places}
use Rattle.depot_gossip.proofs.far.far_items.Given as goal

abbrev pub invariant-loop-leaf : goal.invariant-loop-leaf
invariant-loop-leaf l = take l.most l.items.items ≡ take l.most (far_places (updates_in l.graph.items.entries) (map (λ k. k.id) (take l.leaf-index l.leaves)))
