use Rattle.std.proofs.Common.{◌≡◌, map, take}
use Rattle.depot_gossip.proofs.choose.ids_of.Given as goal

abbrev pub invariant-loop-leaf : goal.invariant-loop-leaf
invariant-loop-leaf l = l.ids ≡ map (λ leaf. leaf.id) (take l.leaf-index l.leaves)
