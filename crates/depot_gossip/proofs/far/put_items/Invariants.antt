use Rattle.std.proofs.Common.{◌≡◌, map, take}
use Rattle.depot_graph.specs.Kept.{updates_in}
use Rattle.depot_model.specs.exchange.Hello.{named_leaf}
use Rattle.depot_model.specs.lists.Items.{updates_at}
use Rattle.depot_gossip.specs.FarHellos.{put_leaves}
use Rattle.depot_gossip.proofs.far.put_items.Given as goal

abbrev pub invariant-loop-item : goal.invariant-loop-item
invariant-loop-item l = l.leaves.items ≡ put_leaves (map named_leaf (updates_at (updates_in l.graph.items.entries) (take l.item-index l.items))) l.initial.leaves.items
