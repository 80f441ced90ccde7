use Rattle.std.proofs.Common.{◌≡◌, ◌-◌, ◌^◌, ◌<◌, ◌++◌, length}
use Rattle.depot_graph.specs.Kept.{prev_places, updates_in}
use Rattle.depot_gossip.specs.FarHellos.{far_behind}
use Rattle.depot_gossip.proofs.far.add_far.Given as goal

abbrev pub invariant-loop : goal.invariant-loop
invariant-loop l = record {
  same : l.items.items ++ far_behind (prev_places (updates_in l.graph.items.entries)) (17 - l.counter) l.steps l.at ≡ l.initial.items.items ++ far_behind (prev_places (updates_in l.graph.items.entries)) 17 1 l.item;
  inside : l.at < length (updates_in l.graph.items.entries);
  doubled : l.steps ≡ 2 ^ l.counter;
}
