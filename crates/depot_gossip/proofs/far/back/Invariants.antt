use Rattle.std.proofs.Common.{◌≡◌, ◌-◌, ◌<◌, length}
use Rattle.depot_graph.specs.Kept.{prev_places, updates_in}
use Rattle.depot_gossip.specs.FarHellos.{back}
use Rattle.depot_gossip.proofs.far.back.Given as goal

abbrev pub invariant-loop : goal.invariant-loop
invariant-loop l = record {
  same : back (prev_places (updates_in l.graph.items.entries)) (l.steps - l.counter) l.at ≡ back (prev_places (updates_in l.graph.items.entries)) l.steps l.item;
  inside : l.at < length (updates_in l.graph.items.entries);
}
