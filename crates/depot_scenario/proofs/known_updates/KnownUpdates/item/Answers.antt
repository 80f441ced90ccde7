use Rattle.std.proofs.Common.{sym, ◌∙◌}
use Rattle.depot_graph.specs.Kept.{updates_in}
use Rattle.depot_scenario.proofs.SeenUpdates.{has_item}
use Rattle.depot_scenario.proofs.known_updates.KnownUpdates.item.Goals as goal

pub unreachable-requires : goal.unreachable-requires
unreachable-requires c = has_item (updates_in c.args.self.now.graph.items.entries) c.args.id.now c.requires (sym c.find.ensures ∙ c.in-None.is)
