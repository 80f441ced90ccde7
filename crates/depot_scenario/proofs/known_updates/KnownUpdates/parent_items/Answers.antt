use Rattle.std.proofs.Common.{List, ap, ◌∙◌, get_or, length, arith}
use Rattle.depot_base.specs.declared.update.Dep.{Dep}
use Rattle.depot_graph.specs.Kept.{updates_in}
use Rattle.depot_scenario.proofs.SeenUpdates.{entry_seen}
use Rattle.depot_scenario.proofs.known_updates.KnownUpdates.parent_items.Goals as goal

pub item-requires : goal.item-requires
item-requires c =
    let d = c.dep-item.result in
    let i = c.loop-dep.dep-index in
    entry_seen (updates_in c.args.self.now.graph.items.entries) c.args.update.now i d c.requires (omega (arith, ap (λ (ds : List Dep). length ds) c.as_slice-dep-items.ensures, c.loop-dep-test.true))
    (c.dep-item.is ∙ ap (λ (ds : List Dep). get_or ds i d) c.as_slice-dep-items.ensures)
