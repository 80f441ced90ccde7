use Rattle.std.proofs.Common.{[], ◌∙◌, ap, refl, get_or}
use Rattle.std.specs.BTreeSet.{insert_key}
use Rattle.depot_graph.specs.Causal.{causal_from_test}
use Rattle.depot_graph.specs.Kept.{updates_in}
use Rattle.depot_graph.specs.declared.leaf.Leaf.{Leaf}
use Rattle.depot_graph.proofs.Sorting.{leaf_cmp, sort_begins, sort_more}
use Rattle.depot_graph.proofs.history.sorted.Goals as goal

pub loop-item-init : goal.loop-item-init
loop-item-init c = sort_begins (updates_in c.args.graph.now.items.entries) c.new-leaves.result.keys c.new-leaves.ensures.empty

pub loop-item-preserved : goal.loop-item-preserved
loop-item-preserved c =
    let us = updates_in c.args.graph.now.items.entries in
    let made = c.leaf_at.ensures in
    sort_more us c.args.items.now c.loop-item.item-index (get_or c.args.items.now c.loop-item.item-index 0) made.0 c.loop-item.leaves.keys c.insert.new.self.keys (causal_from_test [] us c.args.graph.now.causal) c.loop-item-test.true refl made.1.0 c.loop-item.invariant
    (c.in_ok-insert.ensures.keys ∙ ap (λ (l : Leaf). insert_key leaf_cmp c.loop-item.leaves.keys l) made.1.1)
