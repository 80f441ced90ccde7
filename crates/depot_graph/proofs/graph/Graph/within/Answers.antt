use Rattle.std.proofs.Common.{[]}
use Rattle.depot_graph.specs.Causal.{causal_from_test}
use Rattle.depot_graph.specs.Kept.{updates_in}
use Rattle.depot_graph.proofs.ClockedUpdates.{item_low}
use Rattle.depot_graph.proofs.RowsOfUpdates.{row_long, within_rows, within_counts}
use Rattle.depot_graph.proofs.graph.Graph.within.Goals as goal

pub within-requires-clause-item : goal.within-requires-clause-item
within-requires-clause-item c =
    let self = c.args.self.now in
    let us = updates_in self.items.entries in
    item_low us self.clocks c.args.item (causal_from_test [] us self.causal) self.clocked c.requires.item

pub within-requires-clause-row : goal.within-requires-clause-row
within-requires-clause-row c =
    let self = c.args.self.now in
    let us = updates_in self.items.entries in
    row_long us self.clocks c.args.row.now (causal_from_test [] us self.causal) self.clocked c.requires.row

pub returns-clause-rows : goal.returns-clause-rows
returns-clause-rows c =
    let self = c.args.self.now in
    let us = updates_in self.items.entries in
    within_rows us (causal_from_test [] us self.causal) c.args.item c.requires.item self.clocks c.args.row.now c.within.result self.clocked c.within.ensures.rows

pub returns-clause-counts : goal.returns-clause-counts
returns-clause-counts c =
    let self = c.args.self.now in
    let us = updates_in self.items.entries in
    within_counts us (causal_from_test [] us self.causal) c.args.item c.requires.item self.clocks c.args.row.now c.within.result self.clocked c.within.ensures.counts
