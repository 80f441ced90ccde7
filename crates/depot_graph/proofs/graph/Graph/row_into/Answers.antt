use Rattle.std.proofs.Common.{[]}
use Rattle.depot_graph.specs.Causal.{causal_from_test}
use Rattle.depot_graph.specs.Kept.{updates_in}
use Rattle.depot_graph.proofs.ClockedUpdates.{item_low}
use Rattle.depot_graph.proofs.RowsOfUpdates.{row_counts, row_many, row_long}
use Rattle.depot_graph.proofs.graph.Graph.row_into.Goals as goal

pub row_into-requires-clause-item : goal.row_into-requires-clause-item
row_into-requires-clause-item c =
    let self = c.args.self.now in
    let us = updates_in self.items.entries in
    item_low us self.clocks c.args.item (causal_from_test [] us self.causal) self.clocked c.requires.item

pub row_into-requires-clause-row : goal.row_into-requires-clause-row
row_into-requires-clause-row c =
    let self = c.args.self.now in
    let us = updates_in self.items.entries in
    row_long us self.clocks c.args.row.now (causal_from_test [] us self.causal) self.clocked c.requires.row

pub returns-clause-many : goal.returns-clause-many
returns-clause-many c =
    let self = c.args.self.now in
    let us = updates_in self.items.entries in
    row_many us (causal_from_test [] us self.causal) c.args.item c.requires.item self.clocks c.row_into.new.row self.clocked c.row_into.ensures.many

pub returns-clause-counts : goal.returns-clause-counts
returns-clause-counts c =
    let self = c.args.self.now in
    let us = updates_in self.items.entries in
    row_counts us (causal_from_test [] us self.causal) c.args.item c.requires.item self.clocks c.row_into.new.row self.clocked c.row_into.ensures.counts
