use Rattle.std.proofs.Common.{[]}
use Rattle.depot_graph.specs.Causal.{causal_from_test}
use Rattle.depot_graph.specs.Kept.{updates_in}
use Rattle.depot_graph.proofs.RowsOfUpdates.{joined_row_from}
use Rattle.depot_graph.proofs.graph.Graph.keep_row.Goals as goal

pub keep_joined-requires : goal.keep_joined-requires
keep_joined-requires c =
    let self = c.args.self.now in
    let us = updates_in self.items.entries in
    joined_row_from us self.clocks c.args.items.items c.args.row.items (causal_from_test [] us self.causal) self.clocked c.requires
