use Rattle.std.proofs.Common.{[], ◌<◌, length, get_or}
use Rattle.std.proofs.lemmas.Option.{slice_get-get_or}
use Rattle.depot_model.proofs.lists.Elements.{each_at}
use Rattle.depot_graph.specs.Causal.{causal_from_test}
use Rattle.depot_graph.specs.Kept.{updates_in}
use Rattle.depot_graph.proofs.ClockedUpdates.{item_low}
use Rattle.depot_graph.proofs.RowsOfUpdates.{joined_row_if}
use Rattle.depot_graph.proofs.graph.Graph.joined_row.Goals as goal

pub joined-requires : goal.joined-requires
joined-requires c = λ k d low.
    let self = c.args.self.now in
    let us = updates_in self.items.entries in
    let ms = c.args.items.now in
    item_low us self.clocks (get_or ms k d) (causal_from_test [] us self.causal) self.clocked (each_at (λ item. item < length us) ms k (get_or ms k d) c.requires (slice_get-get_or ms k d low))

pub returns : goal.returns
returns c =
    let self = c.args.self.now in
    let us = updates_in self.items.entries in
    let ms = c.args.items.now in
    joined_row_if us self.clocks ms (λ v. v.items) c.joined.result (causal_from_test [] us self.causal) self.clocked (λ k low. each_at (λ item. item < length us) ms k (get_or ms k 0) c.requires (slice_get-get_or ms k 0 low)) c.joined.ensures.joined
