use Rattle.std.proofs.Common.{[], ◌∙◌, ap, List, ℕ, map}
use Rattle.depot_model.specs.updates.History.{by_id}
use Rattle.depot_graph.specs.Causal.{causal_from_test}
use Rattle.depot_graph.specs.Kept.{updates_in}
use Rattle.depot_graph.specs.PastLeaves.{leaf_in, updates_at_places}
use Rattle.depot_graph.proofs.Leaving.{hash_of_past}
use Rattle.depot_graph.proofs.ChainLeaves.{last_are_leaves}
use Rattle.depot_graph.proofs.history.history_of_row.Goals as goal

pub returns : goal.returns
returns c = λ items joined.
    let us = updates_in c.args.graph.now.items.entries in
    let found = c.in_ok-items.items.items in
    let causal = causal_from_test [] us c.args.graph.now.causal in
    hash_of_past us items found c.in_ok-leaves.leaves.keys c.hash_of_rows.result causal (last_are_leaves us items found causal (c.in_ok-items.ensures.leaves items joined)) c.hash_of_rows.ensures
    (c.in_ok-leaves.ensures ∙ ap (λ (ns : List ℕ). map (leaf_in us) (by_id (updates_at_places us ns))) c.as_slice.ensures.value)
