use Rattle.std.proofs.Common.{[], ◌<◌, length}
use Rattle.depot_model.proofs.lists.Members.{all_from}
use Rattle.depot_graph.specs.Causal.{causal_from_test}
use Rattle.depot_graph.specs.Kept.{updates_in}
use Rattle.depot_graph.proofs.Leaving.{hash_of_all}
use Rattle.depot_graph.proofs.ChainLeaves.{leaf_within}
use Rattle.depot_graph.proofs.history.summary.Goals as goal

pub sorted-requires : goal.sorted-requires
sorted-requires c =
    let us = updates_in c.args.graph.now.items.entries in
    all_from (λ item. item < length us) c.leaves.result.now (λ n on. leaf_within us c.leaves.result.now n c.leaves.ensures on)

pub returns : goal.returns
returns c =
    let us = updates_in c.args.graph.now.items.entries in
    hash_of_all us c.leaves.result.now c.in_ok-leaves.leaves.keys c.hash_of_rows.result (causal_from_test [] us c.args.graph.now.causal) c.leaves.ensures c.hash_of_rows.ensures c.in_ok-leaves.ensures
