use Rattle.std.proofs.Common.{Ok, ◌∙◌, rules}
use Rattle.std.proofs.lemmas.Iterator.{YieldsList-from_map, items_from_collect}
use Rattle.std.proofs.lemmas.Iterator.Consumers.{YieldsList-from_rest}
use Rattle.depot_queries.specs.ItemPlaces.{name_of}
use Rattle.depot_queries.proofs.leaf_order.names_of.Goals as goal

pub returns : goal.returns
returns c =
    let named = items_from_collect {E = Unit {0}} (Ok c.in_ok-names.names) c.in_ok-names.ensures.ran (YieldsList-from_map _ name_of (YieldsList-from_rest c.args.leaves.now.keys (cc)) c.map.ensures.closure (λ x r q k. search rules)) in
    c.from_vec.ensures ∙ named
