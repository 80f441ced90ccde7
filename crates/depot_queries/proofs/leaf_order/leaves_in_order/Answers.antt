use Rattle.std.proofs.Common.{◌<◌, ◌∙◌, [], length, get_or, refl, sym, ap, arith}
use Rattle.std.proofs.lemmas.Option.{slice_get-get_or}
use Rattle.depot_graph.specs.Causal.{causal_from_test}
use Rattle.depot_graph.specs.Kept.{updates_in}
use Rattle.depot_readings.proofs.AcceptPlaceLaws.{as_many_places}
use Rattle.depot_queries.proofs.LeafInserts.{leaf_inside, leaves_begin, leaves_more, leaves_end}
use Rattle.depot_queries.proofs.leaf_order.leaves_in_order.Goals as goal

pub loop-item-init : goal.loop-item-init
loop-item-init g c = leaves_begin c.args.readings.now.records (updates_in c.graph-graph.result.now.items.entries) c.new-leaves.result.keys c.new-leaves.ensures.empty

pub bounds-places-item : goal.bounds-places-item
bounds-places-item g c =
    let us = updates_in c.graph-graph.result.now.items.entries in
    let all = c.state.ensures.state.accepted ∙ sym c.graph-graph.ensures in
    omega (arith, leaf_inside us c.leaves-items.result.now c.loop-item.item-index c.leaves-items.ensures c.loop-item-test.true, ap length c.places-places.ensures, as_many_places c.args.readings.now.records, ap length all)

pub leaf_at-requires : goal.leaf_at-requires
leaf_at-requires g c = leaf_inside (updates_in c.graph-graph.result.now.items.entries) c.leaves-items.result.now c.loop-item.item-index c.leaves-items.ensures c.loop-item-test.true

pub loop-item-preserved : goal.loop-item-preserved
loop-item-preserved g c =
    let J = c.args.readings.now.records in
    let us = updates_in c.graph-graph.result.now.items.entries in
    let causal = causal_from_test [] us c.graph-graph.result.now.causal in
    let all = c.state.ensures.state.accepted ∙ sym c.graph-graph.ensures in
    let places = c.places-places.result.now in
    let items = c.leaves-items.result.now in
    let n = get_or items c.loop-item.item-index 0 in
    let within : n < length places = omega (arith, leaf_inside us items c.loop-item.item-index c.leaves-items.ensures c.loop-item-test.true, ap length c.places-places.ensures, as_many_places J, ap length all) in
    leaves_more J us places items c.loop-item.item-index n c.leaf_at.ensures.0 (get_or places n 0) c.leaf_at.result c.loop-item.leaves.keys c.insert.new.self.keys all causal c.places-places.ensures c.leaves-items.ensures.once c.loop-item-test.true refl
    c.leaf_at.ensures.1.0 (slice_get-get_or places n 0 within) c.leaf_at.ensures.1.1 c.loop-item.invariant c.in_ok-insert.ensures.keys

pub returns : goal.returns
returns g c =
    let us = updates_in c.graph-graph.result.now.items.entries in
    leaves_end c.args.readings.now.records us c.leaves-items.result.now c.loop-item.item-index c.loop-item.leaves.keys (c.state.ensures.state.accepted ∙ sym c.graph-graph.ensures) (causal_from_test [] us c.graph-graph.result.now.causal) c.leaves-items.ensures c.loop-item-test.false c.loop-item.invariant
