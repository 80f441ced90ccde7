use Rattle.std.proofs.Common.{◌≡◌, List, ℕ, length, sym, ap, subst, ◌∙◌}
use Rattle.depot_model.specs.lists.Items.{places_of}
use Rattle.depot_order.specs.Spots.{chain_count}
use Rattle.depot_graph.specs.Kept.{updates_in, prev_places}
use Rattle.depot_graph.specs.UpdateRows.{IsJoinedRow}
use Rattle.depot_readings.proofs.AcceptPlaceLaws.{as_many_places}
use Rattle.depot_queries.proofs.BesidePlaces.{candidates_are}
use Rattle.depot_queries.proofs.candidate_places.candidates.Goals as goal

pub lacked-requires-clause-beside : goal.lacked-requires-clause-beside
lacked-requires-clause-beside g c =
    ap length c.places.ensures ∙ as_many_places c.args.readings.now.records ∙ ap length (c.state.ensures.state.accepted ∙ sym c.graph-graph.ensures)

pub lacked-requires-clause-row : goal.lacked-requires-clause-row
lacked-requires-clause-row g c =
    let us = updates_in c.graph-graph.result.now.items.entries in
    subst (λ (ns : List ℕ). length ns ≡ chain_count (prev_places us)) (sym c.as_slice-3.ensures.value) c.in_ok-row.ensures.long

pub returns : goal.returns
returns g c =
    let us = updates_in c.graph-graph.result.now.items.entries in
    let named = c.as_slice-2.ensures.value ∙ c.in_ok-covering.ensures.items ∙ ap (places_of us) c.as_slice.ensures in
    let joined = subst (IsJoinedRow us (places_of us c.args.leaves.now)) (sym c.as_slice-3.ensures.value) (subst (λ (ns : List ℕ). IsJoinedRow us ns c.in_ok-row.row.items) named c.in_ok-row.ensures) in
    candidates_are c.args.readings.now.records us c.places.result.now c.as_slice-3.result.now c.args.leaves.now c.args.reader c.lacked.result (c.state.ensures.state.accepted ∙ sym c.graph-graph.ensures) c.places.ensures joined c.lacked.ensures
