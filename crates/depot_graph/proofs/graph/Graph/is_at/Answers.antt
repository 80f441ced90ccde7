use Rattle.std.proofs.Common.{◌∙◌, sym, ap, List, [], ℕ}
use Rattle.std.proofs.lemmas.Slice.Eq.{bytes_eq-Decides}
use Rattle.depot_model.specs.lists.Items.{place_of_id}
use Rattle.depot_graph.specs.Causal.{causal_from_test}
use Rattle.depot_graph.specs.Kept.{updates_in}
use Rattle.depot_graph.proofs.ItemPlaces.{own_place}
use Rattle.depot_graph.proofs.graph.Graph.is_at.Goals as goal

pub returns-then-item-count : goal.returns-then-item-count
returns-then-item-count c = λ same.
    let us = updates_in c.args.self.now.items.entries in
    let here = c.id.ensures in
    let named = here.1.1 ∙ (bytes_eq-Decides c.id.result.now c.args.id.now).0 (sym c.eq.ensures ∙ same) in
    sym (ap (λ (h : List ℕ). place_of_id h us) named) ∙ own_place us c.args.item here.0 (causal_from_test [] us c.args.self.now.causal) here.1.0
