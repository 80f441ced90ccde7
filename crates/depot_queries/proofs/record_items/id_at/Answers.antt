use Rattle.std.proofs.Common.{[], ◌∷◌, List, ℕ, map, sym, ap, ◌∙◌}
use Rattle.depot_model.specs.texts.Texts.{id_of_update}
use Rattle.depot_graph.specs.Kept.{updates_in}
use Rattle.depot_queries.proofs.RecordItems.{item_within, item_update}
use Rattle.depot_queries.proofs.record_items.id_at.Goals as goal

pub id-requires : goal.id-requires
id-requires g c = item_within c.args.readings.now.records (updates_in c.graph.result.now.items.entries) c.args.place c.in-Some.item c.item_at.result (c.state.ensures.state.accepted ∙ sym c.graph.ensures) c.item_at.ensures c.in-Some.is

pub returns-in-Some : goal.returns-in-Some
returns-in-Some g c =
    ap (λ (id : List ℕ). id ∷ []) (sym c.id.ensures.1.1)
    ∙ ap (map id_of_update) (item_update c.args.readings.now.records (updates_in c.graph.result.now.items.entries) c.args.place c.in-Some.item c.item_at.result c.id.ensures.0 (c.state.ensures.state.accepted ∙ sym c.graph.ensures) c.item_at.ensures c.in-Some.is c.id.ensures.1.0)
