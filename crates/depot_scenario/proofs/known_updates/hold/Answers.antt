use Rattle.std.proofs.Common.{[], ◌∷◌, ◌++◌, sym, ap, subst, ◌∙◌}
use Rattle.depot_base.specs.declared.update.Update.{Update}
use Rattle.depot_graph.specs.Causal.{causal_from_test}
use Rattle.depot_graph.specs.Kept.{updates_in}
use Rattle.depot_model.specs.updates.Order.{IsCausal}
use Rattle.depot_scenario.proofs.SeenUpdates.{fits_behind, seen_already, seen_more}
use Rattle.depot_scenario.proofs.known_updates.hold.Goals as goal

pub returns-then-is_some-clause-ok : goal.returns-then-is_some-clause-ok
returns-then-is_some-clause-ok c =
    seen_already (updates_in c.args.graph.now.items.entries) c.args.update.now c.args.id.now c.find.result c.requires.id c.find.ensures (sym c.is_some.ensures ∙ c.if-is_some.true)

pub add_uncounted-requires-clause-fits : goal.add_uncounted-requires-clause-fits
add_uncounted-requires-clause-fits c =
    let us = updates_in c.args.graph.now.items.entries in
    subst (λ (u : Update). IsCausal [] (us ++ u ∷ [])) (sym c.in_ok-copy.ensures)
    (fits_behind us c.args.update.now c.args.id.now c.find.result (causal_from_test [] us c.args.graph.now.causal) c.requires.parents c.requires.id c.find.ensures (sym c.is_some.ensures ∙ c.if-is_some.false))

pub returns-clause-ok : goal.returns-clause-ok
returns-clause-ok c =
    let us = updates_in c.args.graph.now.items.entries in
    c.in_ok-add_uncounted.ensures.added ∙ ap (λ (u : Update). us ++ u ∷ []) c.in_ok-copy.ensures
    ∙ seen_more us c.args.update.now c.args.id.now c.find.result c.requires.id c.find.ensures (sym c.is_some.ensures ∙ c.if-is_some.false)
