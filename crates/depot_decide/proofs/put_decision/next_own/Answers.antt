use Rattle.std.proofs.Common.{ap, arith, ◌∙◌}
use Rattle.depot_model.specs.checks.Checks.{Setting}
use Rattle.depot_graph.specs.Kept.{updates_in}
use Rattle.depot_laws.proofs.orders.Clocks.{clocks_within}
use Rattle.depot_laws.proofs.own_updates.OwnTexts.{lawful_is_short}
use Rattle.depot_readings.specs.ReadingsView.{standing}
use Rattle.depot_decide.proofs.NextOwn.{AreEntryItems, entry_items, few_entry_items, as_many_deps, as_many_entries, next_own_is}
use Rattle.depot_decide.proofs.put_decision.next_own.Given.{Over}
use Rattle.depot_decide.proofs.put_decision.next_own.Goals as goal
use Rattle.depot_decide.proofs.put_decision.next_own.Goals.{After-as_slice-items}

-- the items that are found are those of the next own update's entries
items_are : (g : Over) (c : After-as_slice-items g) → AreEntryItems c.args.readings.now.me c.args.readings.now.records (updates_in c.graph-graph.result.now.items.entries) c.as_slice-items.result.now
items_are g c =
    entry_items g.S.Scheme.verifies c.args.readings.now c.state-state.result.now c.totals-totals.result.now _ c.me.result c.item_of-last.result c.in_ok-items.items c.as_slice-items.result.now
    c.state-state.ensures.state c.state-state.ensures.stands c.totals-totals.ensures c.graph-graph.ensures c.me.ensures c.item_of-last.ensures.item c.in_ok-items.ensures.entries c.in_ok-items.ensures.items c.as_slice-items.ensures

pub overflow_cast-result : goal.overflow_cast-result
overflow_cast-result g c =
    let few = few_entry_items (standing g.S.Scheme.verifies c.args.readings.now) c.args.readings.now.records _ c.as_slice-items.result.now c.state-state.ensures.lawful (items_are g (goal.at.overflow_cast-result g c).After-as_slice-items) in
    omega (arith, few)

pub returns-then-items-clause-wide : goal.returns-then-items-clause-wide
returns-then-items-clause-wide g c = (
  as_many_entries c.args.readings.now.me c.args.readings.now.records c.args.writes _ c.as_slice-items.result.now (items_are g (goal.at.returns-then-items-clause-wide g c).After-as_slice-items),
  c.if-items.true,
)

pub overflow_add-result : goal.overflow_add-result
overflow_add-result g c =
    let here = standing g.S.Scheme.verifies c.args.readings.now in
    omega (arith, c.totals-totals.ensures.clock, clocks_within here c.args.readings.now.records c.state-state.ensures.lawful, lawful_is_short here c.args.readings.now.records c.state-state.ensures.lawful)

pub returns-clause-next : goal.returns-clause-next
returns-clause-next g c =
    next_own_is c.args.readings.now.me c.args.readings.now.records c.args.writes _ c.as_slice-items.result.now c.totals-totals.result.now _ _ _ c.totals-totals.ensures (items_are g (goal.at.returns-clause-next g c).After-as_slice-items)
    (c.me-2.ensures ∙ ap (λ (s : Setting). s.me) c.state-state.ensures.stands) c.in_ok-deps.ensures c.in_ok-history.ensures

pub returns-clause-narrow : goal.returns-clause-narrow
returns-clause-narrow g c =
    let few = as_many_deps _ c.in_ok-items.items c.as_slice-items.result.now c.in_ok-deps.deps c.in_ok-items.ensures.items c.as_slice-items.ensures c.in_ok-deps.ensures in
    omega (arith, few, c.if-items.false)
