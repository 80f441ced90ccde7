use Rattle.std.proofs.Common.{◌≡◌, ◌<◌, ◌+◌, ◌∙◌, ℕ, List, [], ◌∷◌, ◌++◌, length, take, arith, sym, ap, subst}
use Rattle.std.specs.List.{filter}
use Rattle.std.proofs.lemmas.List.{append-nil}
use Rattle.depot_base.specs.declared.update.Update.{Update}
use Rattle.depot_base.proofs.GeneralLaws.{at_place}
use Rattle.depot_model.specs.exchange.Bundle.{is_covered}
use Rattle.depot_model.specs.lists.Items.{places_of}
use Rattle.depot_model.specs.lists.Lists.{IsIn}
use Rattle.depot_model.specs.updates.Order.{IsCausal}
use Rattle.depot_model.proofs.lists.Elements.{in_at}
use Rattle.depot_graph.specs.Causal.{causal_from_test}
use Rattle.depot_graph.specs.Kept.{updates_in}
use Rattle.depot_graph.specs.UpdateRows.{IsJoinedRow}
use Rattle.depot_graph.proofs.CoveredItems.{row_counts_covered}
use Rattle.depot_laws.proofs.own_updates.OwnTexts.{accepted_fit}
use Rattle.depot_trim.specs.Trimmings.{ids_in}
use Rattle.depot_trim.proofs.BelowLaws.{below_fits, fewer_below, few_items, next_fits}
use Rattle.depot_trim.proofs.SoFar.{filter_next}
use Rattle.depot_trim.proofs.below.graph_below.Goals as goal
use Rattle.depot_trim.proofs.below.graph_below.Goals.{then-within+in_ok-add_item, else-within}

pub add_item-requires-clause-text : goal.add_item-requires-clause-text
add_item-requires-clause-text c = λ u at.
    let l = c.requires.1.1 in
    accepted_fit c.requires.0 c.requires.1.0 u l.0 (subst (λ (xs : List Update). IsIn u xs) (sym l.1) (in_at (updates_in c.args.graph.now.items.entries) c.loop-item.item u at))

pub add_item-requires-clause-fits : goal.add_item-requires-clause-fits
add_item-requires-clause-fits c = λ u at.
    let us = updates_in c.args.graph.now.items.entries in
    let ids = ids_in c.args.leaves.now in
    let l = c.requires.1.1 in
    let named = c.as_slice.ensures.value ∙ c.in_ok-items.ensures.items in
    let joined = subst (λ (ns : List ℕ). IsJoinedRow us (places_of us ids) ns) (sym c.as_slice-in-loop-item.ensures.value) (subst (λ (ns : List ℕ). IsJoinedRow us ns c.in_ok-row.row.items) named c.in_ok-row.ensures) in
    let covered = row_counts_covered us ids c.as_slice-in-loop-item.result.now c.loop-item.item u (causal_from_test [] us c.args.graph.now.causal) at joined c.within.result c.within.ensures.counts ∙ c.if-within.true in
    subst (λ (xs : List Update). IsCausal [] (xs ++ u ∷ [])) (sym c.loop-item.invariant) (next_fits (is_covered us ids) us c.loop-item.item u (below_fits c.requires.0 c.requires.1.0 ids us l.0 l.1) at covered)

pub add_item-requires-clause-room : goal.add_item-requires-clause-room
add_item-requires-clause-room c =
    let us = updates_in c.args.graph.now.items.entries in
    let within : c.loop-item.item < length us = omega (arith, c.loop-item-test.true, c.count-item-end.ensures) in
    let u = at_place us c.loop-item.item within in
    few_items c.args.graph.now.items.entries (length (updates_in c.loop-item.below.items.entries)) c.args.graph.now.counted
    (subst (λ (xs : List Update). length xs < length us) (sym c.loop-item.invariant) (fewer_below (is_covered us (ids_in c.args.leaves.now)) us c.loop-item.item u.0 u.1))

pub loop-item-preserved : goal.loop-item-preserved
loop-item-preserved c =
    let us = updates_in c.args.graph.now.items.entries in
    let ids = ids_in c.args.leaves.now in
    let test = is_covered us ids in
    let i = c.loop-item.item in
    let within : i < length us = omega (arith, c.loop-item-test.true, c.count-item-end.ensures) in
    let u = at_place us i within in
    let named = c.as_slice.ensures.value ∙ c.in_ok-items.ensures.items in
    let joined = subst (λ (ns : List ℕ). IsJoinedRow us (places_of us ids) ns) (sym c.as_slice-in-loop-item.ensures.value) (subst (λ (ns : List ℕ). IsJoinedRow us ns c.in_ok-row.row.items) named c.in_ok-row.ensures) in
    let told = row_counts_covered us ids c.as_slice-in-loop-item.result.now i u.0 (causal_from_test [] us c.args.graph.now.causal) u.1 joined c.within.result c.within.ensures.counts in
    elim c.if-within.branch as (λ _. updates_in c.if-within.below.items.entries ≡ filter test (take (i + 1) us)) [
      | then-within+in_ok-add_item w ↦
          ap (λ g. updates_in g.items.entries) w.below-is ∙ w.in_ok-add_item.ensures u.0 u.1 ∙ ap (λ (xs : List Update). xs ++ u.0 ∷ []) c.loop-item.invariant ∙ sym (filter_next test us i u.0 _ u.1 (told ∙ w.if-within.true))
      | else-within w ↦
          ap (λ g. updates_in g.items.entries) w.below-is ∙ c.loop-item.invariant ∙ sym (filter_next test us i u.0 _ u.1 (told ∙ w.if-within.false) ∙ append-nil (filter test (take i us)))
    ]
