use Rattle.std.proofs.Common.{ℕ, List, Ok, sym, ap, subst, ◌∙◌}
use Rattle.std.specs.Prelude.{Option}
use Rattle.depot_base.specs.declared.check.Check.{Check}
use Rattle.depot_model.specs.checks.Checks.{sight}
use Rattle.depot_model.specs.updates.Order.{parents}
use Rattle.depot_graph.specs.Kept.{updates_in}
use Rattle.depot_graph.specs.UpdateRows.{IsJoinedRow}
use Rattle.depot_graph.proofs.ItemPlaces.{places_within}
use Rattle.depot_accept.proofs.ContentOrder.{fails_missing, fails_by_parents, fails_last}
use Rattle.depot_accept.proofs.content.check_content.Goals as goal

pub returns-in-Some : goal.returns-in-Some
returns-in-Some c = fails_missing c.args.update.now (sight (updates_in c.args.graph.now.items.entries) c.args.update.now) c.in-Some.check (sym (sym c.in-Some.is ∙ c.in_ok-check.ensures.first))

pub returns-in-Some-failed_by_parents : goal.returns-in-Some-failed_by_parents
returns-in-Some-failed_by_parents c =
    let u = c.args.update.now in
    fails_by_parents u (sight (updates_in c.args.graph.now.items.entries) u) c.in-Some-failed_by_parents.check (sym (sym c.in_default.is ∙ c.in_ok-check.ensures.first)) (sym c.in-Some-failed_by_parents.ensures)

pub joined_row-requires : goal.joined_row-requires
joined_row-requires c =
    rw c.as_slice-2.ensures.value (places_within (updates_in c.args.graph.now.items.entries) (parents c.args.update.now) c.find_parents.new.items.items (c.find_parents.ensures.places (c.in_ok-check.was ∙ ap (λ (o : Option Check). Ok o) c.in_default.is)))

pub returns-in-Some-2 : goal.returns-in-Some-2
returns-in-Some-2 c =
    let u = c.args.update.now in
    let seen = sight (updates_in c.args.graph.now.items.entries) u in
    sym (fails_last u seen (sym (sym c.in_default.is ∙ c.in_ok-check.ensures.first)) (sym c.in_default-failed_by_parents.ensures)) ∙ sym c.in_ok-check-2.ensures ∙ c.in-Some-2.is

pub returns-in-None : goal.returns-in-None
returns-in-None c =
    let us = updates_in c.args.graph.now.items.entries in
    let u = c.args.update.now in
    let seen = sight us u in (
      sym (fails_last u seen (sym (sym c.in_default.is ∙ c.in_ok-check.ensures.first)) (sym c.in_default-failed_by_parents.ensures)) ∙ sym c.in_ok-check-2.ensures ∙ c.in-None.is,
      (
        c.find_parents.ensures.places (c.in_ok-check.was ∙ ap (λ (o : Option Check). Ok o) c.in_default.is),
        subst (λ (ns : List ℕ). IsJoinedRow us ns c.in_ok-row.row.items) c.as_slice-2.ensures.value c.in_ok-row.ensures,
      ),
    )
