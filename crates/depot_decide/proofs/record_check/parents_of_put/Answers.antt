use Rattle.std.proofs.Common.{◌≡◌, ◌↔◌, IsTrue, map, sym, ◌∙◌}
use Rattle.std.proofs.lemmas.Result.{err_from_is_err_and}
use Rattle.depot_model.specs.checks.Own.{leaf_count, write_of, changes_of}
use Rattle.depot_readings.specs.ReadingsView.{standing}
use Rattle.depot_decide.proofs.PutLaws.{leaf_left}
use Rattle.depot_decide.proofs.RecordChecks.{told_of, may_put, other_values, other_next, stale_id, wide_put}
use Rattle.depot_decide.proofs.record_check.parents_of_put.Given.{Over}
use Rattle.depot_decide.proofs.record_check.parents_of_put.Goals as goal
use Rattle.depot_decide.proofs.record_check.parents_of_put.Goals.{After-are_values_of}

-- whether the values are those of the writes
told : (g : Over) (c : After-are_values_of g) → IsTrue c.are_values_of.result ↔ (c.args.update.now.writes ≡ map write_of (changes_of c.args.update.now.writes c.args.values.now))
told g c = told_of c.as_slice.result.now c.args.update.now.writes c.as_slice-2.result.now c.args.values.now c.are_values_of.result c.as_slice.ensures c.as_slice-2.ensures c.are_values_of.ensures

pub returns-clause-may : goal.returns-clause-may
returns-clause-may g c =
    let leaf = leaf_left c.args.readings.now.records c.totals.result.now.own (leaf_count c.args.readings.now.listed c.args.readings.now.me) c.has_leaf.result c.totals.ensures.own c.has_leaf.ensures c.if-not-has_leaf.false in
    may_put (standing g.S.Scheme.verifies c.args.readings.now) c.args.readings.now.records c.args.update.now c.in_ok-next.next.update _ c.args.values.now c.args.id.now
    (c.is_same.ensures.0 c.if-not-is_same.false)
    c.in_ok-next.ensures.next
    c.in_ok-copy.ensures
    ((told g (goal.at.returns-clause-may g c).After-are_values_of).0 c.if-not-are_values_of.false)
    leaf
    c.in_ok-next.ensures.narrow
    c.requires.id
    ((c.is_fresh.ensures c.args.readings.now.records (c.state.ensures.state.accepted ∙ sym c.graph.ensures)).0 c.if-not-is_fresh.false)

pub returns-then-not-are_values_of-clause-refused : goal.returns-then-not-are_values_of-clause-refused
returns-then-not-are_values_of-clause-refused g c =
    other_values (standing g.S.Scheme.verifies c.args.readings.now) c.args.readings.now.records c.args.update.now c.args.values.now c.are_values_of.result c.requires.place
    (told g (goal.at.returns-then-not-are_values_of-clause-refused g c).After-are_values_of) c.if-not-are_values_of.true

pub returns-in_err-next-clause-refused : goal.returns-in_err-next-clause-refused
returns-in_err-next-clause-refused g c =
    let p = err_from_is_err_and c.from_residual-in_err-next.result c.from_residual-in_err-next.ensures.1 in
    rw (p.1, p.2) (wide_put (standing g.S.Scheme.verifies c.args.readings.now) c.args.readings.now.records c.args.update.now _ c.args.values.now c.in_err-next.field-0.0 c.requires.place c.in_ok-copy.ensures c.in_err-next.ensures.wide)

pub returns-then-not-is_same-clause-refused : goal.returns-then-not-is_same-clause-refused
returns-then-not-is_same-clause-refused g c =
    other_next (standing g.S.Scheme.verifies c.args.readings.now) c.args.readings.now.records c.args.update.now c.in_ok-next.next.update _ c.args.values.now c.is_same.result c.requires.place c.is_same.ensures c.if-not-is_same.true
    c.in_ok-next.ensures.next c.in_ok-copy.ensures

pub returns-then-not-is_fresh-clause-refused : goal.returns-then-not-is_fresh-clause-refused
returns-then-not-is_fresh-clause-refused g c =
    stale_id (standing g.S.Scheme.verifies c.args.readings.now) c.args.readings.now.records c.args.update.now c.args.values.now c.args.id.now c.is_fresh.result c.requires.place c.requires.id
    (c.is_fresh.ensures c.args.readings.now.records (c.state.ensures.state.accepted ∙ sym c.graph.ensures)) c.if-not-is_fresh.true
