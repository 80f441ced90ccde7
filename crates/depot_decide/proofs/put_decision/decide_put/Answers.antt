use Rattle.std.proofs.Common.{◌↔◌, IsTrue, sym, ◌∙◌}
use Rattle.std.proofs.lemmas.Bool.{both_ways}
use Rattle.std.proofs.lemmas.Result.{err_from_is_err_and}
use Rattle.depot_model.specs.checks.Own.{IsFresh, leaf_count}
use Rattle.depot_readings.specs.ReadingsView.{standing}
use Rattle.depot_decide.proofs.PutLaws.{spent, leaf_left, next_is, too_wide, IsMade, made_record_fits, made_text, collides, planned}
use Rattle.depot_decide.proofs.put_decision.decide_put.Given.{Over}
use Rattle.depot_decide.proofs.put_decision.decide_put.Goals as goal
use Rattle.depot_decide.proofs.put_decision.decide_put.Goals.{In_ok-next, After-is_fresh}

-- what is known of the update
made : (g : Over) (c : In_ok-next g) → IsMade (standing g.S.Scheme.verifies c.args.readings.now) c.args.readings.now.records c.in_ok-next.next.update c.args.changes c.in_ok-writes.field-0.values
made g c = record {
  lawful = c.state-state.ensures.lawful;
  some = c.requires.some;
  good = record { some = c.requires.few.0; few = c.requires.few.1; each = c.in_ok-writes.ensures.sizes; rising = c.requires.rising };
  leaf = leaf_left c.args.readings.now.records c.totals.result.now.own (leaf_count c.args.readings.now.listed c.args.readings.now.me) c.has_leaf.result c.totals.ensures.own c.has_leaf.ensures c.if-not-has_leaf.false;
  next = next_is c.args.readings.now.me c.args.readings.now.records c.in_ok-next.next.update _ c.args.changes c.in_ok-next.ensures.next c.in_ok-writes.ensures.writes;
  narrow = c.in_ok-next.ensures.narrow;
  held = c.in_ok-writes.ensures.values;
}

-- the test of its id
fresh : (g : Over) (c : After-is_fresh g) → IsTrue c.is_fresh.result ↔ IsFresh c.args.readings.now.records c.in_ok-made.made.id
fresh g c = c.is_fresh.ensures c.args.readings.now.records (c.state-state.ensures.state.accepted ∙ sym c.graph.ensures)

pub returns-then-not-has_leaf-clause-refused : goal.returns-then-not-has_leaf-clause-refused
returns-then-not-has_leaf-clause-refused g c =
    spent (standing g.S.Scheme.verifies c.args.readings.now) c.args.readings.now.records c.args.changes c.totals.result.now.own c.has_leaf.result c.totals.ensures.own c.has_leaf.ensures c.if-not-has_leaf.true

pub encode_own_put-requires : goal.encode_own_put-requires
encode_own_put-requires g c = made_record_fits (made g (goal.at.encode_own_put-requires g c).In_ok-next)

pub returns-then-not-is_fresh-clause-refused : goal.returns-then-not-is_fresh-clause-refused
returns-then-not-is_fresh-clause-refused g c =
    let at = goal.at.returns-then-not-is_fresh-clause-refused g c in
    collides (made g at.In_ok-next) c.in_ok-made.made.id c.in_ok-made.ensures.id (λ is. both_ways c.is_fresh.result c.if-not-is_fresh.true ((fresh g at.After-is_fresh).1 is))

pub put-requires-clause-text : goal.put-requires-clause-text
put-requires-clause-text g c = made_text (made g (goal.at.put-requires-clause-text g c).In_ok-next) _ c.in_ok-made.ensures.text

pub returns-clause-planned : goal.returns-clause-planned
returns-clause-planned g c =
    let at = goal.at.returns-clause-planned g c in
    planned (made g at.In_ok-next) c.in_ok-made.made.id c.in_ok-growth.growth c.in_ok-made.ensures.id ((fresh g at.After-is_fresh).0 c.if-not-is_fresh.false) c.in_ok-growth.ensures

pub returns-in_err-next-clause-refused : goal.returns-in_err-next-clause-refused
returns-in_err-next-clause-refused g c =
    let leaf = leaf_left c.args.readings.now.records c.totals.result.now.own (leaf_count c.args.readings.now.listed c.args.readings.now.me) c.has_leaf.result c.totals.ensures.own c.has_leaf.ensures c.if-not-has_leaf.false in
    let p = err_from_is_err_and c.from_residual-in_err-next.result c.from_residual-in_err-next.ensures.1 in
    rw (p.1, p.2) (too_wide (standing g.S.Scheme.verifies c.args.readings.now) c.args.readings.now.records _ c.args.changes c.in_err-next.field-0.0 leaf c.in_ok-writes.ensures.writes c.in_err-next.ensures.wide)
