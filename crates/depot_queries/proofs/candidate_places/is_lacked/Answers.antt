use Rattle.std.proofs.Common.{◌≡◌, ◌∙◌, ◌&&◌, Bool, true, false, [], Some, eqb, not, refl, sym, ap}
use Rattle.std.proofs.lemmas.Bool.{le-ltb, lt-ltb}
use Rattle.depot_base.specs.declared.update.Update.{Update}
use Rattle.depot_model.specs.exchange.Bundle.{is_covered}
use Rattle.depot_graph.specs.Causal.{causal_from_test}
use Rattle.depot_graph.specs.Kept.{updates_in}
use Rattle.depot_graph.proofs.CoveredItems.{chain_inside, row_covers}
use Rattle.depot_queries.proofs.candidate_places.is_lacked.Goals as goal

-- one that is counted isn't lacked
counted_out : (other covered : Bool) → covered ≡ true → false ≡ (other && not covered)
counted_out true covered is = rw is refl
counted_out false covered is = refl

-- and one that isn't, if it is another's
counts_none : (other covered : Bool) → covered ≡ false → other ≡ (other && not covered)
counts_none true covered is = rw is refl
counts_none false covered is = refl

pub bounds-row-spot : goal.bounds-row-spot
bounds-row-spot c = chain_inside (updates_in c.args.graph.now.items.entries) c.args.row.now c.args.item _ _ c.requires.row c.spot-spot.ensures

pub returns-then-spot-row : goal.returns-then-spot-row
returns-then-spot-row c = λ ids u joined at.
    let us = updates_in c.args.graph.now.items.entries in
    counted_out (not (eqb u.writer c.args.reader)) (is_covered us ids u) (row_covers us ids c.args.row.now c.args.item _ _ u (causal_from_test [] us c.args.graph.now.causal) at c.spot-spot.ensures joined ∙ lt-ltb _ _ c.if-spot-row.true)

pub returns : goal.returns
returns c = λ ids u joined at.
    let us = updates_in c.args.graph.now.items.entries in
    let same : c.update.result.now ≡ u = let both : Some c.update.result.now ≡ Some u = sym c.update.ensures ∙ at in cc in
    c.ne.ensures ∙ ap (λ (t : Update). not (eqb t.writer c.args.reader)) same
    ∙ counts_none (not (eqb u.writer c.args.reader)) (is_covered us ids u) (row_covers us ids c.args.row.now c.args.item _ _ u (causal_from_test [] us c.args.graph.now.causal) at c.spot-spot.ensures joined ∙ le-ltb _ _ c.if-spot-row.false)
