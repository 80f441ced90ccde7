use Rattle.std.proofs.Common.{arith}
use Rattle.std.proofs.lemmas.Bool.{lt-ltb, ltb-true}
use Rattle.depot_order.proofs.Placing.{all_placed}
use Rattle.depot_graph.specs.Kept.{updates_in, prev_places}
use Rattle.depot_graph.proofs.covered.is_covered.Goals as goal

pub bounds-row-spot : goal.bounds-row-spot
bounds-row-spot c =
    let us = updates_in c.args.graph.now.items.entries in
    let low = (all_placed (prev_places us)).chain c.args.item c.spot-spot.result c.spot-spot.ensures in
    omega (arith, low, c.requires.row)

pub returns : goal.returns
returns c = λ items joined. (
  (λ low. joined.only c.args.item c.spot-spot.result.chain c.spot-spot.result.place c.spot-spot.ensures (ltb-true _ _ low)),
  (λ covered. lt-ltb _ _ (joined.counted covered.0 c.args.item c.spot-spot.result.chain c.spot-spot.result.place covered.1.0 c.spot-spot.ensures covered.1.1)),
)
