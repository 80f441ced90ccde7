use Rattle.std.proofs.Common.{refl}
use Rattle.depot_questions.proofs.ToldConvictions.{all_added, page_full}
use Rattle.depot_questions.proofs.convictions.page_from.Goals as goal

pub returns-in-None : goal.returns-in-None
returns-in-None g c =
    page_full (g.N.NodeState.records c.args.node.now) c.args.from c.args.places.now c.loop-place.place-index _ c.loop-place.convictions c.add_conviction.new.convictions c.loop-place.room c.in_ok-left.field-0 c.loop-place-test.true refl c.loop-place.invariant c.in_ok-left.ensures c.in-None.is

pub returns : goal.returns
returns g c = all_added (g.N.NodeState.records c.args.node.now) c.args.from c.args.places.now c.loop-place.place-index c.loop-place.convictions c.loop-place.room c.loop-place-test.false c.loop-place.invariant
