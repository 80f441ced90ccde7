use Rattle.depot_trim.proofs.MarkedPlaces.{none_first, firsts_more}
use Rattle.depot_trim.proofs.marked_names.firsts_of.Goals as goal

pub loop-place-init : goal.loop-place-init
loop-place-init c = none_first c.new-firsts.result c.new-firsts.ensures.empty

pub loop-place-preserved : goal.loop-place-preserved
loop-place-preserved c =
    firsts_more c.args.marks.now c.loop-place.place c.index-marks-place.result c.loop-place.firsts c.add_names.new.firsts c.loop-place-test.true c.index-marks-place.is c.loop-place.invariant c.in_ok-add_names.ensures
