use Rattle.std.proofs.Common.{sym}
use Rattle.std.proofs.lemmas.List.{append-nil}
use Rattle.depot_world.specs.FaultySigning.{each_once}
use Rattle.depot_scenario.proofs.ValueFrames.{change_written}
use Rattle.depot_scenario.proofs.value_frames.put_values.Goals as goal

pub loop-place-init : goal.loop-place-init
unfolding each_once
loop-place-init c = sym (append-nil c.args.out.now)

pub loop-place-preserved : goal.loop-place-preserved
loop-place-preserved c =
    change_written c.args.changes.now c.loop-place.place c.index-changes-place.result c.args.out.now c.loop-place.out c.put_change.new.out c.loop-place-test.true c.index-changes-place.is c.loop-place.invariant c.in_ok-put_change.ensures
