use Rattle.std.proofs.Common.{rules, refl, ap}
use Rattle.depot_base.specs.Calls.{writes_at}
use Rattle.depot_outside.specs.Images.{Moments}
use Rattle.depot_outside.specs.Stopping.{done_before_stop, done_by, state_of}
use Rattle.depot_outside.proofs.Blank.{stop_follows}
use Rattle.depot_outside.proofs.Calling.{fails, goes, led_nowhere, led_on, led_to_stop, stops}
use Rattle.depot_outside.proofs.mem_disk.MemDiskDisk.write_at.Goals as goal

pub returns-in-Made-clause-made : goal.returns-in-Made-clause-made
unfolding done_by
returns-in-Made-clause-made c =
    let s = state_of c.args.self.now in (
      goes s c.begin.new.self.calls.made c.begin.ensures.made c.in-Made.ensures.turn c.in-Made.ensures.failing,
      led_on s _ (writes_at c.args.at c.args.bytes.now) c.in-Made.ensures.turn c.begin.ensures.next c.begin.ensures.fails c.begin.ensures.made c.write.ensures.bytes (ap (λ (m : Moments). m.now) c.write.ensures.moments),
    )

pub returns-in-Fails-clause-made : goal.returns-in-Fails-clause-made
returns-in-Fails-clause-made c =
    let s = state_of c.args.self.now in (
      fails s c.begin.new.self.calls.made c.begin.ensures.made c.in-Fails.ensures.turn c.in-Fails.ensures.failing,
      led_nowhere s _ (writes_at c.args.at c.args.bytes.now) c.in-Fails.ensures.turn c.begin.ensures.next c.begin.ensures.fails c.begin.ensures.made refl refl,
    )

pub returns-in-Stops-clause-images : goal.returns-in-Stops-clause-images
returns-in-Stops-clause-images c =
    let old = c.args.self.now.file in
    let new = c.stop_after_write.new.self in
    stop_follows c.in-Stops.image old.history.moments new.history.moments old.bytes.items new.bytes.items c.args.bytes.now c.args.at (search rules) old.lead c.stop_after_write.ensures.bytes c.stop_after_write.ensures.moments

pub returns-in-Stops-clause-made : goal.returns-in-Stops-clause-made
unfolding done_before_stop done_by
returns-in-Stops-clause-made c =
    let s = state_of c.args.self.now in (
      stops s c.in-Stops.image c.in-Stops.ensures.turn,
      led_to_stop s _ (writes_at c.args.at c.args.bytes.now) c.in-Stops.image c.in-Stops.ensures.turn c.begin.ensures.next c.begin.ensures.fails c.begin.ensures.made
          c.stop_after_write.ensures.bytes (ap (λ (m : Moments). m.now) c.stop_after_write.ensures.moments),
    )
