use Rattle.std.proofs.Common.{refl, ap}
use Rattle.depot_base.specs.Calls.{asks_length}
use Rattle.depot_outside.specs.Images.{Moments}
use Rattle.depot_outside.specs.Stopping.{done_before_stop, done_by, state_of}
use Rattle.depot_outside.proofs.Blank.{stop_within}
use Rattle.depot_outside.proofs.Calling.{fails, goes, led_nowhere, led_on, led_to_stop, stops}
use Rattle.depot_outside.proofs.mem_disk.MemDisk.begin.Goals as goal

pub returns-in-Made-clause-outcome : goal.returns-in-Made-clause-outcome
returns-in-Made-clause-outcome c = goes (state_of c.args.self.now) c.begin.new.self.calls.made c.begin.ensures.made c.in-Made.ensures.turn c.in-Made.ensures.failing

pub returns-in-Made-clause-state : goal.returns-in-Made-clause-state
unfolding done_by
returns-in-Made-clause-state c =
    led_on (state_of c.args.self.now) _ asks_length c.in-Made.ensures.turn c.begin.ensures.next c.begin.ensures.fails c.begin.ensures.made refl refl

pub returns-in-Fails-clause-outcome : goal.returns-in-Fails-clause-outcome
returns-in-Fails-clause-outcome c = fails (state_of c.args.self.now) c.begin.new.self.calls.made c.begin.ensures.made c.in-Fails.ensures.turn c.in-Fails.ensures.failing

pub returns-in-Fails-clause-state : goal.returns-in-Fails-clause-state
returns-in-Fails-clause-state c =
    led_nowhere (state_of c.args.self.now) _ asks_length c.in-Fails.ensures.turn c.begin.ensures.next c.begin.ensures.fails c.begin.ensures.made refl refl

pub returns-in-Stops-clause-outcome : goal.returns-in-Stops-clause-outcome
returns-in-Stops-clause-outcome c = stops (state_of c.args.self.now) c.in-Stops.image c.in-Stops.ensures.turn

pub returns-in-Stops-clause-state : goal.returns-in-Stops-clause-state
unfolding done_before_stop
returns-in-Stops-clause-state c =
    led_to_stop (state_of c.args.self.now) _ asks_length c.in-Stops.image c.in-Stops.ensures.turn c.begin.ensures.next c.begin.ensures.fails c.begin.ensures.made
    c.stop.ensures.bytes (ap (λ (m : Moments). m.now) c.stop.ensures.moments)

pub returns-in-Stops-clause-images : goal.returns-in-Stops-clause-images
returns-in-Stops-clause-images c =
    let old = c.args.self.now.file in
    stop_within c.in-Stops.image old.history.moments c.stop.new.self.history.moments old.bytes.items c.stop.new.self.bytes.items old.lead c.stop.ensures.bytes c.stop.ensures.moments
