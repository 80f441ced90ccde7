use Rattle.std.proofs.Common.{List, [], arith, sym, subst}
use Rattle.depot_schedule.specs.declared.event.Event.{Event}
use Rattle.depot_schedule.specs.declared.schedule.Schedule.{Schedule}
use Rattle.depot_schedule.specs.Schedules.{IsSchedule}
use Rattle.depot_world.specs.Setups.{setup_of}
use Rattle.depot_replay.specs.BegunSchedules.{with_events}
use Rattle.depot_replay.proofs.replaying.replay_with.Goals as goal

-- a schedule without its events is one
no_events : (s : Schedule) → IsSchedule s → IsSchedule (with_events s [])
no_events s is = record { low = is.low; high = is.high; members = is.members; some = is.some; events = tt; lines = omega (arith, is.lines) }

pub play_from-requires-clause-begin : goal.play_from-requires-clause-begin
play_from-requires-clause-begin g c = subst (λ (es : List Event). IsSchedule (with_events c.args.schedule es)) (sym c.new.ensures) (no_events c.args.schedule c.requires.schedule)

pub play_from-requires-clause-roster : goal.play_from-requires-clause-roster
unfolding setup_of
play_from-requires-clause-roster g c = c.in_ok-roster.ensures
