-- A schedule whose events are apart.
use Rattle.std.specs.Prelude.{List}
use Rattle.depot_schedule.specs.declared.event.Event.{Event}
use Rattle.depot_schedule.specs.declared.schedule.Schedule.{Schedule}

-- the same members at the same heights, to whom these events happen
abbrev pub with_events : Schedule → List Event → Schedule
with_events s events = record { winter = s.winter; height = s.height; members = s.members; events = events }
