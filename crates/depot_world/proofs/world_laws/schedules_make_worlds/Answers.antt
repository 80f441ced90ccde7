use Rattle.depot_world.proofs.of_worlds.GoodWorlds.{schedule_makes_world, schedule_world_has_roster}
use Rattle.depot_world.proofs.world_laws.schedules_make_worlds.Goals as goal

pub returns-clause-world : goal.returns-clause-world
returns-clause-world c s is = schedule_makes_world s is

pub returns-clause-roster : goal.returns-clause-roster
returns-clause-roster c s is = schedule_world_has_roster s is
