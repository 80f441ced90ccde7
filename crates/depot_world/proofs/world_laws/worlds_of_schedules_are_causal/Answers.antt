use Rattle.depot_world.proofs.of_worlds.GoodWorlds.{schedule_world_is_causal, schedule_world_convicts_none, schedule_pairs_spare}
use Rattle.depot_world.proofs.world_laws.worlds_of_schedules_are_causal.Goals as goal

pub returns-clause-causal : goal.returns-clause-causal
returns-clause-causal c s is authentic free = schedule_world_is_causal s is authentic free

pub returns-clause-convicts : goal.returns-clause-convicts
returns-clause-convicts c s is authentic free = schedule_world_convicts_none s is authentic free

pub returns-clause-pairs : goal.returns-clause-pairs
returns-clause-pairs c s is authentic d kind first second d_on on named = schedule_pairs_spare s d kind first second is authentic d_on on named
