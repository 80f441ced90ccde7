use Rattle.depot_world.proofs.of_worlds.GoodWorlds.{schedule_receipts_are_true}
use Rattle.depot_world.proofs.world_laws.receipts_of_schedules_are_true.Goals as goal

pub returns : goal.returns
returns c s d is on = schedule_receipts_are_true s d is on
