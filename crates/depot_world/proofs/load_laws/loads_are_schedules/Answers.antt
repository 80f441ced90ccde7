use Rattle.depot_world.proofs.of_loads.LoadFits.{is_schedule}
use Rattle.depot_world.proofs.load_laws.loads_are_schedules.Goals as goal

pub returns : goal.returns
returns c = is_schedule
