use Rattle.depot_world.proofs.of_worlds.SoundRuns.{runs_are_sound}
use Rattle.depot_world.proofs.world_laws.runs_of_schedules_are_sound.Goals as goal

pub returns : goal.returns
returns c s n is = runs_are_sound s n is
