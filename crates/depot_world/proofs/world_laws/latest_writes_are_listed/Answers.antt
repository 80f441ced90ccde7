use Rattle.depot_model.proofs.of_updates.LatestWrites.{latest_are_listed}
use Rattle.depot_world.proofs.world_laws.latest_writes_are_listed.Goals as goal

pub returns : goal.returns
returns c key us causal = latest_are_listed key us causal
