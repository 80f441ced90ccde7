use Rattle.depot_world.proofs.AlikeRuns.{goes_alike}
use Rattle.depot_world.proofs.world_laws.runs_go_on_without_labels.Goals as goal

pub returns : goal.returns
returns c setup es e whole few alike = goes_alike setup es e whole few alike
