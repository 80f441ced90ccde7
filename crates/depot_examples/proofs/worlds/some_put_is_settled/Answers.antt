use Rattle.depot_examples.proofs.SettledWorld.{meets}
use Rattle.depot_examples.proofs.worlds.some_put_is_settled.Goals as goal

pub returns : goal.returns
returns x = meets
