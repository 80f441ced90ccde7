use Rattle.depot_examples.proofs.TrimmedWorld.{meets}
use Rattle.depot_examples.proofs.worlds.some_checkpoint_is_signed.Goals as goal

pub returns : goal.returns
returns x = meets
