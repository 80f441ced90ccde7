use Rattle.depot_base.proofs.Decoding.{in_one_way}
use Rattle.depot_model.specs.readers.Checkpoints.{checkpoint}
use Rattle.depot_model.proofs.of_texts.CheckpointLaws.{checkpoint_lawful}
use Rattle.depot_trim.proofs.checkpoint_laws.checkpoints_are_read_in_one_way.Goals as goal

pub returns : goal.returns
returns c = in_one_way checkpoint _ checkpoint_lawful
