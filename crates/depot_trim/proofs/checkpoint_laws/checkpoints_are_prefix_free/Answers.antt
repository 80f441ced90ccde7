use Rattle.depot_base.proofs.Combined.{prefix_free}
use Rattle.depot_model.specs.readers.Checkpoints.{checkpoint}
use Rattle.depot_model.proofs.of_texts.CheckpointLaws.{checkpoint_lawful}
use Rattle.depot_trim.proofs.checkpoint_laws.checkpoints_are_prefix_free.Goals as goal

pub returns : goal.returns
returns c = λ v w x y fits_v fits_w e. prefix_free checkpoint _ checkpoint_lawful v w x y fits_v fits_w e
