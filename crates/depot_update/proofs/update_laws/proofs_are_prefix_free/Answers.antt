use Rattle.depot_base.proofs.Combined.{prefix_free}
use Rattle.depot_model.specs.texts.Texts.{proof}
use Rattle.depot_model.proofs.of_texts.TextLaws.{proof_lawful}
use Rattle.depot_update.proofs.update_laws.proofs_are_prefix_free.Goals as goal

pub returns : goal.returns
returns c = λ v w x y fits_v fits_w e. prefix_free proof _ proof_lawful v w x y fits_v fits_w e
