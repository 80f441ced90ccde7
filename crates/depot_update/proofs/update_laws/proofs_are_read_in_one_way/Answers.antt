use Rattle.depot_base.proofs.Decoding.{in_one_way}
use Rattle.depot_model.specs.texts.Texts.{proof}
use Rattle.depot_model.proofs.of_texts.TextLaws.{proof_lawful}
use Rattle.depot_update.proofs.update_laws.proofs_are_read_in_one_way.Goals as goal

pub returns : goal.returns
returns c = in_one_way proof _ proof_lawful
