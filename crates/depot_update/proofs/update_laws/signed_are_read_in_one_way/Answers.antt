use Rattle.depot_base.proofs.Decoding.{in_one_way}
use Rattle.depot_model.specs.texts.Texts.{signed}
use Rattle.depot_model.proofs.of_texts.TextLaws.{signed_lawful}
use Rattle.depot_update.proofs.update_laws.signed_are_read_in_one_way.Goals as goal

pub returns : goal.returns
returns c = in_one_way signed _ signed_lawful
