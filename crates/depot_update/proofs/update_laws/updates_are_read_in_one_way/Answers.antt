use Rattle.depot_base.proofs.Decoding.{in_one_way}
use Rattle.depot_model.specs.texts.Texts.{update_body}
use Rattle.depot_model.proofs.of_texts.TextLaws.{update_body_lawful}
use Rattle.depot_update.proofs.update_laws.updates_are_read_in_one_way.Goals as goal

pub returns : goal.returns
returns c = in_one_way update_body _ update_body_lawful
