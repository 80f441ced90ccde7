use Rattle.depot_base.proofs.Decoding.{in_one_way}
use Rattle.depot_model.specs.texts.Texts.{statement}
use Rattle.depot_model.proofs.of_texts.TextLaws.{statement_lawful}
use Rattle.depot_update.proofs.update_laws.statements_are_read_in_one_way.Goals as goal

pub returns : goal.returns
returns c = in_one_way statement _ statement_lawful
