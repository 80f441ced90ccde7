use Rattle.depot_model.proofs.of_texts.BodyLaws.{text_of_statement-Update, IsUpdate-from_statement, IsStatement-from_update}
use Rattle.depot_update.proofs.update_laws.update_texts_agree.Goals as goal

pub returns-clause-text : goal.returns-clause-text
returns-clause-text c = text_of_statement-Update

pub returns-clause-fits : goal.returns-clause-fits
returns-clause-fits c = λ u. (IsUpdate-from_statement u, IsStatement-from_update u)
