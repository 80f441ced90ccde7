use Rattle.depot_model.proofs.of_texts.BodyLaws.{IsStatement-from_signed}
use Rattle.depot_kept.proofs.kept_statement.KeptStatement.has_body_of.Goals as goal

pub have_one_body-requires-clause-a : goal.have_one_body-requires-clause-a
have_one_body-requires-clause-a c = IsStatement-from_signed _ c.requires.entry.signed
