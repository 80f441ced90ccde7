use Rattle.depot_model.proofs.of_texts.BodyLaws.{IsStatement-from_signed}
use Rattle.depot_kept.proofs.kept_statement.KeptStatement.kind_with.Goals as goal

pub kind_between-requires-clause-kept : goal.kind_between-requires-clause-kept
kind_between-requires-clause-kept c = IsStatement-from_signed _ c.requires.entry.signed
