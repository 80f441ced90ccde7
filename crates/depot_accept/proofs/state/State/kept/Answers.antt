use Rattle.depot_model.proofs.of_texts.BodyLaws.{IsStatement-from_signed}
use Rattle.depot_kept.specs.Entries.{kept_signed}
use Rattle.depot_accept.proofs.state.State.kept.Goals as goal

pub encode_statement-requires : goal.encode_statement-requires
encode_statement-requires g c = IsStatement-from_signed (kept_signed c.at-kept.result.now) c.at-kept.ensures.text
