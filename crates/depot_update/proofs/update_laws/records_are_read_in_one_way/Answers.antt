use Rattle.depot_base.proofs.Decoding.{closed_in_one_way}
use Rattle.depot_model.specs.texts.Records.{record_text}
use Rattle.depot_model.proofs.of_texts.RecordLaws.{record_text_lawful}
use Rattle.depot_update.proofs.update_laws.records_are_read_in_one_way.Goals as goal

pub returns : goal.returns
returns c = closed_in_one_way record_text _ record_text_lawful
