use Rattle.depot_requests.proofs.ExportLaws.{asked_in_one_way}
use Rattle.depot_requests.proofs.export_texts.exports_are_read_in_one_way.Goals as goal

pub returns : goal.returns
returns c = asked_in_one_way
