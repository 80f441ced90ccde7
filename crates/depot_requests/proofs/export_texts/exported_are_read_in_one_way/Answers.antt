use Rattle.depot_requests.proofs.ExportLaws.{handed_in_one_way}
use Rattle.depot_requests.proofs.export_texts.exported_are_read_in_one_way.Goals as goal

pub returns : goal.returns
returns c = handed_in_one_way
