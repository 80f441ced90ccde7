use Rattle.depot_laws.proofs.records.FaultLaws.{one_fault}
use Rattle.depot_laws.proofs.audits.texts_have_one_fault.Goals as goal

pub returns : goal.returns
returns c here J text f g one two = one_fault here J text f g one two
