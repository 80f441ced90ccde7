use Rattle.depot_laws.proofs.convicting.ContraryConvict.{nobody_convicts_itself}
use Rattle.depot_laws.proofs.journals.nobody_convicts_itself.Goals as goal

pub returns : goal.returns
returns c here J l = nobody_convicts_itself here J l
