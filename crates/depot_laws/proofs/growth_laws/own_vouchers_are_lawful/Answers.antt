use Rattle.depot_laws.proofs.records.NewVouchers.{new_are_lawful}
use Rattle.depot_laws.proofs.growth_laws.own_vouchers_are_lawful.Goals as goal

pub returns : goal.returns
returns c here J ids may = new_are_lawful here J ids may.lawful may.begun may.foreign may.within
