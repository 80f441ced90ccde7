use Rattle.depot_laws.proofs.records.Births.{born}
use Rattle.depot_laws.proofs.growth_laws.a_birth_is_lawful.Goals as goal

pub returns : goal.returns
returns c here fits known = born here fits known
