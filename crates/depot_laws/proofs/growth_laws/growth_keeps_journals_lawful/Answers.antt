use Rattle.depot_laws.proofs.records.Growing.{grown_is_lawful}
use Rattle.depot_laws.proofs.growth_laws.growth_keeps_journals_lawful.Goals as goal

pub returns : goal.returns
returns c here J x l some fits room = grown_is_lawful here J x l some fits room
