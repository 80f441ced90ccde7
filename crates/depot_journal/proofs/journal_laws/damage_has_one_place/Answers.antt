use Rattle.depot_journal.proofs.OneList.{one_place}
use Rattle.depot_journal.proofs.journal_laws.damage_has_one_place.Goals as goal

pub returns : goal.returns
returns c = one_place
