use Rattle.depot_journal.proofs.OneList.{not_damaged}
use Rattle.depot_journal.proofs.journal_laws.good_files_are_undamaged.Goals as goal

pub returns : goal.returns
returns c = not_damaged
