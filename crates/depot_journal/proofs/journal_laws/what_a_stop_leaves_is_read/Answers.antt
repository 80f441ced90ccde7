use Rattle.depot_journal.proofs.AtRest.{left_undamaged, left_read}
use Rattle.depot_journal.proofs.journal_laws.what_a_stop_leaves_is_read.Goals as goal

pub returns-clause-undamaged : goal.returns-clause-undamaged
returns-clause-undamaged c = left_undamaged

pub returns-clause-read : goal.returns-clause-read
returns-clause-read c = left_read
