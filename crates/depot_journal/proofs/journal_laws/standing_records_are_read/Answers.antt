use Rattle.depot_journal.proofs.AtRest.{stands_undamaged, stands_read}
use Rattle.depot_journal.proofs.journal_laws.standing_records_are_read.Goals as goal

pub returns-clause-undamaged : goal.returns-clause-undamaged
returns-clause-undamaged c = stands_undamaged

pub returns-clause-read : goal.returns-clause-read
returns-clause-read c = stands_read
