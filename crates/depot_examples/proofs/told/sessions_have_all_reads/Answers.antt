use Rattle.depot_examples.proofs.SessionReads.{session_reads}
use Rattle.depot_examples.proofs.told.sessions_have_all_reads.Goals as goal

pub returns : goal.returns
returns c here sign s commands = session_reads here sign s commands
