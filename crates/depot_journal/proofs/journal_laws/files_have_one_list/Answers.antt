use Rattle.depot_journal.proofs.OneList.{one_list}
use Rattle.depot_journal.proofs.journal_laws.files_have_one_list.Goals as goal

pub returns : goal.returns
returns c = one_list
