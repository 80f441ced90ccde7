use Rattle.depot_laws.proofs.of_readers.PrunedAnswers.{statements_alike, proofs_alike}
use Rattle.depot_laws.proofs.of_readers.PrunedGrowth.{pruned_grows}
use Rattle.depot_laws.proofs.trimming.pruned_journals_answer_alike.Goals as goal

pub returns-clause-statements : goal.returns-clause-statements
returns-clause-statements c here J ts l within s e = statements_alike here J ts l within s e

pub returns-clause-proofs : goal.returns-clause-proofs
returns-clause-proofs c here J ts p = proofs_alike here J ts p

pub returns-clause-grows : goal.returns-clause-grows
returns-clause-grows c here J ts x within = pruned_grows here J ts within x
