use Rattle.depot_examples.proofs.ReadsTold.{reads_are_gets, judged_are_verdicts}
use Rattle.depot_examples.proofs.told.worlds_have_all_reads_and_verdicts.Goals as goal

pub returns-clause-reads : goal.returns-clause-reads
returns-clause-reads c s d is on = reads_are_gets s d is on

pub returns-clause-judged : goal.returns-clause-judged
returns-clause-judged c s = judged_are_verdicts s
