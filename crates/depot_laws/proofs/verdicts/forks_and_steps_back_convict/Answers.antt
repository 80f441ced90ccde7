use Rattle.depot_laws.proofs.convicting.Exposures.{fork_convicts, step_back_convicts}
use Rattle.depot_laws.proofs.verdicts.forks_and_steps_back_convict.Goals as goal

pub returns-clause-forks : goal.returns-clause-forks
returns-clause-forks c here J s kept came kind l e free = fork_convicts here J s kept came kind l e free

pub returns-clause-steps_back : goal.returns-clause-steps_back
returns-clause-steps_back c here J s h l e free = step_back_convicts here J s h l e free
