use Rattle.depot_gossip.proofs.AskingLaws.{catch_up, catch_up_from_behind}
use Rattle.depot_gossip.proofs.AskersHellos.{new_hello}
use Rattle.depot_gossip.proofs.AskingProgress.{behind_covers, progress}
use Rattle.depot_gossip.proofs.RoundTaken.{taken_round}
use Rattle.depot_gossip.proofs.asking_laws.asking_again_law.Goals as goal

pub returns-clause-taken : goal.returns-clause-taken
returns-clause-taken c = taken_round

pub returns-clause-ends : goal.returns-clause-ends
returns-clause-ends c = catch_up

pub returns-clause-progress : goal.returns-clause-progress
returns-clause-progress c r front since is covers admits parts = progress r is covers admits front since parts

pub returns-clause-covers : goal.returns-clause-covers
returns-clause-covers c = behind_covers

pub returns-clause-behind : goal.returns-clause-behind
returns-clause-behind c = catch_up_from_behind

pub returns-clause-hellos : goal.returns-clause-hellos
returns-clause-hellos c = new_hello
