use Rattle.depot_laws.proofs.records.FewLeaves.{few_leaves, few_foreign}
use Rattle.depot_laws.proofs.growth_laws.leaves_are_few.Goals as goal

pub returns-clause-all : goal.returns-clause-all
returns-clause-all c here J l = few_leaves here J l

pub returns-clause-others : goal.returns-clause-others
returns-clause-others c here J l = few_foreign here J l
