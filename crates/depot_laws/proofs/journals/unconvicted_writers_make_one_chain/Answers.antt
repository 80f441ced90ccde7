use Rattle.depot_laws.proofs.orders.ChainLaws.{one_chain, rising_chain}
use Rattle.depot_laws.proofs.journals.unconvicted_writers_make_one_chain.Goals as goal

pub returns-clause-chain : goal.returns-clause-chain
returns-clause-chain c here J l w free = one_chain here J l w free

pub returns-clause-rising : goal.returns-clause-rising
returns-clause-rising c here J l w free = rising_chain here J l w free
