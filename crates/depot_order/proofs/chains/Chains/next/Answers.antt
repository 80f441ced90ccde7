use Rattle.depot_order.proofs.ChainLengths.{next_place, next_chain_low, next_behind}
use Rattle.depot_order.proofs.chains.Chains.next.Goals as goal

pub returns-clause-chain : goal.returns-clause-chain
returns-clause-chain c = rw c.next_spot.ensures (next_chain_low c.args.self.now.prevs c.args.prev)

pub returns-clause-place : goal.returns-clause-place
returns-clause-place c = rw c.next_spot.ensures (next_place c.args.self.now.prevs c.args.prev)

pub returns-clause-behind : goal.returns-clause-behind
returns-clause-behind c = rw c.next_spot.ensures (next_behind c.args.self.now.prevs c.args.prev)
