use Rattle.std.proofs.Common.{◌≤◌, length, arith}
use Rattle.depot_order.proofs.Tips.{few_chains}
use Rattle.depot_order.proofs.chains.Chains.chain_count.Goals as goal

pub overflow_cast-result : goal.overflow_cast-result
overflow_cast-result c =
    let few : length c.self.inside.tips.items ≤ length c.self.inside.prevs.items = few_chains _ _ _ c.self.invariant in
    omega arith
