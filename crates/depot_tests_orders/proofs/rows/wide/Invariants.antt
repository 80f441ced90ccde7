use Rattle.std.proofs.Common.{◌≡◌, ◌≤◌, ℕ, length}
use Rattle.depot_order.specs.ChainItems.{chain_length, number_of_chains}
use Rattle.depot_tests_orders.proofs.rows.wide.Given as goal

abbrev pub invariant-loop-chain : goal.invariant-loop-chain
invariant-loop-chain l = record {
  items : length l.clocks ≡ l.chain;
  chains : number_of_chains l.clocks ≡ l.chain;
  none : (c : ℕ) → l.chain ≤ c → chain_length l.clocks c ≡ 0;
}
