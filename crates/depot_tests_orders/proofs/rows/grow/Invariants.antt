use Rattle.std.proofs.Common.{◌≡◌, ◌+◌, ◌-◌, ◌<◌, ℕ, length}
use Rattle.depot_order.specs.ChainItems.{IsChainItemAt, chain_length, number_of_chains}
use Rattle.depot_tests_orders.proofs.rows.grow.Given as goal

abbrev pub invariant-loop-place : goal.invariant-loop-place
invariant-loop-place l = record {
  items : length l.clocks ≡ l.first + l.place;
  long : chain_length l.clocks l.chain ≡ l.place;
  chains : number_of_chains l.clocks ≡ l.chain + 1;
  last : IsChainItemAt l.clocks (l.first + l.place - 1) l.chain (l.place - 1);
  none : (c : ℕ) → l.chain < c → chain_length l.clocks c ≡ 0;
}
