use Rattle.std.proofs.Common.{◌≡◌, ◌<◌, ℕ, length, get_or}
use Rattle.depot_order.specs.ChainItems.{JoinsUpTo, number_of_chains}
use Rattle.depot_order.proofs.clocks.Clocks.joined.Given as goal

abbrev pub invariant-loop-item : goal.invariant-loop-item
invariant-loop-item l = record {
  long : length l.row.items ≡ number_of_chains l.self;
  joins : (chain : ℕ) → chain < length l.row.items → JoinsUpTo l.self l.items l.item-index chain (get_or l.row.items chain 0);
}
