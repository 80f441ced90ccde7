use Rattle.std.proofs.Common.{◌≡◌, ◌≤◌, ◌*◌, take}
use Rattle.std.specs.List.{sum}
use Rattle.depot_world.proofs.load_totals.sum_of.Given as goal

abbrev pub invariant-loop-number : goal.invariant-loop-number
invariant-loop-number l = record {
  so_far : l.sum ≡ sum (take l.number-index l.numbers);
  room : l.sum ≤ l.number-index * 18446744073709551615;
}
