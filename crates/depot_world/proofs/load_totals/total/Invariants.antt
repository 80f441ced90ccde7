use Rattle.std.proofs.Common.{◌≡◌, ◌≤◌, ◌*◌, take}
use Rattle.std.specs.List.{sum_by}
use Rattle.depot_world.specs.Summaries.{counted_in}
use Rattle.depot_world.proofs.load_totals.total.Given as goal

abbrev pub invariant-loop-line : goal.invariant-loop-line
invariant-loop-line l = record {
  so_far : l.total ≡ sum_by (counted_in l.which) (take l.line-index l.lines);
  room : l.total ≤ l.line-index * 18446744073709551615;
}
