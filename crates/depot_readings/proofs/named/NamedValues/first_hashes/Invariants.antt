use Rattle.std.proofs.Common.{◌≡◌, ◌++◌, ◌≤◌, None, length}
use Rattle.depot_base.specs.Format.{last_of}
use Rattle.depot_readings.specs.Lacking.{hashes_behind}
use Rattle.depot_readings.proofs.named.NamedValues.first_hashes.Given as goal

abbrev pub invariant-loop-name : goal.invariant-loop-name
invariant-loop-name l = record {
  so_far : l.found ++ hashes_behind (last_of l.found) l.name-iterator ≡ hashes_behind None l.self.marks.entries;
  few : length l.found ≤ 1024;
}
