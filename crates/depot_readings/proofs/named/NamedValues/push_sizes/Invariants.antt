use Rattle.std.proofs.Common.{◌≡◌, ◌++◌}
use Rattle.depot_readings.proofs.PairsInRange.{names_between, sizes_in}
use Rattle.depot_readings.proofs.named.NamedValues.push_sizes.Given as goal

abbrev pub invariant-loop-name : goal.invariant-loop-name
invariant-loop-name l = l.found.items ++ sizes_in l.name-iterator ≡ l.initial.found.items ++ sizes_in (names_between l.hash l.self.marks.entries)
