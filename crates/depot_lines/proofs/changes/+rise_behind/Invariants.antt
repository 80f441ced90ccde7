use Rattle.std.proofs.Common.{length}
use Rattle.depot_lines.proofs.changes.+rise_behind.Given as goal

abbrev pub decreases-rise_behind : goal.decreases-rise_behind
decreases-rise_behind l = length l.changes.now
