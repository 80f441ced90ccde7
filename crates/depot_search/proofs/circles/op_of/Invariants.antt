use Rattle.std.proofs.Common.{◌≡◌, drop}
use Rattle.depot_search.specs.Search.{op_among}
use Rattle.depot_search.proofs.circles.op_of.Given as goal

abbrev pub invariant-loop-journal : goal.invariant-loop-journal
invariant-loop-journal l = op_among (drop l.journal-index l.journals) l.write ≡ op_among l.journals l.write
