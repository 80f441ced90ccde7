use Rattle.std.proofs.Common.{◌≡◌, [], drop}
use Rattle.depot_search.specs.Writes.{with_journals}
use Rattle.depot_search.proofs.writes.writes_of.Given as goal

abbrev pub invariant-loop-journal : goal.invariant-loop-journal
invariant-loop-journal l = with_journals l.writes.items (drop l.journal-index l.journals) ≡ with_journals [] l.journals
