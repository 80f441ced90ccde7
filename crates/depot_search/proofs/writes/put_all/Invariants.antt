use Rattle.std.proofs.Common.{◌≡◌, drop}
use Rattle.depot_model.specs.journals.Journal.{accepted}
use Rattle.depot_search.specs.Writes.{with_bodies}
use Rattle.depot_search.proofs.writes.put_all.Given as goal

abbrev pub invariant-loop-entry : goal.invariant-loop-entry
invariant-loop-entry l = with_bodies l.writes.items (accepted (drop l.entry-index l.entries)) ≡ with_bodies l.fn.writes.items (accepted l.entries)
