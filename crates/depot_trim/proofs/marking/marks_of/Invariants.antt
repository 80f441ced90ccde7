use Rattle.std.proofs.Common.{◌≡◌, Bool, map, take}
use Rattle.std.specs.List.{filter}
use Rattle.depot_base.specs.declared.update.Update.{Update}
use Rattle.depot_graph.specs.Kept.{updates_in}
use Rattle.depot_trim.specs.ReaderView.{mark_of}
use Rattle.depot_trim.proofs.marking.marks_of.Given as goal

abbrev pub invariant-loop-item : goal.invariant-loop-item
invariant-loop-item l = (test : Update → Bool) → l.trimmed ≡ map test (updates_in l.graph.items.entries) → l.marks.items ≡ map mark_of (filter test (take l.item (updates_in l.graph.items.entries)))
