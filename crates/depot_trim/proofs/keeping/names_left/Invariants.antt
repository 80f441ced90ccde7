use Rattle.std.proofs.Common.{◌≡◌, List, take}
use Rattle.depot_base.specs.declared.update.Update.{Update}
use Rattle.depot_model.specs.readers.Readers.{left_of}
use Rattle.depot_graph.specs.Kept.{updates_in}
use Rattle.depot_readings.specs.Named.{AreNamed}
use Rattle.depot_trim.specs.Trimmings.{given_up}
use Rattle.depot_trim.proofs.keeping.names_left.Given as goal

abbrev pub invariant-loop-item : goal.invariant-loop-item
invariant-loop-item l = (ts : List Update) → l.trimmed ≡ given_up ts (updates_in l.graph.items.entries) → AreNamed (left_of ts (take l.item (updates_in l.graph.items.entries))) l.named
