use Rattle.std.proofs.Common.{◌≡◌, ℕ, List, take}
use Rattle.depot_base.specs.declared.update.Update.{Update}
use Rattle.depot_model.specs.journals.Journal.{accepted, held, is_wanted}
use Rattle.depot_model.specs.readers.Readers.{left_of}
use Rattle.depot_kept.specs.Values as values
use Rattle.depot_trim.specs.Trimmings.{given_up, kept_of}
use Rattle.depot_trim.proofs.keeping.values_left.Given as goal

abbrev pub invariant-loop-item : goal.invariant-loop-item
invariant-loop-item g l = (ts : List Update) (h : List ℕ) → l.trimmed ≡ given_up ts (accepted (g.N.NodeState.records l.node)) → values.held_in l.values h ≡ kept_of (held (g.N.NodeState.records l.node)) (is_wanted (left_of ts (take l.item (accepted (g.N.NodeState.records l.node))))) h
