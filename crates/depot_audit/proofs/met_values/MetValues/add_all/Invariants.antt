use Rattle.std.proofs.Common.{◌≡◌, ℕ, List, ◌++◌}
use Rattle.std.specs.Vec.Iter.{into_iter_items}
use Rattle.depot_audit.specs.Tables.{AreMetValues}
use Rattle.depot_audit.proofs.met_values.MetValues.add_all.Given as goal

abbrev pub invariant-loop-value : goal.invariant-loop-value
invariant-loop-value l = record {
  met : (vs : List (List ℕ)) → AreMetValues vs l.fn.self.table l.fn.self.apart → AreMetValues (vs ++ l.yielded) l.self.table l.self.apart;
  whole : l.yielded ++ into_iter_items l.value-iterator ≡ l.fn.values;
}
