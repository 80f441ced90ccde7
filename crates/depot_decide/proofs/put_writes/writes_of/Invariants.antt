use Rattle.std.proofs.Common.{◌≡◌, ◌++◌, length, map}
use Rattle.std.specs.List.{AllByRecursion}
use Rattle.std.specs.Vec.Iter.{into_iter_items, into_iter_len}
use Rattle.depot_model.specs.checks.Own.{write_of, values_of}
use Rattle.depot_model.specs.checks.Putting.{HasSizes}
use Rattle.depot_decide.proofs.put_writes.writes_of.Given as goal

abbrev pub invariant-loop-change : goal.invariant-loop-change
invariant-loop-change l = record {
  count : into_iter_len l.change-iterator ≡ length (into_iter_items l.change-iterator);
  writes : map write_of l.fn.changes ≡ l.writes ++ map write_of (into_iter_items l.change-iterator);
  values : values_of l.fn.changes ≡ l.values ++ values_of (into_iter_items l.change-iterator);
  sizes : AllByRecursion HasSizes (into_iter_items l.change-iterator) → AllByRecursion HasSizes l.fn.changes;
}
