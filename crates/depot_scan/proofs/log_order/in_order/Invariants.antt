use Rattle.std.specs.Vec.Iter.{into_iter_items}
use Rattle.depot_scan.specs.Ids.{knows, IsUncovered}
use Rattle.depot_scan.proofs.OrderSteps.{Ordering}
use Rattle.depot_scan.proofs.log_order.in_order.Given as goal

abbrev pub invariant-loop-body : goal.invariant-loop-body
invariant-loop-body l = record {
  order : Ordering l.fn.bodies.items (into_iter_items l.body-iterator) l.kept.items (knows l.ids) l.place;
  uncovered : IsUncovered l.ids;
}
