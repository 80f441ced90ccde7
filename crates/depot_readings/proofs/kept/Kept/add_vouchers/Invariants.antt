-- Of the vouchers all but those that are left are kept, and there is room for those.
use Rattle.std.proofs.Common.{◌≡◌, length}
use Rattle.std.specs.Vec.Iter.{into_iter_items, into_iter_len}
use Rattle.depot_readings.proofs.VoucherSteps.{AreAdded}
use Rattle.depot_readings.proofs.kept.Kept.add_vouchers.Given as goal

abbrev pub invariant-loop-item : goal.invariant-loop-item
invariant-loop-item g l = record {
  count : into_iter_len l.item-iterator ≡ length (into_iter_items l.item-iterator);
  added : AreAdded g.S.Scheme.verifies l.fn.vouchers.items (into_iter_items l.item-iterator) l.initial.self.state l.self.state l.initial.self.values l.self.values l.initial.self.totals l.self.totals l.initial.mine.ids l.mine.ids l.mine.room;
}
