use Rattle.std.proofs.Common.{◌≡◌, length}
use Rattle.std.specs.Vec.Iter.{into_iter_items, into_iter_len}
use Rattle.depot_readings.proofs.VoucherTexts.{AreEncoded}
use Rattle.depot_readings.proofs.growth.Growth.vouchers.Given as goal

abbrev pub invariant-loop-voucher : goal.invariant-loop-voucher
invariant-loop-voucher l = record {
  count : into_iter_len l.voucher-iterator ≡ length (into_iter_items l.voucher-iterator);
  encoded : AreEncoded l.fn.vouchers.items (into_iter_items l.voucher-iterator) l.items.items l.texts.items l.bytes;
}
