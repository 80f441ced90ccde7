use Rattle.std.proofs.Common.{sym}
use Rattle.depot_base.proofs.MembershipLaws.{in_read}
use Rattle.depot_readings.proofs.VoucherTexts.{at_fits}
use Rattle.depot_readings.proofs.news.voucher_texts.Goals as goal

pub encode_own_voucher-requires : goal.encode_own_voucher-requires
encode_own_voucher-requires c = at_fits c.args.vouchers.now c.item-item.result c.requires (in_read c.item-item.result c.args.vouchers.now c.loop-item.item-index c.loop-item-test.true (sym c.item-item.is))
