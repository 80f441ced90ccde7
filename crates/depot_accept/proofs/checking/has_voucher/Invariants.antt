use Rattle.std.proofs.Common.{◌≡◌, drop}
use Rattle.std.specs.List.{list_any}
use Rattle.depot_accept.specs.OwnVouchers.{has_body_of_voucher}
use Rattle.depot_accept.proofs.checking.has_voucher.Given as goal

abbrev pub invariant-loop-own : goal.invariant-loop-own
invariant-loop-own l = list_any (has_body_of_voucher l.voucher) l.vouchers ≡ list_any (has_body_of_voucher l.voucher) (drop l.own-index l.vouchers)
