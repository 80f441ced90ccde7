use Rattle.std.proofs.Common.{◌≡◌, true, sym, subst}
use Rattle.depot_base.specs.declared.update.NamedValue.{NamedValue}
use Rattle.depot_base.proofs.MembershipLaws.{in_read}
use Rattle.depot_readings.specs.Named.{has_room}
use Rattle.depot_readings.proofs.voucher_places.VoucherPlaces.add.Goals as goal

pub add_one-requires : goal.add_one-requires
add_one-requires c =
    subst (λ (n : NamedValue). has_room c.loop-voucher.self.names n ≡ true) (sym c.name.ensures)
    (c.loop-voucher.invariant.room c.voucher-item.result (in_read c.voucher-item.result c.args.given.now c.loop-voucher.voucher-index c.loop-voucher-test.true (sym c.voucher-item.is)))
