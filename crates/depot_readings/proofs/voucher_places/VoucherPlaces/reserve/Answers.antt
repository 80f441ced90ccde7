use Rattle.std.proofs.Common.{◌≡◌, true, subst, ◌∙◌}
use Rattle.depot_base.specs.declared.update.NamedValue.{NamedValue}
use Rattle.depot_readings.specs.Named.{has_room}
use Rattle.depot_readings.specs.VoucherPlaces.{place_name}
use Rattle.depot_readings.specs.declared.voucher_places.VoucherPlace.{VoucherPlace}
use Rattle.depot_readings.proofs.AddingLaws.{each_next}
use Rattle.depot_readings.proofs.voucher_places.VoucherPlaces.reserve.Goals as goal

pub loop-voucher-preserved : goal.loop-voucher-preserved
loop-voucher-preserved c = record {
  room = each_next (λ (v : VoucherPlace). has_room c.reserve_one.new.self (place_name v) ≡ true) c.args.given.now c.loop-voucher.voucher-index c.voucher-item.result c.loop-voucher-test.true c.voucher-item.is
      (λ v on. c.reserve_one.ensures.rooms (place_name v) (c.loop-voucher.invariant.room v on)) (subst (λ (n : NamedValue). has_room c.reserve_one.new.self n ≡ true) c.name.ensures c.in_ok-reserve_one.ensures.room);
  same = λ id place. c.reserve_one.ensures.same id place ∙ c.loop-voucher.invariant.same id place;
}
