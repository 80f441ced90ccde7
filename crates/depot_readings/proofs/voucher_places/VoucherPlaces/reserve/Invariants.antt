use Rattle.std.proofs.Common.{◌≡◌, ℕ, List, take}
use Rattle.depot_readings.specs.VoucherPlaces.{HasPlaceRooms, has_voucher_place}
use Rattle.depot_readings.proofs.voucher_places.VoucherPlaces.reserve.Given as goal

abbrev pub invariant-loop-voucher : goal.invariant-loop-voucher
invariant-loop-voucher l = record {
  room : HasPlaceRooms l.self (take l.voucher-index l.given);
  same : (id : List ℕ) (place : ℕ) → has_voucher_place l.self id place ≡ has_voucher_place l.initial.self id place;
}
