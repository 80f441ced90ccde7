use Rattle.std.proofs.Common.{◌≡◌, ◌||◌, ℕ, List, take}
use Rattle.depot_readings.specs.VoucherPlaces.{HasPlaceRooms, has_voucher_place, is_among_places}
use Rattle.depot_readings.proofs.voucher_places.VoucherPlaces.add.Given as goal

abbrev pub invariant-loop-voucher : goal.invariant-loop-voucher
invariant-loop-voucher l = record {
  room : HasPlaceRooms l.self l.given;
  places : (id : List ℕ) (place : ℕ) → has_voucher_place l.self id place ≡ (has_voucher_place l.initial.self id place || is_among_places (take l.voucher-index l.given) id place);
}
