use Rattle.std.proofs.Common.{◌≡◌, ◌+◌, take}
use Rattle.depot_model.specs.checks.Vouching.{records_of}
use Rattle.depot_readings.specs.FrontPlaces.{voucher_places_from}
use Rattle.depot_readings.specs.NewRecords.{vouchers_of}
use Rattle.depot_readings.proofs.front_places.places_of_vouchers.Given as goal

abbrev pub invariant-loop-item : goal.invariant-loop-item
invariant-loop-item l = record {
  places : l.places.items ≡ voucher_places_from l.count (records_of (vouchers_of (take l.item-index l.vouchers)));
  place : l.place ≡ l.count + l.item-index;
}
