use Rattle.std.proofs.Common.{◌++◌, ℕ, List, ap, ◌∙◌, arith}
use Rattle.std.proofs.lemmas.List.{take_all}
use Rattle.depot_model.specs.checks.Vouching.{records_of}
use Rattle.depot_readings.specs.FrontPlaces.{voucher_places_from, with_place}
use Rattle.depot_readings.specs.NewRecords.{vouchers_of}
use Rattle.depot_readings.specs.declared.news.NewVoucher.{NewVoucher}
use Rattle.depot_readings.proofs.FrontPlaceLaws.{next_places}
use Rattle.depot_readings.proofs.front_places.places_of_vouchers.Goals as goal

pub loop-item-init : goal.loop-item-init
unfolding voucher_places_from
loop-item-init c = record { places = c.new-places.ensures.items; place = omega arith }

pub loop-item-preserved : goal.loop-item-preserved
loop-item-preserved c = record {
  places = next_places c.args.count c.args.vouchers.now c.loop-item.item-index c.item-item.result c.loop-item.place c.loop-item.places.items c.push_with_place.new.places.items c.loop-item-test.true c.item-item.is c.loop-item.invariant.place c.loop-item.invariant.places
      (c.in_ok-push_with_place.ensures ∙ ap (λ (ids : List (List ℕ)). c.loop-item.places.items ++ with_place c.loop-item.place ids) c.as_slice.ensures);
  place = omega (arith, c.loop-item.invariant.place);
}

pub returns : goal.returns
returns c =
    c.loop-item.invariant.places ∙ ap (λ (xs : List NewVoucher). voucher_places_from c.args.count (records_of (vouchers_of xs))) (take_all c.loop-item.item-index c.args.vouchers.now c.loop-item-test.false)
