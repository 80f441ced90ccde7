use Rattle.std.proofs.Common.{ℕ, List, subst}
use Rattle.std.proofs.lemmas.List.{take_all}
use Rattle.depot_queries.specs.InFront.{AreVoucherPlaces}
use Rattle.depot_queries.proofs.FrontOrder.{found_more, found_none}
use Rattle.depot_queries.proofs.in_front.places_found.Goals as goal

pub loop-id-init : goal.loop-id-init
loop-id-init g c = found_none c.args.readings.now.records c.new-found.result.items c.new-found.ensures.items

pub loop-id-preserved : goal.loop-id-preserved
loop-id-preserved g c =
    found_more c.args.readings.now.records c.args.ids.now c.loop-id.id-index c.id-item.result c.loop-id.found.items c.push_voucher_places.new.found.items c.loop-id-test.true c.id-item.is c.loop-id.invariant c.in_ok-push_voucher_places.ensures

pub returns : goal.returns
returns g c = subst (λ (ids : List (List ℕ)). AreVoucherPlaces c.args.readings.now.records ids c.loop-id.found.items) (take_all c.loop-id.id-index c.args.ids.now c.loop-id-test.false) c.loop-id.invariant
