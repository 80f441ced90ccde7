use Rattle.std.proofs.Common.{subst, arith}
use Rattle.std.specs.Prelude.{OnOk}
use Rattle.depot_laws.proofs.own_updates.OwnTexts.{lawful_is_short}
use Rattle.depot_readings.specs.FrontPlaces.{AddsPlaces}
use Rattle.depot_readings.specs.ReadingsView.{Known}
use Rattle.depot_readings.proofs.FrontPlaceLaws.{adds_places}
use Rattle.depot_readings.proofs.readings.Readings.push_voucher_places.Goals as goal

pub returns : goal.returns
returns g c =
    let short = lawful_is_short _ c.self.inside.records.items c.self.invariant.1.lawful in
    subst (λ (v : Known). OnOk c.push_places.result (AddsPlaces v.records c.args.id.now c.args.found.now.items c.push_places.new.found.items)) c.self.view_is
    (adds_places c.push_places.result _ c.self.inside.parts.front c.args.id.now c.args.found.now.items c.push_places.new.found.items c.self.invariant.0.fronts (omega (arith, short)) c.push_places.ensures.kept c.push_places.ensures.all c.push_places.ensures.only)
